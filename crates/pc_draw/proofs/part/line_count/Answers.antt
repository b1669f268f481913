use Rattle.std.proofs.lemmas.Bool.{eq-eqb, ne_eqb}
use Rattle.pc_draw.proofs.LineCounts.{counted, counted_behind}
use Rattle.pc_draw.proofs.part.line_count.Goals as goal

pub returns-in-Some : goal.returns-in-Some
returns-in-Some c =
    rw c.line_feeds-ended.ensures
    (counted_behind c.args.text.now c.in-Some.last.now (ne_eqb c.in-Some.last.now 10 c.if-last-ne10.true) c.in-Some.ensures.value)

pub returns-in_default : goal.returns-in_default
returns-in_default c =
    rw c.line_feeds-ended.ensures
    (counted c.args.text.now c.in-Some.last.now (eq-eqb c.in-Some.last.now 10 c.if-last-ne10.false) c.in-Some.ensures.value)
