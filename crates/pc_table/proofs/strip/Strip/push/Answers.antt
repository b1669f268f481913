use Rattle.std.proofs.Common.{map, ap, arith}
use Rattle.pc_table.proofs.Lists.{grown}
use Rattle.pc_table.specs.Sheets.{widest}
use Rattle.pc_table.proofs.strip.Strip.push.Goals as goal

pub invariant_of-self-2 : goal.invariant_of-self-2
invariant_of-self-2 c =
    let more = grown (λ text. text.items) c.self.inside.texts.items c.args.text in
    let items = ap (λ texts. widest (map (λ text. text.items) texts)) (c.in_ok-push.ensures).items in
    omega (arith, more, items, c.max-width.ensures, c.len.ensures, c.self.invariant)
