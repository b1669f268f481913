use Rattle.std.proofs.Common.{sym, ap, not, ◌∙◌, arith}
use Rattle.std.proofs.lemmas.Bool.{false≢true}
use Rattle.pc_join.proofs.Comparing.{ended, longer}
use Rattle.pc_join.proofs.near.is_same_by.Goals as goal

pub returns-then-is_none : goal.returns-then-is_none
returns-then-is_none g c = ended g.V.PartialEq.eq c.args.places.now c.args.entries.now c.args.other_places.now c.args.other_entries.now c.requires.index c.requires.other_index
    c.min-shared.result c.min-shared.ensures c.next_name.result c.next_name-then-is_none.result c.is_none-then-is_none.result
    (c.is_none.ensures ∙ ap not c.if-is_none.true) c.is_none-then-is_none.ensures
    (λ name lt. c.loop-name.invariant name (omega arith)) c.next_name.ensures c.next_name-then-is_none.ensures

pub returns-else-is_none : goal.returns-else-is_none
returns-else-is_none g c = (
  λ t. absurd (false≢true (sym c.if-is_none.false ∙ t)),
  λ all. absurd (longer g.V.PartialEq.eq c.args.places.now c.args.entries.now c.args.other_places.now c.args.other_entries.now c.requires.index c.requires.other_index
      c.min-shared.result c.min-shared.ensures c.next_name.result (c.is_none.ensures ∙ ap not c.if-is_none.false) c.next_name.ensures all),
)
