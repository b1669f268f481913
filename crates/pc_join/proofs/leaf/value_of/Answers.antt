use Rattle.std.proofs.Common.{sym, ◌∙◌}
use Rattle.pc_join.proofs.Standing.{absent, present}
use Rattle.pc_join.proofs.leaf.value_of.Goals as goal

pub returns-then-stands_at : goal.returns-then-stands_at
returns-then-stands_at g c = sym (present c.args.entries.now c.args.name c.place_of-place.result c.place_of-place.ensures (sym c.stands_at.ensures ∙ c.if-stands_at.true) c.index-entries-place.result)

pub returns : goal.returns
returns g c = sym (absent c.args.entries.now c.args.name c.place_of-place.result c.place_of-place.ensures (sym c.stands_at.ensures ∙ c.if-stands_at.false))
