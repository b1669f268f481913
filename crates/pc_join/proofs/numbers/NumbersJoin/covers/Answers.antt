use Rattle.std.proofs.Common.{◌∙◌}
use Rattle.pc_join.proofs.Walks.{covers_members}
use Rattle.pc_join.proofs.numbers.NumbersJoin.covers.Goals as goal

pub returns : goal.returns
returns c = covers_members c.covers_ranges.result c.args.self.now c.as_slice.result.now c.args.other.now c.as_slice-2.result.now (c.as_slice.ensures ∙ c.self.view_is) (c.as_slice-2.ensures ∙ c.other.view_is) c.covers_ranges.ensures
