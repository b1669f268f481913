use Rattle.std.proofs.Common.{subst}
use Rattle.pc_thread_view.specs.Told.{RiseAbove}
use Rattle.pc_thread_view.proofs.Places.{rise_take, among_first}
use Rattle.pc_thread_view.proofs.held.place_of.Goals as goal

pub place_by_halves-requires : goal.place_by_halves-requires
place_by_halves-requires c = rise_take 0 c.front_of.result.now c.front_of.ensures.0 (subst (RiseAbove 0) c.front_of.ensures.1 c.requires)

pub returns : goal.returns
returns c = among_first c.args.early.now c.front_of.result.now c.front_of.ensures.0 c.args.number c.place_by_halves.result c.front_of.ensures.1 c.requires c.front_of.ensures.2 c.place_by_halves.ensures
