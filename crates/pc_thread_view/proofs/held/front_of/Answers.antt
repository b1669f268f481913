use Rattle.std.proofs.Common.{sym, subst}
use Rattle.pc_thread_view.specs.Told.{RiseAbove}
use Rattle.pc_thread_view.proofs.Places.{rise_drop}
use Rattle.pc_thread_view.proofs.held.front_of.Goals as goal

pub is_before_all-requires : goal.is_before_all-requires
is_before_all-requires c = subst (RiseAbove 0) (sym c.split_at.ensures.back) (rise_drop 0 c.args.early.now 16 c.requires)
