use Rattle.std.proofs.Common.{subst, sym, arith, ◌+◌}
use Rattle.pc_thread_view.specs.Told.{RiseAbove}
use Rattle.pc_thread_view.proofs.Gaining.{rise_from}
use Rattle.pc_thread_view.proofs.held.has_from.Goals as goal

pub is_among_from-requires : goal.is_among_from-requires
is_among_from-requires c = subst (RiseAbove 0) (sym c.as_slice.ensures) (rise_from (c.args.held.now.prefix.upto + 1) 0 c.args.held.now.early.items (omega arith) c.requires.gap)
