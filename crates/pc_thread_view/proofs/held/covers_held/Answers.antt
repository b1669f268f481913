use Rattle.std.proofs.Common.{subst, sym, arith, ◌+◌}
use Rattle.pc_thread_view.specs.Told.{RiseAbove}
use Rattle.pc_thread_view.specs.Inner.Held.{told}
use Rattle.pc_thread_view.proofs.Gaining.{rise_from}
use Rattle.pc_thread_view.proofs.Among.{exceeds, exceeds_test}
use Rattle.pc_thread_view.proofs.held.covers_held.Goals as goal

pub covers_early-requires-clause-mine : goal.covers_early-requires-clause-mine
covers_early-requires-clause-mine c = subst (RiseAbove 0) (sym c.as_slice.ensures) (rise_from (c.args.held.now.prefix.upto + 1) 0 c.args.held.now.early.items (omega arith) c.requires.held.gap)

pub covers_early-requires-clause-others : goal.covers_early-requires-clause-others
covers_early-requires-clause-others c = subst (RiseAbove 0) (sym c.as_slice-then-upto.ensures) (rise_from (c.args.other.now.prefix.upto + 1) 0 c.args.other.now.early.items (omega arith) c.requires.other.gap)

pub returns-else-upto : goal.returns-else-upto
returns-else-upto c = (λ t. absurd (exceeds_test c.upto.result c.upto-upto.result c.if-upto.false t), λ all. absurd (exceeds (told c.args.held.now) (told c.args.other.now) c.requires.held (omega (arith, c.upto.ensures, c.upto-upto.ensures, c.if-upto.false)) all))
