use Rattle.std.proofs.Common.{subst, sym}
use Rattle.pc_thread_view.specs.Inner.Taking.{AreTold}
use Rattle.pc_thread_view.specs.Told.{HasEach}
use Rattle.pc_thread_view.specs.Inner.Held.{told}
use Rattle.pc_thread_view.proofs.Taking.{early_told}
use Rattle.pc_thread_view.proofs.held.join_held.Goals as goal

pub take_early-requires-clause-more : goal.take_early-requires-clause-more
take_early-requires-clause-more c = subst AreTold (sym c.as_slice.ensures) (early_told (told c.args.other.now) c.requires.other)

pub returns-then-upto-clause-of_source : goal.returns-then-upto-clause-of_source
returns-then-upto-clause-of_source c = λ s a b. c.take_early.ensures.of_source s (c.advance.ensures.of_source s a b) (subst (HasEach s) (sym c.as_slice.ensures) b.early)

pub take_early-requires-2-clause-more : goal.take_early-requires-2-clause-more
take_early-requires-2-clause-more c = subst AreTold (sym c.as_slice-2.ensures) (early_told (told c.args.other.now) c.requires.other)

pub returns-clause-of_source : goal.returns-clause-of_source
returns-clause-of_source c = λ s a b. c.take_early-2.ensures.of_source s a (subst (HasEach s) (sym c.as_slice-2.ensures) b.early)
