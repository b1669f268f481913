use Rattle.std.proofs.Common.{subst, sym, arith, ◌+◌}
use Rattle.pc_thread_view.specs.Inner.Held.{told}
use Rattle.pc_thread_view.specs.Told.{RiseAbove, HasEach}
use Rattle.pc_thread_view.specs.Inner.Taking.{AreTold}
use Rattle.pc_thread_view.proofs.Gaining.{rise_from}
use Rattle.pc_thread_view.proofs.Taking.{early_told, fresh_source}
use Rattle.pc_thread_view.proofs.held.take_several.Goals as goal

pub comes_after-requires : goal.comes_after-requires
comes_after-requires c = subst (RiseAbove 0) (sym c.as_slice.ensures) (rise_from (c.args.held.now.prefix.upto + 1) 0 c.args.held.now.early.items (omega arith) c.requires.sound.gap)

pub returns-then-comes_after-clause-of_source : goal.returns-then-comes_after-clause-of_source
returns-then-comes_after-clause-of_source c = λ s a b. c.merge.ensures.of_source s a tt b

pub merge-requires-2-clause-first : goal.merge-requires-2-clause-first
merge-requires-2-clause-first c = subst AreTold (sym c.as_slice-2.ensures) (early_told (told c.args.held.now) c.requires.sound)

pub returns-clause-of_source : goal.returns-clause-of_source
returns-clause-of_source c = λ s a b. c.merge-2.ensures.of_source s (fresh_source (told c.args.held.now) (told c.without_early-joined.result) c.without_early-joined.ensures s a) (subst (HasEach s) (sym c.as_slice-2.ensures) a.early) b
