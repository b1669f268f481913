use Rattle.std.proofs.Common.{subst, sym, ◌∙◌}
use Rattle.pc_join.specs.Sets.{IsWithin}
use Rattle.pc_thread_view.specs.Inner.Held.{told}
use Rattle.pc_thread_view.specs.Told.{IsOfThread, numbers_of, told_by_prefix}
use Rattle.pc_thread_view.proofs.Alone.{prefix_reached}
use Rattle.pc_thread_view.proofs.view.ThreadView.take_prefix.Goals as goal

pub returns-clause-of_source : goal.returns-clause-of_source
returns-clause-of_source c = λ s a b. c.take_prefix.ensures.of_source s (subst (λ v. IsOfThread v s) (sym c.self.view_is) a) b

pub returns-clause-known : goal.returns-clause-known
returns-clause-known c = λ within.
    c.take_prefix.ensures.known (prefix_reached (told c.self.inside.held) c.args.upto c.args.reported c.self.invariant.sound
    (subst (λ v. IsWithin (numbers_of (told_by_prefix c.args.upto c.args.reported)) (numbers_of v)) (sym c.self.view_is) within)) ∙ c.self.view_is
