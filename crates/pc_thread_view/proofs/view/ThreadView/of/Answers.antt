use Rattle.std.proofs.Common.{subst, sym}
use Rattle.pc_join.specs.Sets.{IsSameSet}
use Rattle.pc_thread_view.specs.Told.{IsOfThread, IsSound, IsView, numbers_of, only}
use Rattle.pc_thread_view.proofs.Alone.{one_same, one_some, one_sound, one_source}
use Rattle.pc_thread_view.proofs.view.ThreadView.of.Goals as goal

pub returns-clause-known : goal.returns-clause-known
returns-clause-known c = subst (λ v. IsSameSet (numbers_of v) (only c.args.number)) (sym c.one.ensures) (one_same c.args.number c.args.kind)

pub returns-clause-of_source : goal.returns-clause-of_source
returns-clause-of_source c s e = subst (λ v. IsOfThread v s) (sym c.one.ensures) (one_source c.args.number c.args.kind c.requires s e)

pub returns-clause-sound : goal.returns-clause-sound
returns-clause-sound c = subst IsSound (sym c.one.ensures) (one_sound c.args.number c.args.kind c.requires)

pub invariant_of-result : goal.invariant_of-result
invariant_of-result c = subst (λ v. IsView v) (sym c.one.ensures) (record { sound = one_sound c.args.number c.args.kind c.requires; some = one_some c.args.number c.args.kind })
