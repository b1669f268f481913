use Rattle.std.proofs.Common.{◌==◌, subst, sym, refl, false}
use Rattle.pc_thread_view.specs.Inner.Taking.{BeginsWith}
use Rattle.pc_thread_view.proofs.Among.{no_items}
use Rattle.pc_thread_view.proofs.held.begins_with.Goals as goal

pub returns-in-Some : goal.returns-in-Some
returns-in-Some c = subst (λ es. BeginsWith es c.args.number (c.in-Some.first.now.0 == c.args.number)) (sym c.in-Some.ensures.cases.0) refl

pub returns-in-None : goal.returns-in-None
returns-in-None c = subst (λ es. BeginsWith es c.args.number false) (sym (no_items c.args.early.now c.in-None.ensures.cases)) refl
