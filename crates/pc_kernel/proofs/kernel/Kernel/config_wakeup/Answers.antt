use Rattle.std.proofs.Common.{◌≡◌, ◌∙◌, ℕ, Option, Some, None, Ok, refl, sym, subst}
use Rattle.pc_calls.specs.AgentCalls.{configures}
use Rattle.pc_kernel.specs.Answers.{Answered, done}
use Rattle.pc_kernel.specs.Reads.{seen}
use Rattle.pc_kernel.specs.Steps.{refused, at}
use Rattle.pc_kernel.proofs.Answering.{answers_refusal, answers_change, same_kinds}
use Rattle.pc_kernel.proofs.Reached.{does_reached}
use Rattle.pc_kernel.proofs.kernel.Kernel.config_wakeup.Goals as goal

pub invariant_of-self : goal.invariant_of-self
invariant_of-self c =
    let old = c.self.inside.tables in
    let queue = c.args.queue in
    let cpu = c.in-Some-target.cpu in
    let accepts : refused (seen old) (configures queue (Some cpu)) ≡ None = subst (λ (target : Option ℕ). refused (seen old) (configures queue target) ≡ None) c.in-Some-target.is (sym c.in-None.ensures) in
    does_reached (configures queue (Some cpu)) old c.awaken.new.self accepts (λ P. refl) (λ P shows. c.awaken.ensures.shown (record P { target = at P.target queue (Some cpu) }) (c.aim.ensures.shown P shows))
    (c.awaken.ensures.limits ∙ c.aim.ensures.limits) c.self.invariant

pub invariant_of-self-in-None-target : goal.invariant_of-self-in-None-target
invariant_of-self-in-None-target c =
    let old = c.self.inside.tables in
    let accepts : refused (seen old) (configures c.args.queue None) ≡ None = subst (λ (target : Option ℕ). refused (seen old) (configures c.args.queue target) ≡ None) c.in-None-target.is (sym c.in-None.ensures) in
    does_reached (configures c.args.queue None) old c.aim-in-None-target.new.self accepts (λ P. refl) c.aim-in-None-target.ensures.shown c.aim-in-None-target.ensures.limits c.self.invariant

pub returns-in-Some : goal.returns-in-Some
returns-in-Some c = rw (← c.self.view_is) (answers_refusal (configures c.args.queue c.args.target) c.in-Some.refusal c.self.inside.tables (sym c.in-Some.ensures))

pub returns-in-Some-target : goal.returns-in-Some-target
returns-in-Some-target c =
    let old = c.self.inside.tables in
    let new = c.awaken.new.self in
    let queue = c.args.queue in
    let cpu = c.in-Some-target.cpu in
    let accepts : refused (seen old) (configures queue (Some cpu)) ≡ None = subst (λ (target : Option ℕ). refused (seen old) (configures queue target) ≡ None) c.in-Some-target.is (sym c.in-None.ensures) in
    rw (← c.self.view_is)
    (subst (λ (target : Option ℕ). Answered done (configures queue target) (Ok tt) old new) (sym c.in-Some-target.is)
    (answers_change (configures queue (Some cpu)) tt old new accepts (λ P. refl) (λ P shows. c.awaken.ensures.shown (record P { target = at P.target queue (Some cpu) }) (c.aim.ensures.shown P shows))
    (same_kinds old new (c.awaken.ensures.threads ∙ c.aim.ensures.threads)) (c.awaken.ensures.limits ∙ c.aim.ensures.limits)))

pub returns-in-None-target : goal.returns-in-None-target
returns-in-None-target c =
    let old = c.self.inside.tables in
    let new = c.aim-in-None-target.new.self in
    let queue = c.args.queue in
    let accepts : refused (seen old) (configures queue None) ≡ None = subst (λ (target : Option ℕ). refused (seen old) (configures queue target) ≡ None) c.in-None-target.is (sym c.in-None.ensures) in
    rw (← c.self.view_is)
    (subst (λ (target : Option ℕ). Answered done (configures queue target) (Ok tt) old new) (sym c.in-None-target.is)
    (answers_change (configures queue None) tt old new accepts (λ P. refl) c.aim-in-None-target.ensures.shown (same_kinds old new c.aim-in-None-target.ensures.threads) c.aim-in-None-target.ensures.limits))
