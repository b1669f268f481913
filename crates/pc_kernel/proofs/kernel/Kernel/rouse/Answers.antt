use Rattle.std.proofs.Common.{sym, refl}
use Rattle.pc_calls.specs.AgentCalls.{rouses}
use Rattle.pc_kernel.proofs.Answering.{answers_refusal, answers_change, same_kinds}
use Rattle.pc_kernel.proofs.Reached.{does_reached}
use Rattle.pc_kernel.proofs.kernel.Kernel.rouse.Goals as goal

pub invariant_of-self : goal.invariant_of-self
invariant_of-self c = does_reached (rouses c.args.cpu) c.self.inside.tables c.awaken.new.self (sym c.in-None.ensures) (λ P. refl) c.awaken.ensures.shown c.awaken.ensures.limits c.self.invariant

pub returns-in-Some : goal.returns-in-Some
returns-in-Some c = rw (← c.self.view_is) (answers_refusal (rouses c.args.cpu) c.in-Some.refusal c.self.inside.tables (sym c.in-Some.ensures))

pub returns-in-None : goal.returns-in-None
returns-in-None c =
    rw (← c.self.view_is)
    (answers_change (rouses c.args.cpu) tt c.self.inside.tables c.awaken.new.self (sym c.in-None.ensures) (λ P. refl) c.awaken.ensures.shown (same_kinds c.self.inside.tables c.awaken.new.self c.awaken.ensures.threads) c.awaken.ensures.limits)
