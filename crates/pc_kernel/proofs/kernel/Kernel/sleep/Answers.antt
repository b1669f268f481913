use Rattle.std.proofs.Common.{sym, refl}
use Rattle.pc_calls.specs.AgentCalls.{sleeps}
use Rattle.pc_kernel.proofs.Answering.{answers_refusal, answers_change, same_kinds}
use Rattle.pc_kernel.proofs.Reached.{does_reached}
use Rattle.pc_kernel.proofs.kernel.Kernel.sleep.Goals as goal

pub invariant_of-self : goal.invariant_of-self
invariant_of-self c = does_reached (sleeps c.args.cpu c.args.aseq) c.self.inside.tables c.doze.new.self (sym c.in-None.ensures) (λ P. refl) (c.doze.ensures.shown c.args.aseq) c.doze.ensures.limits c.self.invariant

pub returns-in-Some : goal.returns-in-Some
returns-in-Some c = rw (← c.self.view_is) (answers_refusal (sleeps c.args.cpu c.args.aseq) c.in-Some.refusal c.self.inside.tables (sym c.in-Some.ensures))

pub returns-in-None : goal.returns-in-None
returns-in-None c =
    rw (← c.self.view_is)
    (answers_change (sleeps c.args.cpu c.args.aseq) tt c.self.inside.tables c.doze.new.self (sym c.in-None.ensures) (λ P. refl) (c.doze.ensures.shown c.args.aseq) (same_kinds c.self.inside.tables c.doze.new.self c.doze.ensures.threads) c.doze.ensures.limits)
