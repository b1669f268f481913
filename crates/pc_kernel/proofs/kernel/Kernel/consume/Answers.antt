use Rattle.std.proofs.Common.{sym, refl}
use Rattle.pc_calls.specs.declared.call.Call.TheVariants.{Consume}
use Rattle.pc_kernel.proofs.Answering.{answers_refusal, answers_change, same_kinds}
use Rattle.pc_kernel.proofs.Reached.{does_reached}
use Rattle.pc_kernel.proofs.kernel.Kernel.consume.Goals as goal

pub invariant_of-self : goal.invariant_of-self
invariant_of-self c = does_reached (Consume c.args.cpu c.args.count) c.self.inside.tables c.cut.new.self (sym c.in-None.ensures) (λ P. refl) c.cut.ensures.shown c.cut.ensures.limits c.self.invariant

pub returns-in-Some : goal.returns-in-Some
returns-in-Some c = rw (← c.self.view_is) (answers_refusal (Consume c.args.cpu c.args.count) c.in-Some.refusal c.self.inside.tables (sym c.in-Some.ensures))

pub returns-in-None : goal.returns-in-None
returns-in-None c =
    rw (← c.self.view_is)
    (answers_change (Consume c.args.cpu c.args.count) tt c.self.inside.tables c.cut.new.self (sym c.in-None.ensures) (λ P. refl) c.cut.ensures.shown (same_kinds c.self.inside.tables c.cut.new.self c.cut.ensures.threads) c.cut.ensures.limits)
