use Rattle.std.proofs.Common.{sym, subst}
use Rattle.pc_calls.specs.declared.call.Call.TheVariants.{Env}
use Rattle.pc_calls.specs.declared.call.EnvCall.{EnvCall}
use Rattle.pc_calls.specs.declared.call.Answer.TheVariants.{Posted}
use Rattle.pc_kernel.specs.Answers.{AnsweredInMemory}
use Rattle.pc_kernel.proofs.kernel.Kernel.apply_env.Goals as goal

pub returns-in-Create : goal.returns-in-Create
returns-in-Create c =
    subst (λ (call : EnvCall). AnsweredInMemory Posted (Env call) c.create.result c.args.self.now c.create.new.self) (sym c.in-Create.is) c.create.ensures

pub returns-in-Wake : goal.returns-in-Wake
returns-in-Wake c =
    subst (λ (call : EnvCall). AnsweredInMemory Posted (Env call) c.wake.result c.args.self.now c.wake.new.self) (sym c.in-Wake.is) c.wake.ensures

pub returns-in-Block : goal.returns-in-Block
returns-in-Block c =
    subst (λ (call : EnvCall). AnsweredInMemory Posted (Env call) c.block.result c.args.self.now c.block.new.self) (sym c.in-Block.is) c.block.ensures

pub returns-in-YieldNow : goal.returns-in-YieldNow
returns-in-YieldNow c =
    subst (λ (call : EnvCall). AnsweredInMemory Posted (Env call) c.yield_now.result c.args.self.now c.yield_now.new.self) (sym c.in-YieldNow.is) c.yield_now.ensures

pub returns-in-Preempt : goal.returns-in-Preempt
returns-in-Preempt c =
    subst (λ (call : EnvCall). AnsweredInMemory Posted (Env call) c.preempt.result c.args.self.now c.preempt.new.self) (sym c.in-Preempt.is) c.preempt.ensures

pub returns-in-Die : goal.returns-in-Die
returns-in-Die c =
    subst (λ (call : EnvCall). AnsweredInMemory Posted (Env call) c.die.result c.args.self.now c.die.new.self) (sym c.in-Die.is) c.die.ensures

pub returns-in-SetAffinity : goal.returns-in-SetAffinity
returns-in-SetAffinity c =
    subst (λ (call : EnvCall). AnsweredInMemory Posted (Env call) c.set_affinity.result c.args.self.now c.set_affinity.new.self) (sym c.in-SetAffinity.is) c.set_affinity.ensures

pub returns-in-SetPriority : goal.returns-in-SetPriority
returns-in-SetPriority c =
    subst (λ (call : EnvCall). AnsweredInMemory Posted (Env call) c.set_priority.result c.args.self.now c.set_priority.new.self) (sym c.in-SetPriority.is) c.set_priority.ensures

pub returns-in-Tick : goal.returns-in-Tick
returns-in-Tick c =
    subst (λ (call : EnvCall). AnsweredInMemory Posted (Env call) c.tick.result c.args.self.now c.tick.new.self) (sym c.in-Tick.is) c.tick.ensures
