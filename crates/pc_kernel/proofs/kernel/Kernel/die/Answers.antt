use Rattle.pc_calls.specs.declared.call.Answer.TheVariants as answer
use Rattle.pc_calls.specs.declared.call.Call.TheVariants.{Env}
use Rattle.pc_calls.specs.declared.call.EnvCall.TheVariants.{Die}
use Rattle.pc_kernel.proofs.Reached.{reached_in_memory}
use Rattle.pc_kernel.proofs.kernel.Kernel.die.Goals as goal

pub invariant_of-self : goal.invariant_of-self
invariant_of-self c = reached_in_memory answer.Posted (Env (Die c.args.cpu c.args.ran)) c.leave.result c.self.inside.tables c.leave.new.self c.leave.ensures.step c.leave.ensures.limits c.self.invariant

pub returns : goal.returns
returns c =
    let left = c.leave.ensures in
    rw (← c.self.view_is) (record { step = left.step; fault = left.fault; limits = left.limits; extends = left.extends; err = left.err })
