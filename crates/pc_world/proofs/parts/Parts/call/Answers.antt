use Rattle.std.proofs.Common.{Err, refl, subst, ap, ◌∙◌}
use Rattle.pc_calls.specs.declared.call.Call.TheVariants.{Agent}
use Rattle.pc_calls.specs.declared.event.Event.TheVariants as events
use Rattle.pc_kernel.specs.Answers.{StepsInMemory, itself}
use Rattle.pc_world.proofs.Calls.{call_done, call_ran_out, call_refused}
use Rattle.pc_world.proofs.parts.Parts.call.Goals as goal

pub returns-in-Ok-clause-handles : goal.returns-in-Ok-clause-handles
returns-in-Ok-clause-handles c =
    call_done c.runs_go_on.ensures c.args.self.now _ (events.Agent c.args.call.now) (Agent c.args.call.now) refl refl refl c.in-Ok.answer c.reply.result c.reply.ensures c.in-Ok.ensures.answered.step

pub returns-in-Err-Refused-clause-handles : goal.returns-in-Err-Refused-clause-handles
returns-in-Err-Refused-clause-handles c =
    rw c.in-Err-Refused.refusal-is (call_refused c.runs_go_on.ensures c.args.self.now _ (events.Agent c.args.call.now) (Agent c.args.call.now) refl refl refl c.in-Err-Refused.refusal
    (subst (λ r. StepsInMemory itself (Agent c.args.call.now) r c.args.self.now.kernel c.apply.new.self) (c.in-Err-Refused.is ∙ ap Err c.in-Err-Refused.field-0-is) c.apply.ensures.answered.step))

-- no call of an agent takes memory
pub returns-in-Err-OutOfMemory-clause-handles : goal.returns-in-Err-OutOfMemory-clause-handles
returns-in-Err-OutOfMemory-clause-handles c =
    let fault = c.in-Err-OutOfMemory.is ∙ ap Err c.in-Err-OutOfMemory.field-0-is in
    let env = c.apply.ensures.environment fault in
    call_ran_out c.runs_go_on.ensures c.args.self.now _ (events.Agent c.args.call.now) (Agent c.args.call.now) refl refl refl _
    (λ w none. cc env.1)
    (subst (λ r. StepsInMemory itself (Agent c.args.call.now) r c.args.self.now.kernel c.apply.new.self) fault c.apply.ensures.answered.step)
