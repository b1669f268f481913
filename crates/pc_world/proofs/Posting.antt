-- Calls of the environment, as events of a world.
use Rattle.std.proofs.Common.{◌≡◌, Result, Ok, Err, refl, subst, sym}
use Rattle.pc_calls.specs.declared.call.Call.TheVariants.{Env}
use Rattle.pc_calls.specs.declared.call.EnvCall.{EnvCall}
use Rattle.pc_calls.specs.declared.call.Answer.TheVariants as answers
use Rattle.pc_calls.specs.declared.call.Posted.{Posted}
use Rattle.pc_calls.specs.declared.event.Event.TheVariants as events
use Rattle.pc_calls.specs.declared.event.Reply.{Reply}
use Rattle.pc_calls.specs.declared.refusal.CallFault.{CallFault}
use Rattle.pc_calls.specs.declared.refusal.CallFault.TheVariants.{Refused, OutOfMemory}
use Rattle.pc_join.specs.declared.join.OutOfMemory.{OutOfMemory as NoMemory}
use Rattle.pc_kernel.specs.Answers.{AnsweredInMemory}
use Rattle.pc_kernel.proofs.Answered.{told}
use Rattle.pc_world.specs.declared.parts.Parts.{Parts}
use Rattle.pc_world.specs.Inner.Handling.{Handles, outcome_of}
use Rattle.pc_world.specs.Inner.Laws.{RunsGoOn}
use Rattle.pc_world.specs.Inner.Putting.{IsPut}
use Rattle.pc_world.specs.Shows.{deltas_of}
use Rattle.pc_world.proofs.Calls.{call_done, call_ran_out, call_refused}

-- a call of the environment, whose outcome was put into the place of a reply
pub posted : (goes : RunsGoOn) (old new : Parts) (call : EnvCall) (outcome : Result Posted CallFault) (result : Result (Unit {0}) NoMemory) (reply : Reply)
    → new.agents.items ≡ old.agents.items → deltas_of new ≡ deltas_of old → AnsweredInMemory answers.Posted (Env call) outcome old.kernel new.kernel → IsPut outcome result reply
    → Handles (events.Env call) (outcome_of result reply) old new
posted goes old new call (Ok p) (Ok done) reply agents sent did put =
    call_done goes old new (events.Env call) (Env call) refl agents sent (answers.Posted p) reply put (told (Env call) (Ok p) old.kernel new.kernel did.step)
posted goes old new call (Err (Refused refusal)) (Ok done) reply agents sent did put =
    subst (λ reply. Handles (events.Env call) (Ok reply) old new) (sym put)
    (call_refused goes old new (events.Env call) (Env call) refl agents sent refusal (told (Env call) (Err (Refused refusal)) old.kernel new.kernel did.step))
posted goes old new call (Err OutOfMemory) (Err fault) reply agents sent did put =
    call_ran_out goes old new (events.Env call) (Env call) refl agents sent fault (λ w none. none) (told (Env call) (Err OutOfMemory) old.kernel new.kernel did.step)
posted goes old new call (Ok p) (Err fault) reply agents sent did put = absurd put
posted goes old new call (Err (Refused refusal)) (Err fault) reply agents sent did put = absurd put
posted goes old new call (Err OutOfMemory) (Ok done) reply agents sent did put = absurd put
