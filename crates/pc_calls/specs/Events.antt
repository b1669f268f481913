-- Which events are calls of the kernel, and what a call is replied.
use Rattle.std.specs.Prelude.{Option, Some, None, Result, Ok, Err}
use Rattle.pc_calls.specs.declared.call.AgentCall.TheVariants.{Associate, Commit, Sleep, Rouse, Config}
use Rattle.pc_calls.specs.declared.call.Answer.{Answer}
use Rattle.pc_calls.specs.declared.call.Answer.TheVariants as answer
use Rattle.pc_calls.specs.declared.call.Call.{Call}
use Rattle.pc_calls.specs.declared.call.Call.TheVariants as call
use Rattle.pc_calls.specs.declared.event.Event.{Event}
use Rattle.pc_calls.specs.declared.event.Event.TheVariants.{Env, Agent, Publish, Consume, Deliver}
use Rattle.pc_calls.specs.declared.event.Event.TheVariants.{Answer as AnswerDigest, Pick, Steal, Crash}
use Rattle.pc_calls.specs.declared.event.Reply.{Reply}
use Rattle.pc_calls.specs.declared.event.Reply.TheVariants as reply
use Rattle.pc_calls.specs.declared.refusal.Refusal.{Refusal}

-- the call of the kernel that an event is; none of an agent's own events
abbrev pub call_of : Event → Option Call
call_of (Env c) = Some (call.Env c)
call_of (Agent c) = Some (call.Agent c)
call_of (Publish cpu fails) = None
call_of (Consume cpu) = None
call_of (Deliver cpu delta) = None
call_of (AnswerDigest cpu asker) = None
call_of (Pick cpu aseq) = None
call_of (Steal cpu) = None
call_of (Crash cpu) = None

-- what a call that is done, and has no answer of its own, is replied
abbrev pub done_told : Call → Reply
done_told (call.Env c) = reply.Done
done_told (call.Consume cpu count) = reply.Done
done_told (call.Agent (Associate thread queue number)) = reply.Associated queue thread
done_told (call.Agent (Commit cpu thread aseq)) = reply.Committed cpu thread
done_told (call.Agent (Sleep cpu aseq)) = reply.Done
done_told (call.Agent (Rouse cpu)) = reply.Done
done_told (call.Agent (Config queue target)) = reply.Done

-- what an accepted call is replied
abbrev pub reply_to : Call → Answer → Reply
reply_to c (answer.Posted posted) = reply.Posted posted
reply_to c answer.Done = done_told c

-- what a call is replied, accepted or refused
abbrev pub told_of : Call → Result Answer Refusal → Reply
told_of c (Ok answer) = reply_to c answer
told_of c (Err refusal) = reply.Refused refusal
