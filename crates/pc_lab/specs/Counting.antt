-- What of a run is counted.
use Rattle.std.specs.Prelude.{◌≡◌, ℕ, Bool, false, ◌==◌, ◌+◌, if◌then◌else◌, List, Option, Some, None, count_by}
use Rattle.std.specs.Prelude.{slice_index_or}
use Rattle.pc_calls.specs.declared.call.AgentCall.TheVariants as agent_call
use Rattle.pc_calls.specs.declared.call.EnvCall.TheVariants as env
use Rattle.pc_calls.specs.declared.event.Event.{Event}
use Rattle.pc_calls.specs.declared.event.Event.TheVariants as event
use Rattle.pc_calls.specs.declared.event.Reply.{Reply}
use Rattle.pc_calls.specs.declared.event.Reply.TheVariants as reply
use Rattle.pc_calls.specs.declared.refusal.Refusal.{Refusal}
use Rattle.pc_calls.specs.declared.refusal.Refusal.TheVariants as refusal
use Rattle.pc_lab.specs.declared.counted.Counted.{Counted}
use Rattle.pc_lab.specs.declared.counted.Counted.TheVariants.{Commit, Steal, Message, Delta, Deliver}
use Rattle.pc_lab.specs.declared.counted.Counted.TheVariants.{PreemptSpent, WakeSpent, BlockSpent, YieldSpent, DieSpent}
use Rattle.pc_lab.specs.declared.counted.Counted.TheVariants.{PickStale, PickNothingReady, StealNothing, StealDead}
use Rattle.pc_lab.specs.declared.counted.Counted.TheVariants.{StealStale, SleepStale}
use Rattle.pc_lab.specs.Moments.{Moment}

-- what a call of the environment counts as whose thread has used all its numbers
abbrev pub spent_of : Event → Option Counted
spent_of (event.Env (env.Preempt cpu ran)) = Some PreemptSpent
spent_of (event.Env (env.Wake thread)) = Some WakeSpent
spent_of (event.Env (env.Block cpu ran)) = Some BlockSpent
spent_of (event.Env (env.YieldNow cpu ran)) = Some YieldSpent
spent_of (event.Env (env.Die cpu ran)) = Some DieSpent
spent_of other = None

-- what an event counts as that comes too late
abbrev pub stale_of : Event → Option Counted
stale_of (event.Pick cpu aseq) = Some PickStale
stale_of (event.Steal cpu) = Some StealStale
stale_of (event.Agent (agent_call.Sleep cpu aseq)) = Some SleepStale
stale_of other = None

-- what a refused event counts as
abbrev pub refused_as : Event → Refusal → Option Counted
refused_as event refusal.NumbersSpent = spent_of event
refused_as event (refusal.Stale number) = stale_of event
refused_as event refusal.NothingReady = Some PickNothingReady
refused_as event refusal.NothingToSteal = Some StealNothing
refused_as event refusal.Dead = Some StealDead
refused_as event other = None

-- what an event counts as that is done with nothing more to say
abbrev pub done_as : Event → Option Counted
done_as (event.Deliver cpu delta) = Some Deliver
done_as other = None

-- what an event with its reply counts as
abbrev pub counted_as : Event → Reply → Option Counted
counted_as event reply.Done = done_as event
counted_as event (reply.Posted posted) = Some Message
counted_as event (reply.Associated queue thread) = Some Steal
counted_as event (reply.Committed cpu thread) = Some Commit
counted_as event (reply.Published delta items) = Some Delta
counted_as event (reply.Consumed items) = None
counted_as event (reply.Answered delta) = None
counted_as event (reply.Refused refusal) = refused_as event refusal

-- where each count stands
abbrev pub place_of : Counted → ℕ
place_of Commit = 0
place_of Steal = 1
place_of Message = 2
place_of Delta = 3
place_of Deliver = 4
place_of PreemptSpent = 5
place_of WakeSpent = 6
place_of BlockSpent = 7
place_of YieldSpent = 8
place_of DieSpent = 9
place_of PickStale = 10
place_of PickNothingReady = 11
place_of StealNothing = 12
place_of StealDead = 13
place_of StealStale = 14
place_of SleepStale = 15

-- it counts as this
abbrev pub is_counted : Counted → Option Counted → Bool
is_counted what None = false
is_counted what (Some other) = place_of other == place_of what

-- how many of the moments count as this
abbrev pub count_of : Counted → List Moment → ℕ
count_of what moments = count_by (λ moment. is_counted what (counted_as moment.event moment.reply)) moments

-- the count of a kind, among the counts of all
abbrev pub counted_in : List ℕ → Counted → ℕ
counted_in counts what = slice_index_or counts (place_of what) 0

-- a count is one more where something counts as it, and stays where not
abbrev pub Counts : Option Counted → List ℕ → List ℕ → Type 0
Counts counted old new =
    (what : Counted) → counted_in new what ≡ counted_in old what + (if is_counted what counted then 1 else 0)
