-- How long threads wait: from when they are ready until they run.
use Rattle.std.specs.Prelude.{ℕ, zero, suc, nat_abs, ◌-◌, ◌==◌, Bool, false, not, if◌then◌else◌}
use Rattle.std.specs.Prelude.{List, [], ◌∷◌, ◌++◌, Option, Some, None, is_some, option_map, slice_get, unwrap_or}
use Rattle.std.specs.Option.{option_map_or}
use Rattle.pc_calls.specs.Effects.{effect_of}
use Rattle.pc_calls.specs.declared.effect.Effect.{Effect}
use Rattle.pc_calls.specs.declared.event.Reply.{Reply}
use Rattle.pc_calls.specs.declared.event.Reply.TheVariants as reply
use Rattle.pc_kernel.specs.Reads.{Reads, is_waiting}
use Rattle.pc_load.specs.Loads.{Demand}
use Rattle.pc_messages.specs.State.{is_ready}
use Rattle.pc_lab.specs.declared.waits.Wait.{Wait}
use Rattle.pc_lab.specs.Moments.{Moment}

-- Since when a thread is ready, and whether its creation or a waking made it so
pub record Since : Type 0 where
  pub tick : ℕ
  pub is_woken : Bool

-- before anything has happened
abbrev pub at_start : Since
at_start = record { tick = 0; is_woken = false }

-- whether what an event does makes its thread ready, and then whether by a creation or a waking
abbrev pub made_ready_by : Effect → Option Bool
made_ready_by effect =
    if option_map_or is_ready effect.phase false then Some (not (is_some effect.left)) else None

-- the thread of which a reply tells that a message was posted
abbrev pub posted_of : Reply → Option ℕ
posted_of (reply.Posted posted) = posted.thread
posted_of other = None

-- it is this thread
abbrev pub is_thread : ℕ → Option ℕ → Bool
is_thread t thread = option_map_or (λ other. other == t) thread false

-- since when a thread is ready, where a moment made it so
abbrev pub ready_in : ℕ → Moment → Option Since
ready_in t moment =
    if is_thread t (posted_of moment.reply)
    then option_map (λ woken. record { tick = moment.tick; is_woken = woken }) (made_ready_by (effect_of moment.event))
    else None

-- since when a thread is ready: by the last of the moments that made it so, or since before, where none did
abbrev pub ready_after : ℕ → Since → List Moment → Since
ready_after t before [] = before
ready_after t before (moment ∷ moments) = ready_after t (unwrap_or (ready_in t moment) before) moments

-- the same, where the moments are all there were
abbrev pub ready_since : List Moment → ℕ → Since
ready_since moments t = ready_after t at_start moments

-- the level of a thread of a load, by its place, which is its name
abbrev pub level_of : Demand → ℕ → ℕ
level_of load t = option_map_or (λ need. nat_abs need.level) (slice_get load.threads t) 0

-- how long a thread of a level that is ready since then has waited up to a tick
abbrev pub waited : Since → ℕ → ℕ → Wait
waited since level tick = record { ticks = tick - since.tick; level = level; is_woken = since.is_woken }

-- how long a thread has waited up to a tick, behind these moments
abbrev pub wait_behind : Demand → List Moment → ℕ → ℕ → Wait
wait_behind load moments tick t = waited (ready_since moments t) (level_of load t) tick

-- the wait that a reply ends: that of the thread that runs from now on
abbrev pub ended_by : (ℕ → Wait) → Reply → List Wait
ended_by wait (reply.Committed cpu thread) = wait thread ∷ []
ended_by wait other = []

-- the waits that moments end, in their order, behind earlier ones
abbrev pub ended_after : Demand → List Moment → List Moment → List Wait
ended_after load before [] = []
ended_after load before (moment ∷ moments) =
    ended_by (wait_behind load before moment.tick) moment.reply ++ ended_after load (before ++ moment ∷ []) moments

-- the waits that moments end, where they are all there were
abbrev pub ended_waits : Demand → List Moment → List Wait
ended_waits load moments = ended_after load [] moments

-- the waits of those of the first so many threads that wait, in their order
abbrev pub waits_below : (ℕ → Wait) → Reads → ℕ → List Wait
waits_below wait kernel zero = []
waits_below wait kernel (suc t) =
    waits_below wait kernel t ++ (if is_waiting kernel t then wait t ∷ [] else [])

-- the waits that moments do not end, up to a tick: those of the threads that the kernel has waiting
abbrev pub unended_waits : Demand → List Moment → Reads → ℕ → List Wait
unended_waits load moments kernel tick = waits_below (wait_behind load moments tick) kernel kernel.threads
