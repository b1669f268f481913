-- Threads that come.
use Rattle.std.specs.Prelude.{◌≡◌, ℕ, nat_abs, Bool, true, false, if◌then◌else◌, List, length, take, filter_map, map}
use Rattle.std.specs.Prelude.{Option, Some, None}
use Rattle.pc_calls.specs.declared.call.EnvCall.TheVariants as env
use Rattle.pc_calls.specs.declared.event.Event.{Event}
use Rattle.pc_calls.specs.declared.event.Event.TheVariants as event
use Rattle.pc_calls.specs.declared.event.Reply.{Reply}
use Rattle.pc_calls.specs.declared.event.Reply.TheVariants as reply
use Rattle.pc_load.specs.Loads.{Demand, Need}
use Rattle.pc_lab.specs.Moments.{Moment}

-- A thread is created: at a tick, with its messages to a queue, for the CPUs of a mask, ready or blocked
pub record Creation : Type 0 where
  pub tick : ℕ
  pub queue : ℕ
  pub mask : ℕ
  pub is_ready : Bool

-- the creation that an event at a tick asks for, if it asks for one
abbrev pub creation_at : ℕ → Event → Option Creation
creation_at tick (event.Env (env.Create queue ready mask)) =
    Some (record { tick = tick; queue = queue; mask = mask; is_ready = ready })
creation_at tick other = None

-- the event asks for no creation
abbrev pub CreatesNone : Event → Type 0
CreatesNone event = (tick : ℕ) → creation_at tick event ≡ None

-- it was accepted, and posted
abbrev pub is_posted : Reply → Bool
is_posted (reply.Posted posted) = true
is_posted other = false

-- the creation that a moment is, where it was accepted
abbrev pub creation_in : Moment → Option Creation
creation_in moment = if is_posted moment.reply then creation_at moment.tick moment.event else None

-- the creations among the moments that were accepted, in order
abbrev pub creations : List Moment → List Creation
creations moments = filter_map creation_in moments

-- the creation of a thread of a load: at its start, with its queue and its mask, ready
abbrev pub creation_of : Need → Creation
creation_of need =
    record { tick = nat_abs need.start; queue = nat_abs need.queue; mask = nat_abs need.mask; is_ready = true }

-- the creations of all threads of a load, in order
abbrev pub creations_of : Demand → List Creation
creations_of load = map creation_of load.threads

-- these are the first ones of all
abbrev pub AreFirst : List Creation → List Creation → Type 0
AreFirst those all = those ≡ take (length those) all
