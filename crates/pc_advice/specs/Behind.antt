-- What the kernel will show once steps are done: what it shows now, and what each step then changes, by its effect.
use Rattle.std.specs.Prelude.{ℕ, ◌≡◌, ◌≤◌, ◌+◌, ◌-◌, ◌==◌, min, nat_le, nat_lt, Bool, true, false, not, ◌&&◌}
use Rattle.std.specs.Prelude.{if◌then◌else◌, List, [], ◌∷◌, length, take, filter, count_by, sum_by, Option, Some, None}
use Rattle.std.specs.Prelude.{is_none, is_some, slice_get, unwrap_or}
use Rattle.std.specs.List.{suffix_len}
use Rattle.std.specs.Option.{option_map, option_map_or, option_and_then}
use Rattle.pc_messages.specs.State.{last_given}
use Rattle.pc_messages.specs.declared.reported.Phase.{Phase}
use Rattle.pc_messages.specs.declared.reported.Phase.TheVariants.{Blocked}
use Rattle.pc_messages.specs.declared.reported.Reported.{Reported}
use Rattle.pc_calls.specs.Effects.{changed_cpu, effect_of_agent, effect_of_env}
use Rattle.pc_calls.specs.Leavings.{left_by}
use Rattle.pc_calls.specs.declared.call.EnvCall.{EnvCall}
use Rattle.pc_calls.specs.declared.call.EnvCall.TheVariants as env
use Rattle.pc_calls.specs.declared.effect.Effect.{Effect}
use Rattle.pc_calls.specs.declared.event.Event.{Event}
use Rattle.pc_calls.specs.declared.event.Event.TheVariants as event
use Rattle.pc_kernel.specs.PlainKernel.{is_named}
use Rattle.pc_kernel.specs.Reads.{Reads, aseq_read, home, number_read, on, place, reported_of, seen}
use Rattle.pc_world.specs.Shows.{World}
use Rattle.pc_advice.specs.Deeds.{event_of}
use Rattle.pc_advice.specs.declared.behind.Items.{Items}
use Rattle.pc_advice.specs.declared.behind.Standing.{Standing}
use Rattle.pc_advice.specs.declared.behind.TheConstants.{MOST_COUNTED}
use Rattle.pc_advice.specs.declared.deed.Deed.{Deed}
use Rattle.pc_advice.specs.declared.deed.Deed.TheVariants as deed
use Rattle.pc_advice.specs.declared.plan.PlannedStep.{PlannedStep}

-- a count, which stays at its greatest value
abbrev pub capped : ℕ → ℕ
capped count = min count MOST_COUNTED

-- the last that the steps give, or else what there is at first
abbrev pub last_else : {A : Type 0} → (PlannedStep → Option A) → List PlannedStep → A → A
last_else f steps first = unwrap_or (last_given f steps) first

-- the effect of an event that is a call on the kernel; none of one that goes by what an agent keeps
abbrev pub effect_of_call : Event → Option Effect
effect_of_call (event.Env call) = Some (effect_of_env call)
effect_of_call (event.Agent call) = Some (effect_of_agent call)
effect_of_call _ = None

-- the effect of a step that is a call on the kernel
abbrev pub effect_in : PlannedStep → Option Effect
effect_in step = option_and_then effect_of_call (event_of step.deed step.number)

-- the step is about the thread: it is one of the threads from the step's first on, as many as the step is done times
abbrev pub is_about : ℕ → PlannedStep → Bool
is_about t step = option_map_or (λ first. nat_le first t && nat_lt (t - first) step.times) step.thread false

-- the steps that are about a thread
abbrev pub steps_about : ℕ → List PlannedStep → List PlannedStep
steps_about t steps = filter (is_about t) steps

-- the step posts a message, of each thread that it is about
abbrev pub tells : PlannedStep → Bool
tells step = option_map_or (λ e. e.posts) (effect_in step) false

-- the phase that a step gives the threads that it is about, as of the next three
abbrev pub phase_in : PlannedStep → Option Phase
phase_in step = option_and_then (λ e. e.phase) (effect_in step)

-- the mask
abbrev pub mask_in : Deed → Option ℕ
mask_in (deed.Env (env.Create queue ready mask)) = Some mask
mask_in (deed.Env (env.SetAffinity t mask)) = Some mask
mask_in _ = None

-- the home: that of a creation, an associate's queue, or the queue of the agent that steals
abbrev pub home_in : Deed → Option ℕ
home_in (deed.Env (env.Create queue ready mask)) = Some queue
home_in (deed.Associate t queue) = Some queue
home_in (deed.Steal cpu) = Some cpu
home_in _ = None

-- the CPU that an effect gives a thread: the one to which it comes, or none, where it leaves one
abbrev pub place_by : Effect → Option (Option ℕ)
place_by effect = if effect.comes then Some effect.cpu else (if is_some effect.left then Some None else None)

-- the CPU
abbrev pub place_in : PlannedStep → Option (Option ℕ)
place_in step = option_and_then place_by (effect_in step)

-- who is on a CPU behind an effect that changes this: the thread that comes, or none, where one leaves
abbrev pub runner_by : ℕ → Effect → Option (Option ℕ)
runner_by cpu effect =
    if is_named (changed_cpu effect) cpu then Some (if effect.comes then effect.thread else None) else None

-- who is on a CPU behind a step that changes this
abbrev pub runner_in : ℕ → PlannedStep → Option (Option ℕ)
runner_in cpu step = option_and_then (runner_by cpu) (effect_in step)

-- how many threads a step creates
abbrev pub created_in : Deed → ℕ → ℕ
created_in (deed.Env (env.Create queue ready mask)) times = times
created_in _ times = 0

-- how many items a step posts to a queue
abbrev pub posted_in : ℕ → PlannedStep → ℕ
posted_in queue step = if is_named step.queue queue then step.times else 0

-- a deed by which the CPU's agent publishes
abbrev pub publishes : ℕ → Deed → Bool
publishes cpu (deed.Publish own fails) = own == cpu
publishes cpu _ = false

-- one by which it consumes
abbrev pub consumes : ℕ → Deed → Bool
consumes cpu (deed.Consume own) = own == cpu
consumes cpu _ = false

-- the steps up to the last whose deed passes a test; none, where none does
abbrev pub upto_last : (Deed → Bool) → List PlannedStep → List PlannedStep
upto_last test steps = take (length steps - suffix_len (λ step. not (test step.deed)) steps) steps

-- what is counted behind some steps; where there are none, what there is at first
abbrev pub count_else : (List PlannedStep → ℕ) → List PlannedStep → ℕ → ℕ
count_else count [] first = first
count_else count (step ∷ steps) first = count (step ∷ steps)

-- behind the steps there are so many threads: those that there were, and those that the steps create
abbrev pub threads_behind : Reads → List PlannedStep → ℕ
threads_behind r steps = capped (r.threads + sum_by (λ step. created_in step.deed step.times) steps)

-- who is on a CPU: who the last step puts there or takes off that changes it, or else who was
abbrev pub running_behind : Reads → ℕ → List PlannedStep → Option ℕ
running_behind r cpu steps = last_else (runner_in cpu) steps (on r cpu)

-- how many posts a queue had: those that it had, and those of the steps
abbrev pub posts_behind : Reads → ℕ → List PlannedStep → ℕ
posts_behind r queue steps = capped (aseq_read r queue + sum_by (posted_in queue) steps)

-- how many items a queue ever had that held the first: these, and those that the steps post
abbrev pub ever_held : Items → ℕ → List PlannedStep → ℕ
ever_held first queue steps = first.all + sum_by (posted_in queue) steps

-- how many of them were ever sent: all that it had behind the last publish, or else those that were at first
abbrev pub ever_sent : Items → ℕ → List PlannedStep → ℕ
ever_sent first queue steps = count_else (ever_held first queue) (upto_last (publishes queue) steps) first.sent

-- how many of them are removed: all that were sent behind the last consume, or else none
abbrev pub removed : Items → ℕ → List PlannedStep → ℕ
removed first queue steps = count_else (ever_sent first queue) (upto_last (consumes queue) steps) 0

-- a queue that held the first items holds the others behind the steps: those that are not removed, and of them those
-- that were ever sent
pub record IsHeld (first : Items) (queue : ℕ) (steps : List PlannedStep) (items : Items) : Type 0 where
  pub all : items.all ≡ ever_held first queue steps - removed first queue steps
  pub sent : items.sent ≡ ever_sent first queue steps - removed first queue steps

-- the number of a thread's last message: what it was, and one more for each step about it that posts
abbrev pub number_behind : Reads → ℕ → List PlannedStep → ℕ
number_behind r t steps = capped (number_read r t + count_by tells (steps_about t steps))

-- how a thread stands: its number, and of the steps about it the last that gives a phase, a mask, a home or a CPU, or
-- else what it had
abbrev pub stands_behind : Reads → ℕ → List PlannedStep → Standing
stands_behind r t steps =
    let about = steps_about t steps in
    record {
      number = number_behind r t steps;
      phase = last_else phase_in about (option_map_or (λ state. state.phase) (reported_of r t) Blocked);
      mask = last_else (λ step. mask_in step.deed) about (option_map_or (λ state. state.mask) (reported_of r t) 0);
      home = last_else (λ step. home_in step.deed) about (home r t);
      on = last_else place_in about (place r t);
    }

-- the same of a thread that has a message; none of another one, which is not there
abbrev pub standing_behind : Reads → ℕ → List PlannedStep → Option Standing
standing_behind r t steps = if nat_lt 0 (number_behind r t steps) then Some (stands_behind r t steps) else None

-- what is read of the kernel of a world
abbrev pub kernel_of : World → Reads
kernel_of world = seen world.kernel

-- the call creates a thread
abbrev pub creates : EnvCall → Bool
creates (env.Create queue ready mask) = true
creates _ = false

-- the deed is a steal, whose thread the agent chooses
abbrev pub steals : Deed → Bool
steals (deed.Steal cpu) = true
steals _ = false

-- the thread of which a call posts a message behind the steps: the next that is created, or the one on the CPU that the
-- call takes it off, or else the one that the call names; none of a tick
abbrev pub thread_told : Reads → List PlannedStep → EnvCall → Option ℕ
thread_told r steps call =
    if creates call then Some (threads_behind r steps)
    else option_map_or (λ left. running_behind r left.cpu steps) (left_by call) (effect_of_env call).thread

-- the thread that a deed is about behind the steps
abbrev pub thread_now : Reads → List PlannedStep → Deed → Option ℕ
thread_now r steps (deed.Env call) = thread_told r steps call
thread_now r steps (deed.Associate t queue) = Some t
thread_now r steps (deed.Commit cpu t) = Some t
thread_now r steps _ = None

-- the queue to which a deed that is about a thread, or about none, posts behind the steps: the one that the deed names,
-- or else the home of the thread
abbrev pub queue_now : Reads → List PlannedStep → Option ℕ → Deed → Option ℕ
queue_now r steps thread (deed.Env call) =
    let effect = effect_of_env call in
    if is_none effect.thread && is_none effect.left then effect.cpu
    else option_map (λ standing. standing.home) (option_and_then (λ t. standing_behind r t steps) thread)
queue_now r steps thread _ = None

-- the number that a deed that is about a thread, or about none, has behind the steps: of the message that a call posts,
-- or else the one by which an agent shows what it knows, of the thread's messages for an associate, of the posts to the
-- CPU's queue for a commit, a sleep and a pick; none of another deed
abbrev pub number_now : Reads → List PlannedStep → Option ℕ → Deed → Option ℕ
number_now r steps thread (deed.Env call) =
    if creates call then Some 1 else option_map (λ t. capped (number_behind r t steps + 1)) thread
number_now r steps thread (deed.Associate t queue) = Some (number_behind r t steps)
number_now r steps thread (deed.Commit cpu t) = Some (posts_behind r cpu steps)
number_now r steps thread (deed.Sleep cpu) = Some (posts_behind r cpu steps)
number_now r steps thread (deed.Pick cpu) = Some (posts_behind r cpu steps)
number_now r steps thread _ = None

-- a step behind others has the thread that it is about, the queue to which it posts, and its number, where it has one
pub record IsNoted (r : Reads) (before : List PlannedStep) (step : PlannedStep) : Type 0 where
  pub thread : steals step.deed ≡ false → step.thread ≡ thread_now r before step.deed
  pub queue : step.queue ≡ queue_now r before step.thread step.deed
  pub number : (number : ℕ) → number_now r before step.thread step.deed ≡ Some number → step.number ≡ number

-- each of the steps has its thread, queue and number behind the steps before it
abbrev pub AreNoted : Reads → List PlannedStep → Type 0
AreNoted r steps =
    (place : ℕ) (step : PlannedStep) → slice_get steps place ≡ Some step → IsNoted r (take place steps) step
