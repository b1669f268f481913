-- The step of each call: the refusals in their order, and else what changes and what is answered.
use Rattle.std.specs.Prelude.{ℕ, ◌+◌, ◌^◌, ◌==◌, nat_lt, nat_le, not, ◌||◌, Bool, true, false, List, [], ◌∷◌, ◌++◌}
use Rattle.std.specs.Prelude.{length, Option, Some, None, Result, Ok, Err, is_some, is_none, unwrap_or, if◌then◌else◌}
use Rattle.std.specs.Option.{option_map_or, option_and_then}
use Rattle.pc_messages.specs.Items.{thread_in, number_in}
use Rattle.pc_messages.specs.Mask.{allows}
use Rattle.pc_messages.specs.declared.kind.Kind.{Kind}
use Rattle.pc_messages.specs.declared.kind.Kind.TheVariants as kind
use Rattle.pc_messages.specs.declared.message.Item.{Item}
use Rattle.pc_messages.specs.declared.message.Item.TheVariants as item
use Rattle.pc_messages.specs.declared.reported.Phase.{Phase}
use Rattle.pc_messages.specs.declared.reported.Phase.TheVariants as phase
use Rattle.pc_calls.specs.declared.call.EnvCall.{EnvCall}
use Rattle.pc_calls.specs.declared.call.EnvCall.TheVariants.{Create, Wake, Block, YieldNow, Preempt, Die, SetAffinity}
use Rattle.pc_calls.specs.declared.call.EnvCall.TheVariants.{SetPriority, Tick}
use Rattle.pc_calls.specs.declared.call.Call.{Call}
use Rattle.pc_calls.specs.declared.call.AgentCall.TheVariants.{Associate, Commit, Sleep, Rouse, Config}
use Rattle.pc_calls.specs.declared.call.Call.TheVariants.{Env, Agent, Consume}
use Rattle.pc_calls.specs.declared.call.Posted.{Posted}
use Rattle.pc_calls.specs.declared.call.Answer.{Answer}
use Rattle.pc_calls.specs.declared.call.Answer.TheVariants as answer
use Rattle.pc_calls.specs.declared.refusal.Refusal.{Refusal}
use Rattle.pc_calls.specs.declared.refusal.Refusal.TheVariants as refusal
use Rattle.pc_calls.specs.Conditions.{first_of}
use Rattle.pc_kernel.specs.PlainKernel.{PlainKernel, Post}
use Rattle.pc_kernel.specs.PlainKernel as plain
use Rattle.pc_kernel.specs.Reads.{Reads, shown, is_known, number_read, home, place, phase, is_allowed_on, is_cpu}
use Rattle.pc_kernel.specs.Reads.{aseq_read, content_read, on, is_pending}

-- the phase is Dead
abbrev pub is_dead : Option Phase → Bool
is_dead (Some phase.Dead) = true
is_dead (Some phase.Ready) = false
is_dead (Some phase.Blocked) = false
is_dead None = false

-- the phase is Blocked
abbrev pub is_blocked : Option Phase → Bool
is_blocked (Some phase.Blocked) = true
is_blocked (Some phase.Ready) = false
is_blocked (Some phase.Dead) = false
is_blocked None = false

-- the phase is Ready
abbrev pub is_ready : Option Phase → Bool
is_ready (Some phase.Ready) = true
is_ready (Some phase.Blocked) = false
is_ready (Some phase.Dead) = false
is_ready None = false

-- whether a condition holds, and the refusal that it is
abbrev pub Condition : Type 0
Condition = Bool × Refusal

-- of a post to a queue
abbrev pub queue_refusals : Reads → ℕ → List Condition
queue_refusals r q =
    (nat_le r.limits.room (length (content_read r q)), refusal.QueueFull)
    ∷ (nat_le r.limits.posts (aseq_read r q), refusal.PostsSpent)
    ∷ []

-- of a post of a thread's message to its home queue
abbrev pub post_refusals : Reads → ℕ → List Condition
post_refusals r t = (nat_le r.limits.numbers (number_read r t), refusal.NumbersSpent) ∷ queue_refusals r (home r t)

-- of a mask: it is empty, or has a CPU that is not there
abbrev pub mask_refusals : Reads → ℕ → List Condition
mask_refusals r mask = (mask == 0, refusal.EmptyMask) ∷ (nat_le (2 ^ r.limits.cpus) mask, refusal.MaskTooWide) ∷ []

-- of a call on a thread that has to be known and alive
abbrev pub thread_refusals : Reads → ℕ → List Condition
thread_refusals r t = (not (is_known r t), refusal.UnknownThread) ∷ (is_dead (phase r t), refusal.Dead) ∷ []

-- of a call by which the thread on a CPU leaves it
abbrev pub leave_refusals : Reads → ℕ → List Condition
leave_refusals r cpu =
    (not (is_cpu r cpu), refusal.BadCpu)
    ∷ (is_none (on r cpu), refusal.IdleCpu)
    ∷ post_refusals r (unwrap_or (on r cpu) 0)

-- the thread runs on a CPU that the mask excludes
abbrev pub is_barred : Reads → ℕ → ℕ → Bool
is_barred r t mask = option_map_or (λ c. not (allows mask c)) (place r t) false

-- of each call of the environment, in order
abbrev pub env_refusals : Reads → EnvCall → List Condition
env_refusals r (Create queue ready mask) =
    (not (is_cpu r queue), refusal.BadCpu)
    ∷ mask_refusals r mask
    ++ (nat_le r.limits.threads r.threads, refusal.NamesSpent)
    ∷ queue_refusals r queue
env_refusals r (Wake t) = thread_refusals r t ++ (not (is_blocked (phase r t)), refusal.NotBlocked) ∷ post_refusals r t
env_refusals r (Block cpu ran) = leave_refusals r cpu
env_refusals r (YieldNow cpu ran) = leave_refusals r cpu
env_refusals r (Preempt cpu ran) = leave_refusals r cpu
env_refusals r (Die cpu ran) = leave_refusals r cpu
env_refusals r (SetAffinity t mask) =
    thread_refusals r t
    ++ mask_refusals r mask
    ++ (is_barred r t mask, refusal.OnForbiddenCpu)
    ∷ post_refusals r t
env_refusals r (SetPriority t level) = thread_refusals r t ++ (nat_lt 7 level, refusal.BadLevel) ∷ post_refusals r t
env_refusals r (Tick cpu) = (not (is_cpu r cpu), refusal.BadCpu) ∷ queue_refusals r cpu

-- of each call, in order
abbrev pub refusals : Reads → Call → List Condition
refusals r (Env call) = env_refusals r call
refusals r (Consume cpu count) =
    (not (is_cpu r cpu), refusal.BadCpu) ∷ (nat_lt (length (content_read r cpu)) count, refusal.TooMany) ∷ []
refusals r (Agent (Associate t queue n)) =
    (not (is_known r t), refusal.UnknownThread)
    ∷ (not (is_cpu r queue), refusal.BadCpu)
    ∷ (is_dead (phase r t), refusal.Dead)
    ∷ (not (n == number_read r t), refusal.Stale (number_read r t))
    ∷ (is_pending r t, refusal.Pending)
    ∷ (is_some (place r t), refusal.Running (unwrap_or (place r t) 0))
    ∷ []
refusals r (Agent (Commit cpu t n)) =
    (not (is_cpu r cpu), refusal.BadCpu)
    ∷ (not (is_known r t), refusal.UnknownThread)
    ∷ (not (n == aseq_read r cpu), refusal.Stale (aseq_read r cpu))
    ∷ (not (is_ready (phase r t)), refusal.NotReady)
    ∷ (not (home r t == cpu), refusal.NotYours (home r t))
    ∷ (is_some (place r t), refusal.Running (unwrap_or (place r t) 0))
    ∷ (not (is_allowed_on r t cpu), refusal.Forbidden)
    ∷ (is_some (on r cpu), refusal.Busy)
    ∷ []
refusals r (Agent (Sleep cpu n)) =
    (not (is_cpu r cpu), refusal.BadCpu) ∷ (not (n == aseq_read r cpu), refusal.Stale (aseq_read r cpu)) ∷ []
refusals r (Agent (Rouse cpu)) = (not (is_cpu r cpu), refusal.BadCpu) ∷ []
refusals r (Agent (Config queue None)) = (not (is_cpu r queue), refusal.BadCpu) ∷ []
refusals r (Agent (Config queue (Some cpu))) = (not (is_cpu r queue) || not (is_cpu r cpu), refusal.BadCpu) ∷ []

-- the first refusal of a call, where one holds
abbrev pub refused : Reads → Call → Option Refusal
refused r call = first_of (refusals r call)

-- f, with another value at one place
abbrev pub at : {X : Type 0} → (ℕ → X) → ℕ → X → ℕ → X
at f place value n = if n == place then value else f n

-- the agent named, where there is one and it sleeps
abbrev pub woken_of : (ℕ → Bool) → Option ℕ → Option ℕ
woken_of sleeps agent = option_and_then (λ c. if sleeps c then Some c else None) agent

-- the agent that a post to a queue wakes: its target, where that sleeps
abbrev pub woken : PlainKernel → ℕ → Option ℕ
woken P q = woken_of (λ c. is_some (P.slept c)) (P.target q)

-- this agent, where there is one, is awake
abbrev pub roused : (ℕ → Option ℕ) → Option ℕ → ℕ → Option ℕ
roused slept None = slept
roused slept (Some c) = at slept c None

-- one more post, after which the queue's target is awake
abbrev pub posted : PlainKernel → ℕ → Item → PlainKernel
posted P q item =
    record P { posts = P.posts ++ record { queue = q; item = item } ∷ []; slept = roused P.slept (P.target q) }

-- what a call of the environment posts: this item to this queue, after this change of the kernel
pub record Posting : Type 0 where
  pub before : PlainKernel
  pub queue : ℕ
  pub item : Item

-- a thread's next message, to its home queue
abbrev pub telling : PlainKernel → ℕ → Kind → Posting
telling P t kind =
    record {
      before = P;
      queue = P.home t;
      item = item.Thread record { thread = t; number = plain.number P t + 1; kind = kind };
    }

-- the thread on the CPU leaves it
abbrev pub leaving : PlainKernel → ℕ → Kind → Posting
leaving P cpu kind = telling (record P { on = at P.on cpu None }) (unwrap_or (P.on cpu) 0) kind

-- what each call of the environment posts, where, and what else it changes before that
abbrev pub posting : PlainKernel → EnvCall → Posting
posting P (Create queue ready mask) =
    let t = plain.threads P in
    telling (record P { home = at P.home t queue }) t (kind.Created ready mask)
posting P (Wake t) = telling P t kind.Wakeup
posting P (Block cpu ran) = leaving P cpu (kind.Blocked ran)
posting P (YieldNow cpu ran) = leaving P cpu (kind.Yield ran)
posting P (Preempt cpu ran) = leaving P cpu (kind.Preempted ran)
posting P (Die cpu ran) = leaving P cpu (kind.Dead ran)
posting P (SetAffinity t mask) = telling P t (kind.Affinity mask)
posting P (SetPriority t level) = telling P t (kind.Priority level)
posting P (Tick cpu) = record { before = P; queue = cpu; item = item.Tick cpu }

-- the kernel after an accepted call
abbrev pub changed : PlainKernel → Call → PlainKernel
changed P (Env call) = let p = posting P call in posted p.before p.queue p.item
changed P (Consume cpu count) = record P { eaten = at P.eaten cpu (P.eaten cpu + count) }
changed P (Agent (Associate t queue n)) = record P { home = at P.home t queue }
changed P (Agent (Commit cpu t n)) = record P { on = at P.on cpu (Some t) }
changed P (Agent (Sleep cpu n)) = record P { slept = at P.slept cpu (Some n) }
changed P (Agent (Rouse cpu)) = record P { slept = at P.slept cpu None }
changed P (Agent (Config queue None)) = record P { target = at P.target queue None }
changed P (Agent (Config queue (Some cpu))) =
    record P { target = at P.target queue (Some cpu); slept = at P.slept cpu None }

-- what an accepted call answers
abbrev pub receipt : Posting → Posted
receipt p =
    record {
      thread = thread_in p.item;
      number = number_in p.item;
      queue = p.queue;
      aseq = plain.aseq p.before p.queue + 1;
      woken = woken p.before p.queue;
    }

-- what each accepted call answers
abbrev pub accepted : PlainKernel → Call → Answer
accepted P (Env call) = answer.Posted (receipt (posting P call))
accepted P (Agent call) = answer.Done
accepted P (Consume cpu count) = answer.Done

-- what a call answers that is refused so, or accepted
abbrev pub reply_of : Option Refusal → Answer → Result Answer Refusal
reply_of None answer = Ok answer
reply_of (Some why) answer = Err why

-- the kernel after a call that is refused so, or accepted
abbrev pub after_of : Option Refusal → PlainKernel → PlainKernel → PlainKernel
after_of None changed same = changed
after_of (Some why) changed same = same

-- what a call answers: the first refusal that holds, or else its answer
abbrev pub reply : PlainKernel → Call → Result Answer Refusal
reply P call = reply_of (refused (shown P) call) (accepted P call)

-- the kernel after a call: as it was where that is refused, or else changed
abbrev pub after : PlainKernel → Call → PlainKernel
after P call = after_of (refused (shown P) call) (changed P call) P

-- a whole list of calls
abbrev pub replay : PlainKernel → List Call → PlainKernel
replay P [] = P
replay P (call ∷ calls) = replay (after P call) calls
