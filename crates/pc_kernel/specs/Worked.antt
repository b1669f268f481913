-- Lists of calls worked by hand, with what they answer.
use Rattle.std.specs.Prelude.{ℕ, ◌≡◌, true, false, List, [], ◌∷◌, Option, Some, None, Result, Ok, Err}
use Rattle.pc_calls.specs.declared.call.EnvCall.TheVariants.{Create, Wake, Block, YieldNow, Preempt, Die, SetAffinity}
use Rattle.pc_calls.specs.declared.call.EnvCall.TheVariants.{SetPriority, Tick}
use Rattle.pc_calls.specs.declared.call.Call.{Call}
use Rattle.pc_calls.specs.AgentCalls.{associates, commits, sleeps, rouses, configures}
use Rattle.pc_calls.specs.declared.call.Call.TheVariants.{Env, Consume}
use Rattle.pc_calls.specs.declared.call.Answer.{Answer}
use Rattle.pc_calls.specs.declared.call.Answer.TheVariants.{Posted, Done}
use Rattle.pc_calls.specs.declared.refusal.Refusal.{Refusal}
use Rattle.pc_calls.specs.declared.refusal.Refusal.TheVariants as refusal
use Rattle.pc_calls.specs.declared.limits.TheConstants.{MOST_CPUS, MOST_THREADS, MOST_NUMBERS, MOST_ROOM, MOST_POSTS}
use Rattle.pc_calls.specs.declared.limits.Limits.{Limits}
use Rattle.pc_kernel.specs.PlainKernel.{PlainKernel, start}
use Rattle.pc_kernel.specs.Steps.{reply, after}

-- what the calls of a list answer, one after another
abbrev pub replies : PlainKernel → List Call → List (Result Answer Refusal)
replies P [] = []
replies P (call ∷ calls) = reply P call ∷ replies (after P call) calls

-- the answer to a post of a thread's message
abbrev pub sent : ℕ → ℕ → ℕ → ℕ → Option ℕ → Result Answer Refusal
sent t n q a woken = Ok (Posted record { thread = Some t; number = Some n; queue = q; aseq = a; woken = woken })

-- the answer to a tick
abbrev pub ticked : ℕ → ℕ → Result Answer Refusal
ticked q a = Ok (Posted record { thread = None; number = None; queue = q; aseq = a; woken = None })

-- limits, in their order
abbrev pub limited : ℕ → ℕ → ℕ → ℕ → ℕ → Limits
limited cpus threads numbers room posts =
    record { cpus = cpus; threads = threads; numbers = numbers; room = room; posts = posts }

-- the limits of most lists
abbrev pub small : Limits
small = limited 2 8 100 16 1000

-- a number that is too high is stale too, and that comes before what is pending
abbrev pub StaleFirst : Type 0
StaleFirst = replies (start small)
    (Env (Create 0 true 3) ∷ associates 0 1 2 ∷ associates 0 1 1 ∷ Consume 0 1 ∷ associates 0 1 1 ∷ commits 0 0 1
    ∷ commits 1 0 0 ∷ [])
    ≡ sent 0 1 0 1 None ∷ Err (refusal.Stale 1) ∷ Err refusal.Pending ∷ Ok Done ∷ Ok Done ∷ Err (refusal.NotYours 1)
    ∷ Ok Done ∷ []

-- a tick is a post, so a commit under the count before it is stale
abbrev pub Ticks : Type 0
Ticks = replies (start small) (Env (Create 0 true 3) ∷ Env (Tick 0) ∷ commits 0 0 1 ∷ commits 0 0 2 ∷ [])
    ≡ sent 0 1 0 1 None ∷ ticked 0 2 ∷ Err (refusal.Stale 2) ∷ Ok Done ∷ []

-- numbers and names are spent, and a queue is full
abbrev pub Spent : Type 0
Spent =
    replies (start (limited 1 1 2 4 10))
    (Env (Create 0 false 1) ∷ Env (Wake 0) ∷ Env (SetAffinity 0 1) ∷ Env (Create 0 true 1) ∷ [])
    ≡ sent 0 1 0 1 None ∷ sent 0 2 0 2 None ∷ Err refusal.NumbersSpent ∷ Err refusal.NamesSpent ∷ []

-- a queue of one item is full
abbrev pub Full : Type 0
Full =
    replies (start (limited 1 2 9 1 10)) (Env (Create 0 false 1) ∷ Env (Wake 0) ∷ []) ≡ sent 0 1 0 1 None
    ∷ Err refusal.QueueFull ∷ []

-- posts are spent; the refusals of a mask and of a thread come first
abbrev pub PostsSpentLast : Type 0
PostsSpentLast = replies (start (limited 1 2 9 5 2))
    (Env (Create 0 false 1) ∷ Env (Wake 0) ∷ Env (Tick 0) ∷ Env (Create 0 true 2) ∷ Env (Create 0 true 0) ∷ Env (Wake 0)
    ∷ Env (Wake 1)
    ∷ Env (Block 0 1) ∷ [])
    ≡ sent 0 1 0 1 None ∷ sent 0 2 0 2 None ∷ Err refusal.PostsSpent ∷ Err refusal.MaskTooWide ∷ Err refusal.EmptyMask
    ∷ Err refusal.NotBlocked ∷ Err refusal.UnknownThread ∷ Err refusal.IdleCpu ∷ []

-- the dead are not woken
abbrev pub DeadStay : Type 0
DeadStay = replies (start small) (Env (Create 0 true 3) ∷ commits 0 0 1 ∷ Env (Die 0 5) ∷ Env (Wake 0) ∷ [])
    ≡ sent 0 1 0 1 None ∷ Ok Done ∷ sent 0 2 0 2 None ∷ Err refusal.Dead ∷ []

-- a running thread keeps the CPU that it runs on in its mask, and a mask forbids the others
abbrev pub Masks : Type 0
Masks = replies (start small)
    (Env (Create 0 true 3) ∷ commits 0 0 1 ∷ Env (SetAffinity 0 2) ∷ Env (Preempt 0 4) ∷ Env (SetAffinity 0 2)
    ∷ commits 0 0 3 ∷ [])
    ≡ sent 0 1 0 1 None ∷ Ok Done ∷ Err refusal.OnForbiddenCpu ∷ sent 0 2 0 2 None ∷ sent 0 3 0 3 None
    ∷ Err refusal.Forbidden ∷ []

-- the highest CPU has the highest bit
abbrev pub LastCpu : Type 0
LastCpu = replies (start (limited MOST_CPUS MOST_THREADS MOST_NUMBERS MOST_ROOM MOST_POSTS))
    (Env (Create 63 true 9223372036854775808) ∷ Env (Create 64 true 1) ∷ [])
    ≡ sent 0 1 63 1 None ∷ Err refusal.BadCpu ∷ []

-- a queue wakes whom it is configured to wake, who is awake at once; or nobody
abbrev pub Targets : Type 0
Targets = replies (start small)
    (sleeps 1 0 ∷ configures 0 (Some 1) ∷ sleeps 1 0 ∷ Env (Create 0 true 3) ∷ configures 0 None
    ∷ sleeps 1 0 ∷ Env (Tick 0) ∷ rouses 2 ∷ [])
    ≡ Ok Done ∷ Ok Done ∷ Ok Done ∷ sent 0 1 0 1 (Some 1) ∷ Ok Done ∷ Ok Done
    ∷ ticked 0 2 ∷ Err refusal.BadCpu ∷ []

-- a level is at most 7
abbrev pub Levels : Type 0
Levels = replies (start small)
    (Env (Create 0 true 3) ∷ Env (SetPriority 0 8) ∷ Env (SetPriority 9 1) ∷ Env (SetPriority 0 5) ∷ commits 0 0 2
    ∷ Env (YieldNow 0 1) ∷ [])
    ≡ sent 0 1 0 1 None ∷ Err refusal.BadLevel ∷ Err refusal.UnknownThread ∷ sent 0 2 0 2 None ∷ Ok Done
    ∷ sent 0 3 0 3 None ∷ []

-- an agent that sleeps is woken by a post, and does not sleep under a stale count
abbrev pub Sleepers : Type 0
Sleepers = replies (start small) (Env (Create 0 false 3) ∷ sleeps 0 0 ∷ sleeps 0 1 ∷ Env (Wake 0) ∷ [])
    ≡ sent 0 1 0 1 None ∷ Err (refusal.Stale 1) ∷ Ok Done ∷ sent 0 2 0 2 (Some 0) ∷ []

-- of several refusals the first in the written order is answered
abbrev pub Refusals : Type 0
Refusals = replies (start small)
    (Env (Create 0 true 3) ∷ Env (Create 0 false 3) ∷ Env (Create 0 true 3) ∷ commits 0 1 3 ∷ commits 0 0 3
    ∷ commits 0 0 3 ∷ commits 0 2 3
    ∷ associates 0 1 1 ∷ Consume 0 3 ∷ associates 0 1 1 ∷ associates 9 1 1 ∷ associates 0 2 1 ∷ [])
    ≡ sent 0 1 0 1 None ∷ sent 1 1 0 2 None ∷ sent 2 1 0 3 None ∷ Err refusal.NotReady ∷ Ok Done
    ∷ Err (refusal.Running 0)
    ∷ Err refusal.Busy ∷ Err refusal.Pending ∷ Ok Done ∷ Err (refusal.Running 0) ∷ Err refusal.UnknownThread
    ∷ Err refusal.BadCpu ∷ []
