-- What the listed calls of a book add up to.
use Rattle.std.specs.Prelude.{ℕ, List, count_by, is_some, sum_by}
use Rattle.std.specs.List.{range_with_len}
use Rattle.pc_calls.specs.declared.call.AgentCall.TheVariants.{Associate, Commit}
use Rattle.pc_calls.specs.declared.call.Call.{Call}
use Rattle.pc_calls.specs.declared.call.Call.TheVariants.{Env, Agent, Consume}
use Rattle.pc_calls.specs.declared.call.EnvCall.TheVariants.{Create, Block, YieldNow, Preempt, Die, Tick}
use Rattle.pc_calls.specs.declared.call.Answer.{Answer}
use Rattle.pc_calls.specs.declared.limits.Limits.{Limits}
use Rattle.pc_calls.specs.declared.limits.TheConstants.{MOST_THREADS, MOST_NUMBERS, MOST_ROOM, MOST_POSTS}
use Rattle.pc_kernel.specs.PlainKernel.{PlainKernel}

-- how many threads a call creates
abbrev pub created_by : Call → ℕ
created_by (Env (Create queue ready mask)) = 1
created_by call = 0

-- how many messages of threads it posts
abbrev pub told_by : Call → ℕ
told_by (Env (Tick cpu)) = 0
told_by (Env call) = 1
told_by call = 0

-- how many ticks these tell
abbrev pub ran_by : Call → ℕ
ran_by (Env (Block cpu ran)) = ran
ran_by (Env (YieldNow cpu ran)) = ran
ran_by (Env (Preempt cpu ran)) = ran
ran_by (Env (Die cpu ran)) = ran
ran_by call = 0

-- how many threads leave their CPU by it
abbrev pub left_by : Call → ℕ
left_by (Env (Block cpu ran)) = 1
left_by (Env (YieldNow cpu ran)) = 1
left_by (Env (Preempt cpu ran)) = 1
left_by (Env (Die cpu ran)) = 1
left_by call = 0

-- how many of them die
abbrev pub died_by : Call → ℕ
died_by (Env (Die cpu ran)) = 1
died_by call = 0

-- how many threads it commits
abbrev pub committed_by : Call → ℕ
committed_by (Agent (Commit cpu thread aseq)) = 1
committed_by call = 0

-- how many threads it gives another queue
abbrev pub taken_over_by : Call → ℕ
taken_over_by (Agent (Associate thread queue number)) = 1
taken_over_by call = 0

-- how many items it removes
abbrev pub consumed_by : Call → ℕ
consumed_by (Consume cpu count) = count
consumed_by call = 0

-- what the listed calls come to, by what each comes to
abbrev pub in_all : (Call → ℕ) → List (Call × Answer) → ℕ
in_all by listed = sum_by (λ entry. by entry.0) listed

-- on how many CPUs a thread runs
abbrev pub running_on : PlainKernel → ℕ
running_on P = count_by (λ cpu. is_some (P.on cpu)) (range_with_len 0 P.limits.cpus)

-- the limits of a run on so many CPUs
abbrev pub limits_on : ℕ → Limits
limits_on cpus =
    record { cpus = cpus; threads = MOST_THREADS; numbers = MOST_NUMBERS; room = MOST_ROOM; posts = MOST_POSTS }
