-- What an agent calls in one section of the lock.
use Rattle.std.specs.Prelude.{ℕ, ◌≡◌, List, ◌++◌, All}
use Rattle.pc_calls.specs.declared.call.Call.{Call}
use Rattle.pc_calls.specs.declared.call.AgentCall.TheVariants.{Associate, Commit, Sleep, Rouse, Config}
use Rattle.pc_calls.specs.declared.call.Call.TheVariants.{Env, Agent, Consume}
use Rattle.pc_calls.specs.declared.call.Answer.{Answer}
use Rattle.pc_threads.specs.declared.runner.tallied.Tried.{Tried}
use Rattle.pc_threads.specs.declared.runner.tallied.Tried.TheVariants.{Committed, Lacks, Nothing}
use Rattle.pc_threads.specs.Totals.{committed_by, in_all}

-- the call is one that the CPU's agent makes in a turn: a commit, or its sleep, is under this count of posts
abbrev pub IsUnder : ℕ → ℕ → Call → Type 0
IsUnder cpu aseq (Env call) = ⊥
IsUnder cpu aseq (Consume c count) = c ≡ cpu
IsUnder cpu aseq (Agent (Associate thread queue number)) = queue ≡ cpu
IsUnder cpu aseq (Agent (Commit c thread posts)) = (c ≡ cpu) × (posts ≡ aseq)
IsUnder cpu aseq (Agent (Sleep c posts)) = (c ≡ cpu) × (posts ≡ aseq)
IsUnder cpu aseq (Agent (Rouse c)) = ⊥
IsUnder cpu aseq (Agent (Config queue target)) = ⊥

-- how many agents it puts to sleep
abbrev pub slept_by : Call → ℕ
slept_by (Agent (Sleep cpu aseq)) = 1
slept_by call = 0

-- how many threads were committed where that was tried
abbrev pub commits_of : Tried → ℕ
commits_of Committed = 1
commits_of Lacks = 0
commits_of Nothing = 0

-- behind the calls of before stand such calls, by which so many threads are committed and so many agents sleep
pub record ListsUnder (cpu aseq commits sleeps : ℕ) (old new : List (Call × Answer)) : Type 0 where
  pub more : List (Call × Answer)
  pub listed : new ≡ old ++ more
  pub under : All (λ entry. IsUnder cpu aseq entry.0) more
  pub committed : in_all committed_by more ≡ commits
  pub slept : in_all slept_by more ≡ sleeps
