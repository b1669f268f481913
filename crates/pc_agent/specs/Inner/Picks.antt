-- A pick, before it is counted.
use Rattle.std.specs.Prelude.{ℕ, ◌==◌, ◌≡◌, not, List, [], ◌∷◌, Option, Some, None, Result, Ok, Err, is_some}
use Rattle.pc_calls.specs.AgentCalls.{commits}
use Rattle.pc_calls.specs.Conditions.{first_of}
use Rattle.pc_calls.specs.declared.call.Answer.TheVariants.{Done}
use Rattle.pc_calls.specs.declared.refusal.Refusal.{Refusal}
use Rattle.pc_calls.specs.declared.refusal.Refusal.TheVariants.{Stale, Busy, NothingReady}
use Rattle.pc_kernel.specs.Answers.{Accepts, Steps, done}
use Rattle.pc_kernel.specs.Reads.{Reads, seen, aseq_read, on}
use Rattle.pc_kernel.specs.Rows.{KernelRows}
use Rattle.pc_agent.specs.PlainAgent.{pick_refused, ready_list}
use Rattle.pc_agent.specs.Running.{left_by}

-- why an agent does not even look at its run list, in order
abbrev pub unready_for : Reads → ℕ → ℕ → Option Refusal
unready_for r cpu n = first_of ((not (n == aseq_read r cpu), Stale (aseq_read r cpu)) ∷ (is_some (on r cpu), Busy) ∷ [])

-- the first name of the list that the kernel commits is committed, and what follows it is left; where there is none,
-- the list is empty and the kernel as it was
abbrev pub CommitsFirst : ℕ → ℕ → Result ℕ Refusal → List ℕ → List ℕ → KernelRows → KernelRows → Type 0
CommitsFirst cpu n (Ok t) names left old new =
    (ready_list (seen old) cpu n names ≡ t ∷ left) × Steps done (commits cpu t n) (Ok tt) old new
CommitsFirst cpu n (Err refusal) names left old new =
    (refusal ≡ NothingReady) × (ready_list (seen old) cpu n names ≡ []) × (left ≡ [])

-- a pick from a run list, of which these names are left
abbrev pub Picks : ℕ → ℕ → Result ℕ Refusal → List ℕ → List ℕ → KernelRows → KernelRows → Type 0
Picks cpu n (Ok t) names left old new =
    (pick_refused (seen old) cpu n names ≡ None)
    × (ready_list (seen old) cpu n names ≡ t ∷ left)
    × Accepts (commits cpu t n) Done old new
Picks cpu n (Err refusal) names left old new =
    (pick_refused (seen old) cpu n names ≡ Some refusal) × (left ≡ left_by refusal names)
