-- What a run adds up to.
use Rattle.std.specs.Prelude.{◌≡◌, ℕ, nat_abs, ◌+◌, Bool, List, length, sum_by, slice_get, Some}
use Rattle.pc_kernel.specs.Reads.{Reads, reported_of}
use Rattle.pc_messages.specs.declared.reported.Phase.TheVariants.{Dead}
use Rattle.pc_messages.specs.declared.reported.Reported.{Reported}
use Rattle.pc_load.specs.Joining.{steps_under}
use Rattle.pc_load.specs.Loads.{Demand, Need}
use Rattle.pc_lab.specs.declared.counted.Counted.TheVariants.{Commit}
use Rattle.pc_lab.specs.declared.summary.Summary.{Summary}
use Rattle.pc_lab.specs.Counting.{counted_in}

-- the ticks that a thread needs: those of all its steps
abbrev pub demand_of : Need → ℕ
demand_of need = sum_by (λ step. step.ticks) need.steps

-- what is reported of a thread that has done all its steps: it is dead, with its mask and its level, and it ran for the
-- ticks that it needs
abbrev pub ended : Need → Reported
ended need =
    record { phase = Dead; mask = nat_abs need.mask; ran = demand_of need; level = nat_abs need.level }

-- the kernel reports so of each of these threads, by its place, which is its name
abbrev pub AreEnded : List Need → Reads → Type 0
AreEnded needs kernel =
    (t : ℕ) (need : Need) → slice_get needs t ≡ Some need → reported_of kernel t ≡ Some (ended need)

-- the steps of these threads that the lab runs: joined, unless recorded preempts are kept
abbrev pub steps_in : Bool → List Need → ℕ
steps_in keep needs = sum_by (λ need. length (steps_under keep need.steps)) needs

-- A run of a load adds up: each thread has ended, CPUs ran for the ticks that threads need, and there was a commit for
-- each step and each preempt
pub record AddsUp (load : Demand) (keep : Bool) (kernel : Reads) (summary : Summary) : Type 0 where
  pub done : AreEnded load.threads kernel
  pub ran : sum_by (λ time. time.ran) summary.times.items ≡ sum_by demand_of load.threads
  pub commits : counted_in summary.tally Commit ≡ steps_in keep load.threads + summary.preempts
