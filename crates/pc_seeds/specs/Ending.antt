-- What a run by a seed comes to.
use Rattle.std.specs.Prelude.{ℕ, nat_abs, ◌≡◌, ◌<◌, ◌↔◌, true, None, [], length}
use Rattle.pc_kernel.specs.Reads.{on, place, reported_of, seen}
use Rattle.pc_kernel.specs.Rows.{KernelRows}
use Rattle.pc_policy.specs.Rules.{Rules}
use Rattle.pc_run_queue.specs.Runs.{may_run}
use Rattle.pc_protocol.specs.Machine.{Machine, Shows}
use Rattle.pc_protocol.specs.Protocol.{Protocol}
use Rattle.pc_protocol.specs.Resting.{IsAtRest}
use Rattle.pc_protocol.specs.Running.{TakesEach}
use Rattle.pc_threads.specs.declared.report.LoadReport.{LoadReport}
use Rattle.pc_threads.specs.Pages.{IsReplay, Pages}
use Rattle.pc_threads.specs.Settings.{Settings}
use Rattle.pc_seeds.specs.declared.driver.Driver.{Driver}
use Rattle.pc_seeds.specs.declared.ending.Ended.{Ended}
use Rattle.pc_seeds.specs.declared.ending.Ended.TheVariants.{Reported, Stalled}
use Rattle.pc_seeds.specs.declared.ending.Manner.TheVariants.{AtRest}
use Rattle.pc_seeds.specs.declared.ending.Stall.{Stall}
use Rattle.pc_seeds.specs.Driving.{HasNothingToDo}

-- the thread waits, and the CPU, on which it may run, idles
pub record IsHeldUp (kernel : KernelRows) (t c : ℕ) : Type 0 where
  pub may : may_run (reported_of (seen kernel) t) c ≡ true
  pub is_off : place (seen kernel) t ≡ None
  pub idles : on (seen kernel) c ≡ None

-- of the CPUs below this many none idles for the thread
abbrev pub NoneIdlesFor : KernelRows → (t cpus : ℕ) → Type 0
NoneIdlesFor kernel t cpus = (c : ℕ) → c < cpus → ¬ IsHeldUp kernel t c

-- of so many CPUs this is the least that idles for the thread
pub record IsLeastIdle (kernel : KernelRows) (t cpus c : ℕ) : Type 0 where
  pub there : c < cpus
  pub held : IsHeldUp kernel t c
  pub least : NoneIdlesFor kernel t c

-- of the threads below this many none waits for one of so many CPUs, which idles
abbrev pub NoneIsHeldUp : KernelRows → (threads cpus : ℕ) → Type 0
NoneIsHeldUp kernel threads cpus = (t : ℕ) → t < threads → NoneIdlesFor kernel t cpus

-- of so many threads this is the least that waits for a CPU that idles, and of so many CPUs this is the least that
-- idles for it
pub record IsLeastHeldUp (kernel : KernelRows) (threads cpus t c : ℕ) : Type 0 where
  pub there : t < threads
  pub cpu : IsLeastIdle kernel t cpus c
  pub least : NoneIsHeldUp kernel t cpus

-- of the threads of the settings none waits for one of their CPUs, which idles
abbrev pub NoneWaits : Settings → KernelRows → Type 0
NoneWaits settings kernel = NoneIsHeldUp kernel (length settings.threads) (nat_abs settings.cpus)

-- of the threads of the settings this is the least that waits for a CPU that idles, and of their CPUs the least that
-- idles for it
abbrev pub IsFirstToWait : Settings → KernelRows → (t c : ℕ) → Type 0
IsFirstToWait settings kernel t c = IsLeastHeldUp kernel (length settings.threads) (nat_abs settings.cpus) t c

-- the calls of the book lead to the stall: by them its thread is the first of the settings' that waits for a CPU that
-- idles, and its CPU the first of these
pub record LeadsToStall (settings : Settings) (book : Pages) (stall : Stall) : Type 0 where
  pub replays : IsReplay book
  pub waits : IsFirstToWait settings book.kernel stall.thread stall.cpu

-- where the run is reported, this holds of its report
abbrev pub IfReported : (LoadReport → Type 0) → Ended → Type 0
IfReported Holds (Reported report) = Holds report
IfReported Holds (Stalled stall book) = Unit {0}

-- where the run stalls, the calls of its book lead to that
abbrev pub IfStalledBookTells : Settings → Ended → Type 0
IfStalledBookTells settings (Reported report) = Unit {0}
IfStalledBookTells settings (Stalled stall book) = LeadsToStall settings book stall

-- the run did not come to rest while a thread waits
abbrev pub RestsOnlyWhenDone : Ended → Type 0
RestsOnlyWhenDone (Reported report) = Unit {0}
RestsOnlyWhenDone (Stalled stall book) = stall.manner ≡ AtRest → ⊥

-- it is told as at rest exactly where the machine is, and the driver has nothing to do
abbrev pub RestsAs : Machine → Driver → Stall → Type 0
RestsAs machine driver stall =
    (p : Protocol) → Shows machine p → (stall.manner ≡ AtRest) ↔ (IsAtRest p × HasNothingToDo driver)

-- no agent restarts, and each takes whatever thread waits for its CPU
pub record IsUndisturbed (settings : Settings) (rules : Rules) : Type 0 where
  pub none_restarts : settings.restarts ≡ []
  pub takes_each : (c : ℕ) → TakesEach rules c
