-- What a script's reads of the plain world are answered.
use Rattle.std.specs.Prelude.{ℕ, ◌≡◌, ◌≤◌, ◌↔◌, Bool, true, IsTrue, List, length, Option, Some, None, MatchBool}
use Rattle.pc_messages.specs.State.{phase_of}
use Rattle.pc_messages.specs.declared.reported.Phase.{Phase}
use Rattle.pc_calls.specs.declared.refusal.Refusal.TheVariants as refusal
use Rattle.pc_join.specs.Sets.{has, as_members, IsSameSet}
use Rattle.pc_kernel.specs.PlainKernel.{kinds}
use Rattle.pc_kernel.specs.Reads as kernel
use Rattle.pc_kernel.specs.Reads.{shown, is_cpu, is_asleep, is_known, number_read}
use Rattle.pc_kernel.specs.Rows.{ThreadRow}
use Rattle.pc_script.specs.declared.command.Read.{Read}
use Rattle.pc_script.specs.declared.command.Read.TheVariants.{Status, Asleep, Show, Same, Complete}
use Rattle.pc_script.specs.declared.lists.ShownThread.{ShownThread}
use Rattle.pc_script.specs.declared.response.Response.{Response}
use Rattle.pc_script.specs.declared.response.Response.TheVariants as response
use Rattle.pc_agent.specs.PlainAgent.{Set}
use Rattle.pc_world.specs.PlainWorld.{PlainWorld}
use Rattle.pc_world.specs.Steps.{are_cpus}
use Rattle.pc_session.specs.ShownViews.{IsShown}

-- refused for a CPU that is not there
abbrev pub IsNowhere : Response → Type 0
IsNowhere told = told ≡ response.Refused refusal.BadCpu

-- a thread's status word and phase
abbrev pub IsStatus : ℕ → Option ThreadRow → Response → Type 0
IsStatus t None told = told ≡ response.Refused refusal.UnknownThread
IsStatus t (Some row) told =
    (phase : Phase) × (phase_of row.kinds ≡ Some phase)
    × (told ≡ response.Status phase t (record { number = length row.kinds; running_on = row.on }))

-- whether the CPU's agent sleeps
abbrev pub IsAsleep : PlainWorld → ℕ → Response → Type 0
IsAsleep w c told =
    MatchBool (is_cpu (shown w.kernel) c) (told ≡ response.Truth (is_asleep (shown w.kernel) c)) (IsNowhere told)

-- the view of what the agent has taken in
pub record IsShow (w : PlainWorld) (c : ℕ) (told : Response) : Type 0 where
  pub rows : List ShownThread
  pub tells : told ≡ response.View rows
  pub shown : IsShown (kinds w.kernel) (w.agents c).known rows

-- what `show` is answered
abbrev pub IsShowing : PlainWorld → ℕ → Response → Type 0
IsShowing w c told = MatchBool (is_cpu (shown w.kernel) c) (IsShow w c told) (IsNowhere told)

-- whether two agents have taken in the same messages
pub record IsSameness (w : PlainWorld) (c other : ℕ) (told : Response) : Type 0 where
  pub truth : Bool
  pub same : IsTrue truth ↔ IsSameSet (as_members (w.agents c).known) (as_members (w.agents other).known)
  pub tells : told ≡ response.Sameness truth

-- what `same` is answered
abbrev pub IsComparing : PlainWorld → ℕ → ℕ → Response → Type 0
IsComparing w c other told = MatchBool (are_cpus w c other) (IsSameness w c other told) (IsNowhere told)

-- the thread is known, and the set has all its messages so far
pub record HasAll (reads : kernel.Reads) (set : Set) (thread : ℕ) : Type 0 where
  pub known : IsTrue (is_known reads thread)
  pub all : (n : ℕ) → 1 ≤ n → n ≤ number_read reads thread → has set thread n ≡ true

-- whether an agent has taken in all messages of a thread
pub record IsCompleteness (w : PlainWorld) (c thread : ℕ) (told : Response) : Type 0 where
  pub truth : Bool
  pub complete : IsTrue truth ↔ HasAll (shown w.kernel) (w.agents c).known thread
  pub tells : told ≡ response.Truth truth

-- what `complete` is answered
abbrev pub IsCompleting : PlainWorld → ℕ → ℕ → Response → Type 0
IsCompleting w c thread told = MatchBool (is_cpu (shown w.kernel) c) (IsCompleteness w c thread told) (IsNowhere told)

-- one read
abbrev pub IsRead : PlainWorld → Read → Response → Type 0
IsRead w (Status thread) told = IsStatus thread ((shown w.kernel).thread thread) told
IsRead w (Asleep cpu) told = IsAsleep w cpu told
IsRead w (Show cpu) told = IsShowing w cpu told
IsRead w (Same cpu other) told = IsComparing w cpu other told
IsRead w (Complete cpu thread) told = IsCompleting w cpu thread told
