-- What it is to mend a CPU: which events are done, what is answered, and what want of memory leaves.
use Rattle.std.specs.Prelude.{ℕ, ◌≡◌, ◌⊎◌, List, [], ◌∷◌, ◌++◌, Some, None, MatchOption}
use Rattle.pc_calls.specs.declared.event.Reply.{Reply}
use Rattle.pc_calls.specs.declared.event.Reply.TheVariants.{Committed, Refused}
use Rattle.pc_calls.specs.declared.limits.Limits.{Limits}
use Rattle.pc_calls.specs.declared.refusal.Refusal.TheVariants.{Busy, NothingReady}
use Rattle.pc_kernel.specs.Reads.{on, shown}
use Rattle.pc_world.specs.Mending.{IsIdle, IsStolenBy, WaitsFor, mending, mending_by_steal}
use Rattle.pc_world.specs.PlainWorld.{PlainWorld}
use Rattle.pc_world.specs.RanOut.{RanOutAmong}
use Rattle.pc_world.specs.Reached.{Reached}
use Rattle.pc_world.specs.Shows.{ShowsWorld, World}
use Rattle.pc_world.specs.Steps.{IsRefused, OnCpu, Runs}

-- the reply is that of a commit
pub record IsCommit (told : Reply) : Type 0 where
  pub cpu : ℕ
  pub thread : ℕ
  pub is : told ≡ Committed cpu thread

-- no thread waits for the CPU that its agent may take
abbrev pub NoneWaits : PlainWorld → ℕ → Type 0
NoneWaits w c = (t : ℕ) → WaitsFor w.kernel c t → IsStolenBy (w.agents c).rules w.kernel c t → ⊥

-- the reply tells the thread that then runs on the CPU; or that nothing was ready, where then none runs there, and no
-- thread waited that the agent may take
abbrev pub TellsWhatRuns : PlainWorld → ℕ → Reply → PlainWorld → Type 0
TellsWhatRuns w c (Committed cpu t) new = (cpu ≡ c) × (new.kernel.on c ≡ Some t)
TellsWhatRuns w c (Refused NothingReady) new = (new.kernel.on c ≡ None) × NoneWaits w c
TellsWhatRuns w c told new = ⊥

-- the events of mending were done, without the steal or with it; the last reply is the answer, and tells what runs
pub record IsMending (w : PlainWorld) (c : ℕ) (told : Reply) (new : PlainWorld) : Type 0 where
  pub replies : List Reply
  pub runs : Runs w (mending w c) (replies ++ told ∷ []) new ⊎ Runs w (mending_by_steal w c) (replies ++ told ∷ []) new
  pub tells : TellsWhatRuns w c told new

-- a CPU that is there, and on which nothing runs, is mended; else it is refused, and nothing changes
abbrev pub IsMended : ℕ → PlainWorld → Reply → PlainWorld → Type 0
IsMended c w told new =
    OnCpu w c told new (MatchOption (w.kernel.on c) (IsMending w c told new) (λ t. IsRefused w Busy told new))

-- where the CPU is there, and nothing runs on it: some first events of mending by a steal were done, and the next one
-- found no memory
abbrev pub RanOutInMending : PlainWorld → ℕ → PlainWorld → Type 0
RanOutInMending w c new = IsIdle w.kernel c × RanOutAmong w (mending_by_steal w c) new

-- for every plain world that is shown before, what want of memory leaves of mending is shown after
abbrev pub MendsInPart : ℕ → World → World → Type 0
MendsInPart c old new =
    (w : PlainWorld) → ShowsWorld old w → (w' : PlainWorld) × RanOutInMending w c w' × ShowsWorld new w'

-- the CPU is there, and nothing runs on it, in every plain world that is shown
abbrev pub ShowsIdle : ℕ → World → Type 0
ShowsIdle c world = (w : PlainWorld) → ShowsWorld world w → IsIdle w.kernel c

-- each CPU runs what it ran, in all plain worlds that are shown before and after
abbrev pub RunsTheSame : World → World → Type 0
RunsTheSame old new =
    (w w' : PlainWorld) → ShowsWorld old w → ShowsWorld new w' → (c : ℕ)
    → on (shown w'.kernel) c ≡ on (shown w.kernel) c

-- in every reached world each CPU can be mended, or is refused
abbrev pub EveryCpuCanBeMended : Type 0
EveryCpuCanBeMended =
    (limits : Limits) (w : PlainWorld) (c : ℕ) → Reached limits w
    → (told : Reply) × (new : PlainWorld) × IsMended c w told new

-- a world that is mended is reached
abbrev pub MendedIsReached : Type 0
MendedIsReached =
    (limits : Limits) (w new : PlainWorld) (c : ℕ) (told : Reply) → Reached limits w → IsMended c w told new
    → Reached limits new
