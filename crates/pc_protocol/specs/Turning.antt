-- What a stage of a turn does to a world that is shown.
use Rattle.std.specs.Prelude.{ℕ, ◌≡◌, Bool, true, false, List, [], ◌∷◌, Option, Some, None, length}
use Rattle.pc_messages.specs.Items.{pairs_in}
use Rattle.pc_messages.specs.State.{may_run_on}
use Rattle.pc_messages.specs.declared.reported.Reported.{Reported}
use Rattle.pc_calls.specs.declared.event.Event.TheVariants.{Pick, Publish, Steal}
use Rattle.pc_calls.specs.declared.event.Reply.{Reply}
use Rattle.pc_calls.specs.declared.event.Reply.TheVariants as reply
use Rattle.pc_calls.specs.declared.refusal.Refusal.{Refusal}
use Rattle.pc_calls.specs.declared.refusal.Refusal.TheVariants as refusal
use Rattle.pc_kernel.specs.PlainKernel.{aseq, content}
use Rattle.pc_kernel.specs.Reads.{is_cpu, shown}
use Rattle.pc_view.specs.declared.view.View.{View}
use Rattle.pc_view.specs.Prefixes.{reported_in}
use Rattle.pc_world.specs.PlainWorld.{PlainWorld}
use Rattle.pc_world.specs.Shows.{ShowsWorld, World}
use Rattle.pc_world.specs.Steps.{Runs, Step}
use Rattle.pc_protocol.specs.declared.turns.Look.{Look}
use Rattle.pc_protocol.specs.Protocol.{Acts, IsUrgent, TakesIn, is_late, tells_none}

-- from every plain world that is shown before, this leads to one that is shown after
abbrev pub Leads : (PlainWorld → PlainWorld → Type 0) → World → World → Type 0
Leads To old new = (w : PlainWorld) → ShowsWorld old w → (v : PlainWorld) × To w v × ShowsWorld new v

-- a look was one at a plain world, which the publish led to another
pub record IsLookAt (c : ℕ) (look : Look) (w v : PlainWorld) : Type 0 where
  pub there : is_cpu (shown w.kernel) c ≡ true
  pub told : Reply
  pub step : Step w (Publish c false) told v
  pub aseq : look.aseq ≡ aseq w.kernel c
  pub delta : look.delta ≡ length w.sent
  pub void : look.is_void ≡ tells_none (pairs_in (content w.kernel c))

-- the agent of a CPU looks at its queue; there is none of a CPU that is not there
abbrev pub LooksAt : ℕ → World → World → Option Look → Type 0
LooksAt c old new (Some look) = Leads (IsLookAt c look) old new
LooksAt c old new None = (w : PlainWorld) → ShowsWorld old w → is_cpu (shown w.kernel) c ≡ false

-- by the state that is reported of it, a thread may be one for a CPU to take: it is ready and allowed there, or its
-- first message is not known
abbrev pub offers_as : Option Reported → ℕ → Bool
offers_as None c = true
offers_as (Some state) c = may_run_on state c

-- by what a view reports
abbrev pub offers_in : View → ℕ → ℕ → Bool
offers_in view t c = offers_as (reported_in view t) c

-- nothing that an agent sent is urgent for another CPU; else nothing is said
abbrev pub IsQuiet : ℕ → ℕ → ℕ → World → Bool → Type 0
IsQuiet c k to world quiet =
    quiet ≡ true → (w : PlainWorld) → ShowsWorld world w → IsUrgent w c k to → ⊥

-- a pick found no thread of the run list to commit
abbrev pub finds_none : Reply → Bool
finds_none (reply.Refused refusal.NothingReady) = true
finds_none told = false

-- a steal, and a second pick where it took a thread over; and whether the agent asks
pub data Steals (w : PlainWorld) (c n : ℕ) : Bool → PlainWorld → Type 0 where
  took : {v : PlainWorld} (queue thread : ℕ) (again : Reply)
      → Runs w (Steal c ∷ Pick c n ∷ []) (reply.Associated queue thread ∷ again ∷ []) v → Steals w c n false v
  failed : {v : PlainWorld} (why : Refusal) → Step w (Steal c) (reply.Refused why) v → Steals w c n (is_late why) v

-- an agent steals, and picks again
abbrev pub StealsOn : ℕ → ℕ → World → World → Bool → Type 0
StealsOn c n old new asking = Leads (λ w v. Steals w c n asking v) old new

-- an agent acts under a count of posts; and whether it asks
abbrev pub ActsOn : ℕ → ℕ → World → World → Bool → Type 0
ActsOn c n old new asking = Leads (λ w v. Acts w c n asking v) old new

-- an agent takes in sent deltas
abbrev pub TakesInAll : ℕ → List ℕ → World → World → Type 0
TakesInAll c ks old new = Leads (λ w v. TakesIn c w ks v) old new
