-- The protocol by which agents in threads work: a plain world, and of each CPU's agent the stage of its turn, the sent
-- deltas that wait in its mailbox, and the notes that are under way to it.
--
-- A note is under way from the act on by which it is sent, and any of them may be taken next: so a slow send is a note
-- that is not taken yet, and notes may overtake each other. A mailbox is taken as a whole, so what is still to be put
-- there may not lie in it already: an agent puts what it sent to one other agent after another, and all may go on
-- between.
--
-- No agent starts again, no send is refused, and an agent's calls of the kernel are those of its turn alone.
use Rattle.std.specs.Prelude.{ℕ, ◌≡◌, ◌⊎◌, ◌==◌, Bool, true, false, not, if◌then◌else◌, nat_lt, List, [], ◌∷◌, ◌++◌}
use Rattle.std.specs.Prelude.{length, filter, slice_get, Contains, Option, Some, None}
use Rattle.std.specs.List.{range_with_len}
use Rattle.pc_messages.specs.Items.{pairs_in}
use Rattle.pc_calls.specs.declared.call.AgentCall.TheVariants.{Sleep}
use Rattle.pc_calls.specs.declared.call.EnvCall.{EnvCall}
use Rattle.pc_calls.specs.declared.event.Event.TheVariants.{Agent, Consume, Deliver, Env, Pick, Publish, Steal}
use Rattle.pc_calls.specs.declared.event.Reply.{Reply}
use Rattle.pc_calls.specs.declared.event.Reply.TheVariants as reply
use Rattle.pc_calls.specs.declared.limits.Limits.{Limits}
use Rattle.pc_calls.specs.declared.refusal.Refusal.{Refusal}
use Rattle.pc_calls.specs.declared.refusal.Refusal.TheVariants as refusal
use Rattle.pc_join.specs.Sets.{has}
use Rattle.pc_kernel.specs.PlainKernel.{aseq, content, kinds}
use Rattle.pc_kernel.specs.Steps.{at}
use Rattle.pc_view.specs.Prefixes.{upto}
use Rattle.pc_policy.specs.Rules.{Rules}
use Rattle.pc_agent.specs.PlainAgent.{Set, runs_here}
use Rattle.pc_world.specs.PlainWorld.{PlainWorld, opened_by, sending}
use Rattle.pc_world.specs.Steps.{Runs, Step}

-- what an agent is told: that something was posted for it; that its mailbox holds news; what another agent knows, which
-- asks for the rest; or an answer, which is the sent delta of this index
pub data Note : Type 0 where
  wake : Note
  news : Note
  asks : ℕ → Set → Note
  answer : ℕ → Note

-- where an agent is in its turn: at its begin; behind its look, with the count of posts that it read, the index of what
-- it sent, and the agents to which it has still to put that; or waiting for a note
pub data Stage : Type 0 where
  begins : Stage
  puts : ℕ → ℕ → List ℕ → Stage
  waits : Stage

-- a world, and of each CPU's agent its stage, the indices of the deltas in its mailbox, and the notes under way to it
pub record Protocol : Type 0 where
  pub world : PlainWorld
  pub stages : ℕ → Stage
  pub mails : ℕ → List ℕ
  pub boxes : ℕ → List Note

-- how many CPUs there are
abbrev pub cpus_of : Protocol → ℕ
cpus_of p = p.world.kernel.limits.cpus

-- the boxes, with one more note in one of them
abbrev pub telling : ℕ → Note → (ℕ → List Note) → ℕ → List Note
telling c note boxes = at boxes c (boxes c ++ note ∷ [])

-- the boxes, with one more note in each but the sender's
abbrev pub telling_others : ℕ → Note → (ℕ → List Note) → ℕ → List Note
telling_others sender note boxes c = if c == sender then boxes c else boxes c ++ note ∷ []

-- the agent that a post woke, where there is one, is told
abbrev pub rousing : Option ℕ → (ℕ → List Note) → ℕ → List Note
rousing None boxes = boxes
rousing (Some c) boxes = telling c wake boxes

-- the agent that a call woke, where one did, is told
abbrev pub woken_in : Reply → (ℕ → List Note) → ℕ → List Note
woken_in (reply.Posted posted) boxes = rousing posted.woken boxes
woken_in other boxes = boxes

-- the environment calls the kernel, which accepts the call or refuses it
pub record IsCalledByEnv (p new : Protocol) : Type 0 where
  pub call : EnvCall
  pub told : Reply
  pub step : Step p.world (Env call) told new.world
  pub stages : new.stages ≡ p.stages
  pub mails : new.mails ≡ p.mails
  pub boxes : new.boxes ≡ woken_in told p.boxes

-- one note does instead of another: any does, but instead of a question only one of the same asker
abbrev pub DoesInstead : Note → Note → Type 0
DoesInstead other (asks asker digest) = (later : Set) × (other ≡ asks asker later)
DoesInstead other note = Unit {0}

-- a note is gone from a box where another is left that does instead: a later answer or question takes an earlier one's
-- place, and a wake adds nothing to what is there
pub record IsForgotten (p new : Protocol) : Type 0 where
  pub owner : ℕ
  pub before : List Note
  pub note : Note
  pub behind : List Note
  pub in_box : p.boxes owner ≡ before ++ note ∷ behind
  pub other : Note
  pub is_left : Contains (before ++ behind) other
  pub instead : DoesInstead other note
  pub world : new.world ≡ p.world
  pub stages : new.stages ≡ p.stages
  pub mails : new.mails ≡ p.mails
  pub boxes : new.boxes ≡ at p.boxes owner (before ++ behind)

-- the CPUs but one
abbrev pub others : ℕ → ℕ → List ℕ
others c cpus = filter (λ d. not (d == c)) (range_with_len 0 cpus)

-- a set that tells nothing
abbrev pub tells_none : Set → Bool
tells_none [] = true
tells_none (pair ∷ pairs) = false

-- an agent looks at its queue, and sends what that holds: it is to be put to all others, where it tells anything
pub record IsLook (p : Protocol) (c : ℕ) (new : Protocol) : Type 0 where
  pub at_begin : p.stages c ≡ begins
  pub told : Reply
  pub step : Step p.world (Publish c false) told new.world
  pub stages : new.stages
      ≡ at p.stages c (puts (aseq p.world.kernel c) (length p.world.sent)
      (if tells_none (pairs_in (content p.world.kernel c)) then [] else others c (cpus_of p)))
  pub mails : new.mails ≡ p.mails
  pub boxes : new.boxes ≡ p.boxes

-- what an agent sent is urgent for a CPU: of some thread that it tells of, the sender does not know the first message,
-- or its view reports that the thread may run there
abbrev pub IsUrgent : PlainWorld → ℕ → ℕ → ℕ → Type 0
IsUrgent w c k d =
    (set : Set) × (t : ℕ) × (n : ℕ) × (slice_get w.sent k ≡ Some set) × (has set t n ≡ true)
    × ((upto (w.agents c).known t ≡ 0) ⊎ (runs_here (kinds w.kernel) (w.agents c).known d t ≡ true))

-- an agent puts what it sent into the mailbox of another, and tells that one. It need not where nothing of it is urgent
-- there, or where that one has a note to take: so a mailbox may keep by a flag that its owner was told of news, since
-- that note is under way until all that waits is taken
pub record IsPut (p : Protocol) (c : ℕ) (new : Protocol) : Type 0 where
  pub n : ℕ
  pub k : ℕ
  pub before : List ℕ
  pub to : ℕ
  pub behind : List ℕ
  pub at_put : p.stages c ≡ puts n k (before ++ to ∷ behind)
  pub quiet : Bool
  pub if_quiet : quiet ≡ true → p.boxes to ≡ [] → IsUrgent p.world c k to → ⊥
  pub world : new.world ≡ p.world
  pub stages : new.stages ≡ at p.stages c (puts n k (before ++ behind))
  pub mails : new.mails ≡ at p.mails to (p.mails to ++ k ∷ [])
  pub boxes : new.boxes ≡ (if quiet then p.boxes else telling to news p.boxes)

-- what refuses a steal so came late: the agent asks about it
abbrev pub is_late : Refusal → Bool
is_late refusal.Dead = true
is_late (refusal.Stale number) = true
is_late refusal.Pending = true
is_late other = false

-- what an agent does in its turn under the count of posts that it read, by what its pick, and then its steal, was
-- replied; and whether it asks
pub data Acts (w : PlainWorld) (c n : ℕ) : Bool → PlainWorld → Type 0 where
  picked : {new : PlainWorld} (taken told : Reply) → Runs w (Consume c ∷ Pick c n ∷ []) (taken ∷ told ∷ []) new
      → (told ≡ reply.Refused refusal.NothingReady → ⊥) → Acts w c n false new
  stole : {new : PlainWorld} (taken told again : Reply) (queue thread : ℕ)
      → Runs w (Consume c ∷ Pick c n ∷ Steal c ∷ Pick c n ∷ [])
      (taken ∷ reply.Refused refusal.NothingReady ∷ reply.Associated queue thread ∷ again ∷ []) new
      → Acts w c n false new
  refused : {new : PlainWorld} (taken : Reply) (r : Refusal)
      → Runs w (Consume c ∷ Pick c n ∷ Steal c ∷ [])
      (taken ∷ reply.Refused refusal.NothingReady ∷ reply.Refused r ∷ []) new → Acts w c n (is_late r) new

-- where an agent goes on behind its sleep
abbrev pub behind_sleep : Reply → Stage
behind_sleep reply.Done = waits
behind_sleep other = begins

-- an agent that has put all acts, asks all others where its steal came late, and sleeps under the count that it read
pub record IsAct (p : Protocol) (c : ℕ) (new : Protocol) : Type 0 where
  pub n : ℕ
  pub k : ℕ
  pub has_read : p.stages c ≡ puts n k []
  pub asking : Bool
  pub acted : PlainWorld
  pub acts : Acts p.world c n asking acted
  pub told : Reply
  pub sleeps : Step acted (Agent (Sleep c n)) told new.world
  pub stages : new.stages ≡ at p.stages c (behind_sleep told)
  pub mails : new.mails ≡ p.mails
  pub boxes : new.boxes
      ≡ (if asking then telling_others c (asks c (acted.agents c).known) p.boxes else p.boxes)

-- an answer to a digest tells all that the agent knows and the digest has not, and nothing that the agent does not know
pub record Answers (known digest set : Set) : Type 0 where
  pub lacking : (t n : ℕ) → has known t n ≡ true → has digest t n ≡ false → has set t n ≡ true
  pub within : (t n : ℕ) → has set t n ≡ true → has known t n ≡ true

-- what an agent does with a note that is out of its box, where these are the boxes left
pub data Takes (w : PlainWorld) (c : ℕ) (boxes : ℕ → List Note) : Note → PlainWorld → (ℕ → List Note) → Type 0 where
  roused : Takes w c boxes wake w boxes
  summoned : Takes w c boxes news w boxes
  learns : {new : PlainWorld} (k : ℕ) (told : Reply) → Step w (Deliver c k) told new
      → Takes w c boxes (answer k) new boxes
  answers : (asker : ℕ) (digest set : Set) → Answers (w.agents c).known digest set
      → Takes w c boxes (asks asker digest) (sending w set) (telling asker (answer (length w.sent)) boxes)

-- an agent takes in sent deltas, one after another
abbrev pub TakesIn : ℕ → PlainWorld → List ℕ → PlainWorld → Type 0
TakesIn c w [] new = new ≡ w
TakesIn c w (k ∷ ks) new =
    (next : PlainWorld) × (told : Reply) × Step w (Deliver c k) told next × TakesIn c next ks new

-- an agent that waits takes any note of its box, ahead of it all that its mailbox holds, and begins a turn
pub record IsTake (p : Protocol) (c : ℕ) (new : Protocol) : Type 0 where
  pub waiting : p.stages c ≡ waits
  pub before : List Note
  pub note : Note
  pub behind : List Note
  pub in_box : p.boxes c ≡ before ++ note ∷ behind
  pub read : PlainWorld
  pub reads : TakesIn c p.world (p.mails c) read
  pub takes : Takes read c (at p.boxes c (before ++ behind)) note new.world new.boxes
  pub mails : new.mails ≡ at p.mails c []
  pub stages : new.stages ≡ at p.stages c begins

-- one step of the agent of a CPU that is there
pub record OfAgent (p : Protocol) (c : ℕ) (new : Protocol) : Type 0 where
  pub there : nat_lt c (cpus_of p) ≡ true
  pub step : IsLook p c new ⊎ (IsPut p c new ⊎ (IsAct p c new ⊎ IsTake p c new))

-- one step: a call of the environment, a note that is forgotten, or a step of an agent
abbrev pub Goes : Protocol → Protocol → Type 0
Goes p new = IsCalledByEnv p new ⊎ (IsForgotten p new ⊎ ((c : ℕ) × OfAgent p c new))

-- at the start all agents are at their begin, all mailboxes empty, and no note is under way
abbrev pub opening : (ℕ → Rules) → Limits → Protocol
opening rules limits =
    record { world = opened_by rules limits; stages = λ c. begins; mails = λ c. []; boxes = λ c. [] }

-- steps lead from the start of these limits and rules to this state
pub data Comes (rules : ℕ → Rules) (limits : Limits) : Protocol → Type 0 where
  starts : Comes rules limits (opening rules limits)
  goes_on : {p new : Protocol} → Comes rules limits p → Goes p new → Comes rules limits new
