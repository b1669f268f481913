-- What each event does to the plain world, and what it is replied.
use Rattle.std.specs.Prelude.{ℕ, ◌≡◌, ◌&&◌, Bool, true, false, List, [], ◌∷◌, ◌++◌, length, Option, Some, None, Result}
use Rattle.std.specs.Prelude.{Ok, Err, All, MatchBool, MatchOption, slice_get, is_some}
use Rattle.pc_messages.specs.Run.{Run}
use Rattle.pc_calls.specs.AgentCalls.{commits, rouses}
use Rattle.pc_calls.specs.declared.call.Answer.{Answer}
use Rattle.pc_calls.specs.declared.call.Call.{Call}
use Rattle.pc_calls.specs.declared.call.Call.TheVariants as call
use Rattle.pc_calls.specs.declared.event.Event.{Event}
use Rattle.pc_calls.specs.declared.event.Event.TheVariants.{Publish, Consume, Deliver, Answer as AnswerDigest, Pick}
use Rattle.pc_calls.specs.declared.event.Event.TheVariants.{Steal, Crash}
use Rattle.pc_calls.specs.declared.event.Reply.{Reply}
use Rattle.pc_calls.specs.declared.event.Reply.TheVariants as reply
use Rattle.pc_calls.specs.declared.refusal.Refusal.{Refusal}
use Rattle.pc_calls.specs.declared.refusal.Refusal.TheVariants as refusal
use Rattle.pc_calls.specs.Events.{call_of, told_of}
use Rattle.pc_join.specs.Sets.{has}
use Rattle.pc_kernel.specs.PlainKernel.{kinds, content}
use Rattle.pc_kernel.specs.Reads.{shown, is_cpu, on}
use Rattle.pc_kernel.specs.Steps as kernel
use Rattle.pc_delta.specs.declared.part.Part.{Part}
use Rattle.pc_delta.specs.Parts.{AreOfRun, pairs_of_part, pairs_of_parts}
use Rattle.pc_agent.specs.PlainAgent.{Set, fresh, pick_refused, ready_list, stealing, taking_in}
use Rattle.pc_agent.specs.Running.{FindsFirst, left_by, takes_over}
use Rattle.pc_world.specs.PlainWorld.{PlainWorld, copied_all, published, sending, with_agent}

-- an event that is a call of the kernel
pub record IsCalled (w : PlainWorld) (c : Call) (told : Reply) (new : PlainWorld) : Type 0 where
  pub tells : told ≡ told_of c (kernel.reply w.kernel c)
  pub after : new ≡ record w { kernel = kernel.after w.kernel c }

-- refused, and nothing changes
pub record IsRefused (w : PlainWorld) (r : Refusal) (told : Reply) (new : PlainWorld) : Type 0 where
  pub refused : told ≡ reply.Refused r
  pub same : new ≡ w

-- refused for a CPU that is not there
abbrev pub IsBadCpu : PlainWorld → Reply → PlainWorld → Type 0
IsBadCpu w told new = IsRefused w refusal.BadCpu told new

-- the CPU is there and this holds, or the event is refused
abbrev pub OnCpu : PlainWorld → ℕ → Reply → PlainWorld → Type 0 → Type 0
OnCpu w c told new Holds = MatchBool (is_cpu (shown w.kernel) c) Holds (IsBadCpu w told new)

-- the agent removes from its queue what it has sent, as the kernel answers
abbrev pub IsConsumed : PlainWorld → ℕ → Result Answer Refusal → Reply → PlainWorld → Type 0
IsConsumed w c (Ok answer) told new =
    let p = w.agents c in
    (told ≡ reply.Consumed p.sent_items)
    × (new ≡ record (with_agent w c (record p { sent_items = 0 }))
    { kernel = kernel.after w.kernel (call.Consume c p.sent_items) })
IsConsumed w c (Err r) told new = IsRefused w r told new

-- a consume: of a CPU that is there, as many items as its agent has sent
abbrev pub IsConsuming : ℕ → PlainWorld → Reply → PlainWorld → Type 0
IsConsuming c w told new =
    OnCpu w c told new (IsConsumed w c (kernel.reply w.kernel (call.Consume c (w.agents c).sent_items)) told new)

-- the agent sends what its queue holds; where the send is refused, it has copied it all the same
abbrev pub IsPublished : PlainWorld → ℕ → Bool → Reply → PlainWorld → Type 0
IsPublished w c false told new =
    (told ≡ reply.Published (length w.sent) (length (content w.kernel c))) × (new ≡ published w c)
IsPublished w c true told new = (told ≡ reply.Refused refusal.WireFault) × (new ≡ copied_all w c)

-- a publish: the agent copies what its queue holds, and sends it unless the send is refused
abbrev pub IsPublishing : ℕ → Bool → PlainWorld → Reply → PlainWorld → Type 0
IsPublishing c fails w told new = OnCpu w c told new (IsPublished w c fails told new)

-- an agent takes in what the delta with an index tells, where it was sent
abbrev pub IsDelivered : PlainWorld → ℕ → Option Set → Reply → PlainWorld → Type 0
IsDelivered w c None told new = IsRefused w refusal.NoDelta told new
IsDelivered w c (Some set) told new = (told ≡ reply.Done) × (new ≡ with_agent w c (taking_in set (w.agents c)))

-- a delivery: the agent's set gains what the delta tells, where one of this index was sent
abbrev pub IsDelivering : ℕ → ℕ → PlainWorld → Reply → PlainWorld → Type 0
IsDelivering c k w told new = OnCpu w c told new (IsDelivered w c (slice_get w.sent k) told new)

-- the part tells something that the set has not
abbrev pub IsNewTo : Set → Part → Type 0
IsNewTo set part = (t : ℕ) × (n : ℕ) × (has (pairs_of_part part) t n ≡ true) × (has set t n ≡ false)

-- a delta of the run with these pairs answers the digest of one set from the view of another: it tells all that the
-- view has and the digest has not, nothing that the view has not, and each of its parts tells something that the digest
-- has not (over lists of pairs, what the exchange of deltas says of views and digests)
pub record IsAnswerSet (run : Run) (view digest set : Set) : Type 0 where
  pub parts : List Part
  pub of_run : AreOfRun run parts
  pub pairs : set ≡ pairs_of_parts parts
  pub lacking : (t n : ℕ) → has view t n ≡ true → has digest t n ≡ false → has set t n ≡ true
  pub within : (t n : ℕ) → has set t n ≡ true → has view t n ≡ true
  pub none_spare : All (IsNewTo digest) parts

-- one agent answers a digest; which of the answers it sends is its choice
pub record IsAnsweredTo (digest : Set) (w : PlainWorld) (c : ℕ) (told : Reply) (new : PlainWorld) : Type 0 where
  pub set : Set
  pub answers : IsAnswerSet (kinds w.kernel) (w.agents c).known digest set
  pub tells : told ≡ reply.Answered (length w.sent)
  pub after : new ≡ sending w set

-- an answer to a digest: a delta is sent that tells what the agent knows and the digest has not
abbrev pub IsAnsweringDigest : Set → ℕ → PlainWorld → Reply → PlainWorld → Type 0
IsAnsweringDigest digest c w told new = OnCpu w c told new (IsAnsweredTo digest w c told new)

-- one agent answers another's digest of this moment
abbrev pub IsAnswered : PlainWorld → ℕ → ℕ → Reply → PlainWorld → Type 0
IsAnswered w c asker told new = IsAnsweredTo (w.agents asker).known w c told new

-- both CPUs are there
abbrev pub are_cpus : PlainWorld → ℕ → ℕ → Bool
are_cpus w c other = is_cpu (shown w.kernel) c && is_cpu (shown w.kernel) other

-- an answer: a delta is sent that tells what the agent knows and the asker does not
abbrev pub IsAnswering : ℕ → ℕ → PlainWorld → Reply → PlainWorld → Type 0
IsAnswering c asker w told new = MatchBool (are_cpus w c asker) (IsAnswered w c asker told new) (IsBadCpu w told new)

-- the agent commits the first of the names that the kernel would commit, and what follows it is left
abbrev pub IsCommitted : PlainWorld → ℕ → ℕ → List ℕ → Reply → PlainWorld → Type 0
IsCommitted w c n [] told new = ⊥
IsCommitted w c n (t ∷ rest) told new =
    (told ≡ reply.Committed c t)
    × (new ≡ record (with_agent w c (record (w.agents c) { list = rest }))
    { kernel = kernel.after w.kernel (commits c t n) })

-- a pick, refused or not; where no name could be committed, the run list is empty
abbrev pub IsPicked : PlainWorld → ℕ → ℕ → Option Refusal → Reply → PlainWorld → Type 0
IsPicked w c n None told new = IsCommitted w c n (ready_list (shown w.kernel) c n (w.agents c).list) told new
IsPicked w c n (Some r) told new =
    (told ≡ reply.Refused r) × (new ≡ with_agent w c (record (w.agents c) { list = left_by r (w.agents c).list }))

-- a pick: the first name of the run list that the kernel would commit is committed
abbrev pub IsPicking : ℕ → ℕ → PlainWorld → Reply → PlainWorld → Type 0
IsPicking c n w told new =
    OnCpu w c told new (IsPicked w c n (pick_refused (shown w.kernel) c n (w.agents c).list) told new)

-- the agent takes a thread over, which goes to the end of its run list, unless the kernel refuses
abbrev pub IsTakenOver : PlainWorld → ℕ → ℕ → Option Refusal → Reply → PlainWorld → Type 0
IsTakenOver w c t None told new =
    let p = w.agents c in
    (told ≡ reply.Associated c t)
    × (new ≡ record (with_agent w c (record p { list = p.list ++ t ∷ [] }))
    { kernel = kernel.after w.kernel (takes_over c p t) })
IsTakenOver w c t (Some r) told new = IsRefused w r told new

-- what is done with the first thread that may be stolen
abbrev pub IsTried : PlainWorld → ℕ → Option ℕ → Reply → PlainWorld → Type 0
IsTried w c None told new = IsRefused w refusal.NothingToSteal told new
IsTried w c (Some t) told new =
    IsTakenOver w c t (kernel.refused (shown w.kernel) (takes_over c (w.agents c) t)) told new

-- where a thread stands among those that an agent may steal; nowhere, where it may not
abbrev pub stealable : PlainWorld → ℕ → ℕ → Option ℕ
stealable w c = stealing (shown w.kernel) (kinds w.kernel) c (w.agents c)

-- a steal: refused where a thread runs on the CPU; else the first thread that may be stolen is tried, and no other
abbrev pub IsStolen : PlainWorld → ℕ → Bool → Reply → PlainWorld → Type 0
IsStolen w c true told new = IsRefused w refusal.Busy told new
IsStolen w c false told new = (first : Option ℕ) × FindsFirst (stealable w c) first × IsTried w c first told new

-- a steal: the first thread that may be stolen is taken over
abbrev pub IsStealing : ℕ → PlainWorld → Reply → PlainWorld → Type 0
IsStealing c w told new = OnCpu w c told new (IsStolen w c (is_some (on (shown w.kernel) c)) told new)

-- the agent starts again with nothing but its rules, and is awake
abbrev pub IsCrashing : ℕ → PlainWorld → Reply → PlainWorld → Type 0
IsCrashing c w told new =
    OnCpu w c told new
    ((told ≡ reply.Done)
    × (new ≡ record (with_agent w c (fresh (w.agents c).rules)) { kernel = kernel.after w.kernel (rouses c) }))

-- an event that is no call of the kernel
abbrev pub IsOwnStep : PlainWorld → Event → Reply → PlainWorld → Type 0
IsOwnStep w (Publish cpu fails) told new = IsPublishing cpu fails w told new
IsOwnStep w (Consume cpu) told new = IsConsuming cpu w told new
IsOwnStep w (Deliver cpu delta) told new = IsDelivering cpu delta w told new
IsOwnStep w (AnswerDigest cpu asker) told new = IsAnswering cpu asker w told new
IsOwnStep w (Pick cpu aseq) told new = IsPicking cpu aseq w told new
IsOwnStep w (Steal cpu) told new = IsStealing cpu w told new
IsOwnStep w (Crash cpu) told new = IsCrashing cpu w told new
IsOwnStep w event told new = ⊥

-- one event
abbrev pub Step : PlainWorld → Event → Reply → PlainWorld → Type 0
Step w event told new = MatchOption (call_of event) (IsOwnStep w event told new) (λ c. IsCalled w c told new)

-- a list of events, one after another
abbrev pub Runs : PlainWorld → List Event → List Reply → PlainWorld → Type 0
Runs w [] [] new = new ≡ w
Runs w (event ∷ events) (told ∷ replies) new =
    (next : PlainWorld) × Step w event told next × Runs next events replies new
Runs w [] (told ∷ replies) new = ⊥
Runs w (event ∷ events) [] new = ⊥
