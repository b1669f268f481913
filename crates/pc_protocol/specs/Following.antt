-- What the parts of a step do to a world and its seats.
use Rattle.std.specs.Prelude.{ℕ, ◌≡◌, Bool, true, if◌then◌else◌, List, length}
use Rattle.pc_calls.specs.declared.call.AgentCall.TheVariants.{Sleep}
use Rattle.pc_calls.specs.declared.event.Event.TheVariants.{Agent, Deliver}
use Rattle.pc_calls.specs.declared.event.Reply.{Reply}
use Rattle.pc_join.specs.Sets.{IsSameSet, Members, as_members}
use Rattle.pc_agent.specs.PlainAgent.{Set}
use Rattle.pc_delta.specs.Digests.{set_of_digest}
use Rattle.pc_kernel.specs.Reads.{is_cpu, shown}
use Rattle.pc_world.specs.PlainWorld.{PlainWorld, sending}
use Rattle.pc_world.specs.Shows.{ShowsWorld, World}
use Rattle.pc_world.specs.Steps.{Step}
use Rattle.pc_protocol.specs.declared.seats.Note.{Note as KeptNote}
use Rattle.pc_protocol.specs.declared.seats.Note.TheVariants as kept
use Rattle.pc_protocol.specs.declared.seats.Seat.{Seat}
use Rattle.pc_protocol.specs.declared.seats.Stage.{Stage as KeptStage}
use Rattle.pc_protocol.specs.Protocol.{Answers, Note, Stage, answer, asks, behind_sleep, news, telling}
use Rattle.pc_protocol.specs.Protocol.{telling_others}
use Rattle.pc_protocol.specs.Seats.{AreSeats, ShowsStage}
use Rattle.pc_protocol.specs.Turning.{Leads}

-- every agent but one is asked for what that one does not know, which a plain world tells that is shown
abbrev pub AsksByWorld : World → ℕ → List Seat → List Seat → Type 0
AsksByWorld world c old new =
    (w : PlainWorld) (stages : ℕ → Stage) (mails : ℕ → List ℕ) (boxes : ℕ → List Note) → ShowsWorld world w
    → is_cpu (shown w.kernel) c ≡ true → AreSeats old stages mails boxes
    → AreSeats new stages mails (telling_others c (asks c (w.agents c).known) boxes)

-- the seats with a note that the mailbox holds news, unless it is quiet
abbrev pub TellsUnless : Bool → ℕ → List Seat → List Seat → Type 0
TellsUnless quiet c old new =
    (stages : ℕ → Stage) (mails : ℕ → List ℕ) (boxes : ℕ → List Note) → AreSeats old stages mails boxes
    → AreSeats new stages mails (if quiet then boxes else telling c news boxes)

-- an agent's sleep under a count of posts led from one plain world to another, and it goes on at this stage
pub record IsSleep (c n : ℕ) (kept : KeptStage) (w v : PlainWorld) : Type 0 where
  pub told : Reply
  pub step : Step w (Agent (Sleep c n)) told v
  pub on : ShowsStage kept (behind_sleep told)

-- an agent sleeps under a count of posts
abbrev pub SleepsUnder : ℕ → ℕ → World → World → KeptStage → Type 0
SleepsUnder c n old new kept = Leads (IsSleep c n kept) old new

-- an agent's answer to a digest led from one plain world to another, where the asker is told of it
pub record IsReplyTo (c asker : ℕ) (digest : Set) (w v : PlainWorld) (old new : List Seat) : Type 0 where
  pub set : Set
  pub answers : Answers (w.agents c).known digest set
  pub after : v ≡ sending w set
  pub tells : (stages : ℕ → Stage) (mails : ℕ → List ℕ) (boxes : ℕ → List Note) → AreSeats old stages mails boxes
      → AreSeats new stages mails (telling asker (answer (length w.sent)) boxes)

-- an agent that is there answers a digest, whatever set that is of
abbrev pub AnswersAsker : ℕ → ℕ → Members → World → World → List Seat → List Seat → Type 0
AnswersAsker c asker digest old new seats seats' =
    (asked : Set) → IsSameSet digest (as_members asked) → (w : PlainWorld) → ShowsWorld old w
    → is_cpu (shown w.kernel) c ≡ true
    → (v : PlainWorld) × IsReplyTo c asker asked w v seats seats' × ShowsWorld new v

-- nothing is done
abbrev pub StaysSo : World → World → List Seat → List Seat → Type 0
StaysSo old new seats seats' = (new ≡ old) × (seats' ≡ seats)

-- what an agent does with a note
abbrev pub Follows : ℕ → KeptNote → World → World → List Seat → List Seat → Type 0
Follows c kept.Wake old new seats seats' = StaysSo old new seats seats'
Follows c kept.News old new seats seats' = StaysSo old new seats seats'
Follows c (kept.Answer sender k) old new seats seats' =
    Leads (λ w v. (told : Reply) × Step w (Deliver c k) told v) old new × (seats' ≡ seats)
Follows c (kept.Asks asker question) old new seats seats' =
    AnswersAsker c asker (set_of_digest question.digest) old new seats seats'
