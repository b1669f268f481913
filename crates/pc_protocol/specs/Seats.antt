-- What a seat shows: of a CPU's agent the stage of its turn, its mail, and the notes under way to it.
use Rattle.std.specs.Prelude.{ℕ, ◌≡◌, ◌<◌, List, [], ◌∷◌, ◌++◌, length, max, Bool, true, false, nat_lt}
use Rattle.std.specs.Prelude.{if◌then◌else◌, Option, Some, None, slice_get}
use Rattle.pc_calls.specs.declared.event.Reply.{Reply}
use Rattle.pc_calls.specs.declared.event.Reply.TheVariants as reply
use Rattle.pc_join.specs.Sets.{IsSameSet, Members, as_members}
use Rattle.pc_kernel.specs.Steps.{at}
use Rattle.pc_delta.specs.Digests.{set_of_digest}
use Rattle.pc_agent.specs.PlainAgent.{Set}
use Rattle.pc_protocol.specs.declared.seats.Due.{Due}
use Rattle.pc_protocol.specs.declared.seats.Due.TheVariants as due
use Rattle.pc_protocol.specs.declared.seats.Note.{Note as KeptNote}
use Rattle.pc_protocol.specs.declared.seats.Note.TheVariants as kept
use Rattle.pc_protocol.specs.declared.seats.Seat.{Seat}
use Rattle.pc_protocol.specs.declared.seats.Stage.{Stage as KeptStage}
use Rattle.pc_protocol.specs.declared.seats.Stage.TheVariants as kept_stage
use Rattle.pc_protocol.specs.Protocol.{Note, Stage, answer, asks, begins, news, puts, telling, telling_others}
use Rattle.pc_protocol.specs.Protocol.{waits, wake, woken_in}

-- a note that is kept is this one; a question is kept with a digest of what the asker knew
abbrev pub ShowsNote : KeptNote → Note → Type 0
ShowsNote kept.Wake wake = Unit {0}
ShowsNote kept.News news = Unit {0}
ShowsNote (kept.Asks asker question) (asks cpu set) =
    (asker ≡ cpu) × IsSameSet (set_of_digest question.digest) (as_members set)
ShowsNote (kept.Answer sender delta) (answer k) = delta ≡ k
ShowsNote kept note = ⊥

-- the notes are these, one after another
abbrev pub AreNotes : List KeptNote → List Note → Type 0
AreNotes [] [] = Unit {0}
AreNotes (kept ∷ rest) (note ∷ notes) = ShowsNote kept note × AreNotes rest notes
AreNotes [] (note ∷ notes) = ⊥
AreNotes (kept ∷ rest) [] = ⊥

-- a stage that is kept is this one
abbrev pub ShowsStage : KeptStage → Stage → Type 0
ShowsStage kept_stage.Begins begins = Unit {0}
ShowsStage (kept_stage.Puts aseq delta left) (puts n k cpus) = (aseq ≡ n) × (delta ≡ k) × (left.items ≡ cpus)
ShowsStage kept_stage.Waits waits = Unit {0}
ShowsStage kept stage = ⊥

-- the seat has this stage, the indices of this mail, and these notes
pub record ShowsSeat (seat : Seat) (at_stage : Stage) (held : List ℕ) (box : List Note) : Type 0 where
  pub stage : ShowsStage seat.stage at_stage
  pub mail : seat.mail.items ≡ held
  pub notes : AreNotes seat.notes.items box

-- the seat of each CPU that is there has what that CPU's agent has
abbrev pub AreSeats : List Seat → (ℕ → Stage) → (ℕ → List ℕ) → (ℕ → List Note) → Type 0
AreSeats seats stages mails boxes =
    (c : ℕ) (seat : Seat) → slice_get seats c ≡ Some seat → ShowsSeat seat (stages c) (mails c) (boxes c)

-- how many ways an agent has to go on: one at its begin and in its act, one for each to whom it has still to put what
-- it sent, and one for each note; by its stage, and by how many notes there are
abbrev pub by_stage : KeptStage → ℕ → ℕ
by_stage kept_stage.Begins notes = 1
by_stage (kept_stage.Puts aseq delta left) notes = max 1 (length left.items)
by_stage kept_stage.Waits notes = notes

-- the same of a seat
abbrev pub choices_at : Seat → ℕ
choices_at seat = by_stage seat.stage (length seat.notes.items)

-- none, where there is no such seat
abbrev pub choices_of : Option Seat → ℕ
choices_of None = 0
choices_of (Some seat) = choices_at seat

-- an agent is at the begin of a turn
abbrev pub is_begin : KeptStage → Bool
is_begin kept_stage.Begins = true
is_begin stage = false

-- what is due at a stage
abbrev pub IsDue : KeptStage → Due → Type 0
IsDue kept_stage.Begins due.Look = Unit {0}
IsDue (kept_stage.Puts aseq delta left) due.Put = 0 < length left.items
IsDue (kept_stage.Puts aseq delta left) (due.Act n) = (aseq ≡ n) × (left.items ≡ [])
IsDue kept_stage.Waits due.Take = Unit {0}
IsDue kept due = ⊥

-- what is due at the stage of the seat at a place
abbrev pub IsDueAt : List Seat → ℕ → Due → Type 0
IsDueAt seats place due = (seat : Seat) × (slice_get seats place ≡ Some seat) × IsDue seat.stage due

-- the seats with the stage of one of them set to this one
abbrev pub SetsStage : ℕ → KeptStage → List Seat → List Seat → Type 0
SetsStage place kept old new =
    (stage : Stage) (stages : ℕ → Stage) (mails : ℕ → List ℕ) (boxes : ℕ → List Note) → ShowsStage kept stage
    → AreSeats old stages mails boxes → AreSeats new (at stages place stage) mails boxes

-- the seats with one more note to an agent; one of a CPU that is not there is told nothing
abbrev pub Tells : ℕ → KeptNote → List Seat → List Seat → Type 0
Tells c kept old new =
    (note : Note) (stages : ℕ → Stage) (mails : ℕ → List ℕ) (boxes : ℕ → List Note) → ShowsNote kept note
    → AreSeats old stages mails boxes → AreSeats new stages mails (telling c note boxes)

-- the seats with one more question to each agent but the asker, by a digest of this set
abbrev pub AsksOthers : ℕ → Members → List Seat → List Seat → Type 0
AsksOthers c known old new =
    (set : Set) (stages : ℕ → Stage) (mails : ℕ → List ℕ) (boxes : ℕ → List Note) → IsSameSet known (as_members set)
    → AreSeats old stages mails boxes → AreSeats new stages mails (telling_others c (asks c set) boxes)

-- the boxes, with one more note in each below a place but the sender's
abbrev pub telling_below : ℕ → ℕ → Note → (ℕ → List Note) → ℕ → List Note
telling_below place sender note boxes c = if nat_lt c place then telling_others sender note boxes c else boxes c

-- the same, as far as the agents below a place
abbrev pub AsksBelow : ℕ → ℕ → Members → List Seat → List Seat → Type 0
AsksBelow place c known old new =
    (set : Set) (stages : ℕ → Stage) (mails : ℕ → List ℕ) (boxes : ℕ → List Note) → IsSameSet known (as_members set)
    → AreSeats old stages mails boxes → AreSeats new stages mails (telling_below place c (asks c set) boxes)

-- an agent that has still to put the delta to another one
pub record IsPutting (c k to : ℕ) (stages : ℕ → Stage) : Type 0 where
  pub n : ℕ
  pub before : List ℕ
  pub behind : List ℕ
  pub at_put : stages c ≡ puts n k (before ++ to ∷ behind)

-- the seats with one of those struck out to whom an agent has still to put what it sent
abbrev pub PutsNext : ℕ → ℕ → ℕ → List Seat → List Seat → Type 0
PutsNext c k to old new =
    (stages : ℕ → Stage) (mails : ℕ → List ℕ) (boxes : ℕ → List Note) → AreSeats old stages mails boxes
    → (putting : IsPutting c k to stages)
    × AreSeats new (at stages c (puts putting.n k (putting.before ++ putting.behind))) mails boxes

-- whether a note is kept for an agent
abbrev pub HasNote : List Seat → ℕ → Bool → Type 0
HasNote seats c has =
    has ≡ true → (seat : Seat) × (slice_get seats c ≡ Some seat) × (0 < length seat.notes.items)

-- the seats with one more delta in one of the mailboxes
abbrev pub LeavesMail : ℕ → ℕ → List Seat → List Seat → Type 0
LeavesMail c k old new =
    (stages : ℕ → Stage) (mails : ℕ → List ℕ) (boxes : ℕ → List Note) → AreSeats old stages mails boxes
    → AreSeats new stages (at mails c (mails c ++ k ∷ [])) boxes

-- the seats with one of the mailboxes empty, and what it held
abbrev pub EmptiesMail : ℕ → List ℕ → List Seat → List Seat → Type 0
EmptiesMail c mail old new =
    (stages : ℕ → Stage) (mails : ℕ → List ℕ) (boxes : ℕ → List Note) → AreSeats old stages mails boxes
    → (mails c ≡ mail) × AreSeats new stages (at mails c []) boxes

-- a note that is kept stood in the box, and these are the boxes without it
pub record IsOutOf (c : ℕ) (kept : KeptNote) (boxes : ℕ → List Note) : Type 0 where
  pub before : List Note
  pub note : Note
  pub behind : List Note
  pub in_box : boxes c ≡ before ++ note ∷ behind
  pub shows : ShowsNote kept note

-- the seats with a note less in one of the boxes
abbrev pub TakesNote : ℕ → KeptNote → List Seat → List Seat → Type 0
TakesNote c kept old new =
    (stages : ℕ → Stage) (mails : ℕ → List ℕ) (boxes : ℕ → List Note) → AreSeats old stages mails boxes
    → (out : IsOutOf c kept boxes) × AreSeats new stages mails (at boxes c (out.before ++ out.behind))

-- the agent that a call woke
abbrev pub woken_by : Reply → Option ℕ
woken_by (reply.Posted posted) = posted.woken
woken_by told = None

-- the seats with one more note to the agent that a call woke, where it woke one
abbrev pub TellsWoken : Reply → List Seat → List Seat → Type 0
TellsWoken told old new =
    (stages : ℕ → Stage) (mails : ℕ → List ℕ) (boxes : ℕ → List Note) → AreSeats old stages mails boxes
    → AreSeats new stages mails (woken_in told boxes)
