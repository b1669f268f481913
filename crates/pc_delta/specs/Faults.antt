-- What is wrong with parts: the faults of one, the first that is there, and two parts that contradict each other.
use Rattle.std.specs.Prelude.{ℕ, ◌*◌, ◌<◌, ◌≤◌, ◌≡◌, ◌==◌, ◌⊎◌, nat_lt, not, Bool, true, false, if◌then◌else◌, List, []}
use Rattle.std.specs.Prelude.{◌∷◌, Option, Some, None, Contains}
use Rattle.std.specs.Option.{option_or}
use Rattle.pc_messages.specs.declared.message.TheConstants.{GREATEST_NUMBER}
use Rattle.pc_messages.specs.declared.kind.TheConstants.{MOST_TICKS}
use Rattle.pc_messages.specs.declared.reported.Reported.{Reported}
use Rattle.pc_messages.specs.Run.{is_created}
use Rattle.pc_delta.specs.declared.part.Part.{Part}
use Rattle.pc_delta.specs.declared.part.Part.TheVariants.{One, Folded}
use Rattle.pc_delta.specs.declared.fault.DeltaFault.{DeltaFault}
use Rattle.pc_delta.specs.declared.fault.DeltaFault.TheVariants as fault

-- the kind is a Created, and the number is not 1; or the other way round
abbrev pub is_misplaced : Bool → ℕ → Bool
is_misplaced created number = if created then not (number == 1) else (number == 1)

-- the tests of a part in their order, each with the fault that it finds
abbrev pub tests : Part → List (Bool × DeltaFault)
tests (One message) =
    (message.number == 0, fault.ZeroNumber)
    ∷ (nat_lt GREATEST_NUMBER message.number, fault.NumberTooLarge)
    ∷ (is_misplaced (is_created message.kind) message.number, fault.CreatedMisplaced)
    ∷ []
tests (Folded thread upto reported) =
    (upto == 0, fault.ZeroNumber)
    ∷ (nat_lt GREATEST_NUMBER upto, fault.NumberTooLarge)
    ∷ (nat_lt (upto * MOST_TICKS) reported.ran, fault.RanTooLarge)
    ∷ []

-- what stands beside the first test that holds
abbrev pub first_of : List (Bool × DeltaFault) → Option DeltaFault
first_of [] = None
first_of (test ∷ more) = if test.0 then Some test.1 else first_of more

-- the first fault of a part
abbrev pub fault_of : Part → Option DeltaFault
fault_of part = first_of (tests part)

-- the first fault of the first part that has one
abbrev pub first_fault : List Part → Option DeltaFault
first_fault [] = None
first_fault (part ∷ parts) = option_or (fault_of part) (first_fault parts)

-- so many messages may report such a state: there is one at least, and no more ticks than they can carry
pub record IsPossiblePrefix (upto : ℕ) (reported : Reported) : Type 0 where
  pub positive : 1 ≤ upto
  pub greatest : upto ≤ GREATEST_NUMBER
  pub ran : reported.ran ≤ upto * MOST_TICKS

-- the thread and the number that a part is about, and whether it is a folded one
abbrev pub place_of : Part → ℕ × ℕ × Bool
place_of (One message) = (message.thread, message.number, false)
place_of (Folded thread upto reported) = (thread, upto, true)

-- two of the parts are about this thread and number, both one message or both a folded prefix, and differ
pub record IsConflict (parts : List Part) (thread number : ℕ) : Type 0 where
  pub one : Part
  pub other : Part
  pub has_one : Contains parts one
  pub has_other : Contains parts other
  pub of_thread : (place_of one).0 ≡ thread
  pub at_number : (place_of one).1 ≡ number
  pub same_place : place_of one ≡ place_of other
  pub differ : ¬ (one ≡ other)

-- of all conflicts this one has the least thread, and among those the least number
pub record IsLeastConflict (parts : List Part) (thread number : ℕ) : Type 0 where
  pub conflict : IsConflict parts thread number
  pub least : (t n : ℕ) → IsConflict parts t n → (thread < t) ⊎ ((thread ≡ t) × (number ≤ n))

-- no two of the parts contradict each other
abbrev pub HasNoConflict : List Part → Type 0
HasNoConflict parts = (thread number : ℕ) → ¬ IsConflict parts thread number
