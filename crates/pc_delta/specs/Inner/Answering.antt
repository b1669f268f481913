-- How far an answer has come: parts that an asker lacks, and the threads that they tell.
use Rattle.std.specs.Prelude.{ℕ, ◌≡◌, true, false, List, [], ◌∷◌, None, Some, Option}
use Rattle.pc_messages.specs.declared.kind.Kind.{Kind}
use Rattle.pc_messages.specs.Run.{Run}
use Rattle.pc_join.specs.Sets.{Members, IsWithin, members_at, source_at}
use Rattle.pc_join.specs.Ranges.{one_to}
use Rattle.std.specs.List.{All}
use Rattle.pc_thread_view.specs.Told.{Told, IsOfThread, numbers_of, tells}
use Rattle.pc_view.specs.declared.view.View.{View}
use Rattle.pc_view.specs.Views.{pairs_of, source_of, IsOfRun}
use Rattle.pc_delta.specs.declared.part.Part.{Part}
use Rattle.pc_delta.specs.declared.part.Part.TheVariants.{One}
use Rattle.pc_delta.specs.Parts.{set_of_part, set_of, IsPartOfRun}
use Rattle.pc_delta.specs.Faults.{fault_of}
use Rattle.pc_delta.specs.Exchange.{IsNews}

-- a part without a fault, which tells what the view has, and something that the asker has not
pub record IsUseful (view : View) (asked : Members) (part : Part) : Type 0 where
  pub sound : fault_of part ≡ None
  pub within : IsWithin (set_of_part part) (pairs_of view)
  pub news : IsNews asked (set_of_part part)
  pub of_run : (run : Run) → IsOfRun run view → IsPartOfRun run part

-- the parts tell all of a thread that the view has and the asker has not
abbrev pub IsToldAt : View → Members → ℕ → List Part → Type 0
IsToldAt view asked thread parts =
    (m : List ℕ) → pairs_of view (thread ∷ m) ≡ true → asked (thread ∷ m) ≡ false → set_of parts (thread ∷ m) ≡ true

-- a part without a fault, which tells what is told of a thread, and a number that is not known
pub record IsUsefulOf (thread : ℕ) (told : Told) (known : Members) (part : Part) : Type 0 where
  pub sound : fault_of part ≡ None
  pub within : IsWithin (set_of_part part) (members_at thread (numbers_of told))
  pub number : ℕ
  pub in_part : set_of_part part (thread ∷ number ∷ []) ≡ true
  pub unknown : known (number ∷ []) ≡ false
  pub of_run : (run : Run) → IsOfThread told (source_at (source_of run) thread) → IsPartOfRun run part

-- the parts tell what is told of a thread and not known, and each of them something of it
pub record TellsAll (thread : ℕ) (told : Told) (known : Members) (parts : List Part) : Type 0 where
  pub useful : All (IsUsefulOf thread told known) parts
  pub all : (n : ℕ) → tells told n ≡ true → known (n ∷ []) ≡ false → set_of parts (thread ∷ n ∷ []) ≡ true

-- the part tells all of the thread up to a number
abbrev pub TellsPrefix : ℕ → ℕ → Part → Type 0
TellsPrefix thread upto part = (n : ℕ) → one_to upto n ≡ true → set_of_part part (thread ∷ n ∷ []) ≡ true

-- each number up to one is known
abbrev pub KnowsPrefix : Members → ℕ → Type 0
KnowsPrefix known upto = (n : ℕ) → one_to upto n ≡ true → known (n ∷ []) ≡ true

-- a number from 1 to one is not known
pub record IsLacking (known : Members) (upto : ℕ) : Type 0 where
  pub number : ℕ
  pub in_prefix : one_to upto number ≡ true
  pub unknown : known (number ∷ []) ≡ false

-- the part is this message of the thread, whose number is not known
pub record IsOneOf (thread : ℕ) (entry : ℕ × Kind) (known : Members) (part : Part) : Type 0 where
  pub message : part ≡ One (record { thread = thread; number = entry.0; kind = entry.1 })
  pub unknown : known (entry.0 ∷ []) ≡ false

-- an item, where there is one, as a list
abbrev pub listed : {X : Type 0} → Option X → List X
listed None = []
listed (Some x) = x ∷ []
