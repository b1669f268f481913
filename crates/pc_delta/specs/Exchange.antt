-- What an exchange of deltas does: views that take parts in, and parts that answer a digest.
use Rattle.std.specs.Prelude.{ℕ, ◌≡◌, true, false, List, ◌∷◌, [], All}
use Rattle.std.specs.List.{list_any}
use Rattle.pc_messages.specs.Run.{Run}
use Rattle.pc_join.specs.Sets.{Members, IsWithin, IsUnion, IsBetween}
use Rattle.pc_view.specs.declared.view.View.{View}
use Rattle.pc_view.specs.Views.{pairs_of, thread_of, IsOfRun}
use Rattle.pc_delta.specs.declared.part.Part.{Part}
use Rattle.pc_delta.specs.Parts.{set_of_part, set_of, tells_of, AreOfRun}
use Rattle.pc_delta.specs.Digests.{RangesByName, set_of_digest}

-- where the view and the parts were of a run, the view still is
abbrev pub StaysOfRun : List Part → View → View → Type 0
StaysOfRun parts old new = (run : Run) → IsOfRun run old → AreOfRun run parts → IsOfRun run new

-- the view has taken in all the parts
pub record IsTakenIn (parts : List Part) (old new : View) : Type 0 where
  pub union : IsUnion (pairs_of old) (set_of parts) (pairs_of new)
  pub of_run : StaysOfRun parts old new

-- the view has taken in some of what the parts tell
pub record IsPartlyTakenIn (parts : List Part) (old new : View) : Type 0 where
  pub between : IsBetween (pairs_of old) (set_of parts) (pairs_of new)
  pub of_run : StaysOfRun parts old new

-- of a thread that no part tells of, the same is known
abbrev pub KeepsOthers : List Part → View → View → Type 0
KeepsOthers parts old new = (t : ℕ) → tells_of parts t ≡ false → thread_of new t ≡ thread_of old t

-- a message that the asker has not, and the set has
pub record IsNews (asked set : Members) : Type 0 where
  pub thread : ℕ
  pub number : ℕ
  pub told : set (thread ∷ number ∷ []) ≡ true
  pub lacking : asked (thread ∷ number ∷ []) ≡ false

-- the parts answer an asker, who knows a set of messages, from a view: they tell all that the view has and the asker
-- has not, nothing that the view has not, and each of them tells something that the asker has not
pub record IsAnswerTo (view : View) (asked : Members) (parts : List Part) : Type 0 where
  pub lacking : (m : List ℕ) → pairs_of view m ≡ true → asked m ≡ false → set_of parts m ≡ true
  pub within : IsWithin (set_of parts) (pairs_of view)
  pub none_spare : All (λ part. IsNews asked (set_of_part part)) parts
  pub of_run : (run : Run) → IsOfRun run view → AreOfRun run parts

-- the parts answer a digest from a view
abbrev pub IsAnswer : View → RangesByName → List Part → Type 0
IsAnswer view digest parts = IsAnswerTo view (set_of_digest digest) parts

-- a view of the run took in a set of messages, and is of the run
pub record Takes (run : Run) (set : Members) (old new : View) : Type 0 where
  pub union : IsUnion (pairs_of old) set (pairs_of new)
  pub of_run : IsOfRun run old → IsOfRun run new

-- a view took in one set after another
abbrev pub TakesEach : Run → List Members → View → View → Type 0
TakesEach run [] old new = new ≡ old
TakesEach run (set ∷ sets) old new = (mid : View) × Takes run set old mid × TakesEach run sets mid new

-- the union of the sets
abbrev pub all_of : List Members → Members
all_of sets m = list_any (λ set. set m) sets
