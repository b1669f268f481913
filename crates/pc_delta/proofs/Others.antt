-- Threads that parts do not tell of stay as they were.
use Rattle.std.proofs.Common.{ℕ, ◌+◌, ◌<◌, ◌==◌, ◌≡◌, ◌≢◌, ◌||◌, Bool, true, false, List, [], ◌∷◌, ◌++◌, length, drop, get_or, refl, sym, ◌∙◌, subst, inl, inr}
use Rattle.std.proofs.lemmas.Bool.{false≢true}
use Rattle.std.proofs.lemmas.Bool.Decides.{eqb_tells}
use Rattle.std.proofs.lemmas.List.Folds.{list_any-append}
use Rattle.pc_messages.proofs.Bools.{or_none}
use Rattle.pc_view.specs.declared.view.View.{View}
use Rattle.pc_view.specs.Views.{thread_of}
use Rattle.pc_delta.specs.declared.part.Part.{Part}
use Rattle.pc_delta.specs.Parts.{all_parts, tells_of, thread_of_part}
use Rattle.pc_delta.specs.Exchange.{KeepsOthers}
use Rattle.pc_delta.proofs.Lists.{left_item}

neither : (a b : Bool) → (a || b) ≡ false → (a ≡ false) × (b ≡ false)
neither true b e = absurd (false≢true (sym e))
neither false b e = (refl, e)

differs : (a b : ℕ) → (a == b) ≡ false → b ≢ a
differs a b e same = elim (eqb_tells a b) [
  | inl h ↦ false≢true (sym e ∙ h.0)
  | inr h ↦ h.1 (sym same)
]

-- of a thread that no part tells of, those that are left tell nothing either, and the same is known
abbrev pub IsKeeping : List Part → List Part → View → View → Type 0
IsKeeping parts left old now = (t : ℕ) → tells_of parts t ≡ false → (tells_of left t ≡ false) × (thread_of now t ≡ thread_of old t)

pub keeping_start : (parts : List Part) (view : View) → IsKeeping parts parts view view
keeping_start parts view t none = (none, refl)

pub keeping_on : (parts some left : List Part) (old now new : View) → IsKeeping parts (some ++ left) old now → KeepsOthers some now new → IsKeeping parts left old new
keeping_on parts some left old now new keeping keeps t none =
    let so_far = keeping t none in
    let both = neither (tells_of some t) (tells_of left t) (sym (list_any-append (λ part. thread_of_part part == t) some left) ∙ so_far.0) in
    (both.1, keeps t both.0 ∙ so_far.1)

pub keeping_stops : (parts some left : List Part) (old now new : View) → IsKeeping parts (some ++ left) old now → KeepsOthers some now new → KeepsOthers parts old new
keeping_stops parts some left old now new keeping keeps t none = (keeping_on parts some left old now new keeping keeps t none).1

pub one_keeps : (part : Part) (old new : View) → ((other : ℕ) → ¬ (other ≡ thread_of_part part) → thread_of new other ≡ thread_of old other) → KeepsOthers (part ∷ []) old new
one_keeps part old new keeps t none = keeps t (differs (thread_of_part part) t (sym (or_none (thread_of_part part == t)) ∙ none))

-- a loop over parts
abbrev pub IsKeepingFrom : List Part → ℕ → View → View → Type 0
IsKeepingFrom parts i old now = IsKeeping parts (drop i parts) old now

pub next_kept : (parts : List Part) (i : ℕ) (part : Part) (old now : View) → part ≡ get_or parts i part → i < length parts → IsKeepingFrom parts i old now → IsKeeping parts (part ∷ drop (i + 1) parts) old now
next_kept parts i part old now e lt keeping = subst (λ left. IsKeeping parts left old now) (left_item parts i part e lt) keeping

pub all_kept : (parts left : List Part) (old now : View) → IsKeeping parts left old now → KeepsOthers parts old now
all_kept parts left old now keeping t none = (keeping t none).1

-- a loop over deltas
abbrev pub IsKeepingAllFrom : List (List Part) → ℕ → View → View → Type 0
IsKeepingAllFrom deltas i old now = IsKeeping (all_parts deltas) (all_parts (drop i deltas)) old now

pub next_delta_kept : (deltas : List (List Part)) (i : ℕ) (delta : List Part) (old now : View) → delta ≡ get_or deltas i delta → i < length deltas → IsKeepingAllFrom deltas i old now → IsKeeping (all_parts deltas) (delta ++ all_parts (drop (i + 1) deltas)) old now
next_delta_kept deltas i delta old now e lt keeping = subst (λ left. IsKeeping (all_parts deltas) (all_parts left) old now) (left_item deltas i delta e lt) keeping
