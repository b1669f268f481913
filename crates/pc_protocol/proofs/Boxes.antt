-- Boxes of notes: what is in one, and that a note more leaves the others there.
use Rattle.std.proofs.Common.{◌≡◌, ◌⊎◌, ◌==◌, ℕ, Bool, true, false, List, [], ◌∷◌, ◌++◌, Option, Some, None, if◌then◌else◌, sym, ap, subst, inl, inr}
use Rattle.std.proofs.lemmas.Bool.Decides.{eqb_tells}
use Rattle.pc_protocol.specs.Protocol.{Note, telling, telling_others, rousing, wake}
use Rattle.pc_world.proofs.Places.{at_same}
use Rattle.pc_protocol.proofs.Among.{IsAmong, among_left, among_last, was_last, empty_at}

-- what was in boxes still is
abbrev pub Grows : (ℕ → List Note) → (ℕ → List Note) → Type 0
Grows boxes more = (d : ℕ) (note : Note) → IsAmong note (boxes d) → IsAmong note (more d)

pub empty_before : (boxes more : ℕ → List Note) → Grows boxes more → (d : ℕ) → more d ≡ [] → boxes d ≡ []
empty_before boxes more grows d e = empty_at (boxes d) (more d) (grows d) e

pub grows_same : (boxes more : ℕ → List Note) → more ≡ boxes → Grows boxes more
grows_same boxes more e = subst (Grows boxes) (sym e) (λ d note h. h)

pub telling_grows : (c : ℕ) (one : Note) (boxes : ℕ → List Note) → Grows boxes (telling c one boxes)
telling_grows c one boxes d note h = elim (eqb_tells d c) [
  | inl e ↦ rw e.0 (among_left note (boxes c) (one ∷ []) (subst (λ n. IsAmong note (boxes n)) e.1 h))
  | inr e ↦ rw e.0 h
]

pub telling_has : (c : ℕ) (one : Note) (boxes : ℕ → List Note) → IsAmong one (telling c one boxes c)
telling_has c one boxes = subst (IsAmong one) (sym (at_same boxes c (boxes c ++ one ∷ []))) (among_last one (boxes c))

pub others_grow : (sender : ℕ) (one : Note) (boxes : ℕ → List Note) → Grows boxes (telling_others sender one boxes)
others_grow sender one boxes d note h = elim (d == sender) as (λ b. IsAmong note (if b then boxes d else boxes d ++ one ∷ [])) [
  | true ↦ h
  | false ↦ among_left note (boxes d) (one ∷ []) h
]

pub others_have : (sender : ℕ) (one : Note) (boxes : ℕ → List Note) (d : ℕ) → (d ≡ sender → ⊥) → IsAmong one (telling_others sender one boxes d)
others_have sender one boxes d o = elim (eqb_tells d sender) [
  | inl e ↦ absurd (o e.1)
  | inr e ↦ rw e.0 (among_last one (boxes d))
]

pub rousing_grows : (o : Option ℕ) (boxes : ℕ → List Note) → Grows boxes (rousing o boxes)
rousing_grows None boxes = λ d note h. h
rousing_grows (Some c) boxes = telling_grows c wake boxes

-- boxes as they were, or with more notes
pub if_grows : (b : Bool) (boxes one other : ℕ → List Note) → Grows boxes one → Grows boxes other → Grows boxes (if b then one else other)
if_grows true boxes one other h g = h
if_grows false boxes one other h g = g

pub told_before : (c : ℕ) (one : Note) (boxes : ℕ → List Note) (d : ℕ) (note : Note) → IsAmong note (telling c one boxes d) → (one ≡ note) ⊎ IsAmong note (boxes d)
told_before c one boxes d note h = elim (eqb_tells d c) [
  | inl e ↦ elim (was_last note one (boxes c) (subst (IsAmong note) (ap (λ b. if b then boxes c ++ one ∷ [] else boxes d) e.0) h)) [
    | inl is ↦ inl is
    | inr was ↦ inr (subst (λ n. IsAmong note (boxes n)) (sym e.1) was)
  ]
  | inr e ↦ inr (subst (IsAmong note) (ap (λ b. if b then boxes c ++ one ∷ [] else boxes d) e.0) h)
]

pub others_before : (sender : ℕ) (one : Note) (boxes : ℕ → List Note) (d : ℕ) (note : Note) → IsAmong note (telling_others sender one boxes d) → (one ≡ note) ⊎ IsAmong note (boxes d)
others_before sender one boxes d note = elim (d == sender) as (λ b. IsAmong note (if b then boxes d else boxes d ++ one ∷ []) → (one ≡ note) ⊎ IsAmong note (boxes d)) [
  | true ↦ λ h. inr h
  | false ↦ λ h. was_last note one (boxes d) h
]

pub roused_before : (o : Option ℕ) (boxes : ℕ → List Note) (d : ℕ) (note : Note) → IsAmong note (rousing o boxes d) → (wake ≡ note) ⊎ IsAmong note (boxes d)
roused_before None boxes d note h = inr h
roused_before (Some c) boxes d note h = told_before c wake boxes d note h
