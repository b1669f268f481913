-- What a note that is forgotten leaves: no box is empty that was not, and who asked still asks.
use Rattle.std.proofs.Common.{◌≡◌, ℕ, List, [], ◌++◌, sym, ◌∙◌, ap, subst, inl, inr}
use Rattle.std.proofs.lemmas.Bool.{cases_eq}
use Rattle.pc_kernel.specs.Steps.{at}
use Rattle.pc_agent.specs.PlainAgent.{Set}
use Rattle.pc_world.proofs.Places.{at_other, at_same}
use Rattle.pc_protocol.specs.Protocol.{DoesInstead, IsForgotten, Note, Protocol, asks}
use Rattle.pc_protocol.proofs.Among.{IsAmong, among_taken, among_rest, contains_among, not_empty}

-- a question is left, of the same asker
same_asker : (other note : Note) (asker : ℕ) (digest : Set) → note ≡ asks asker digest → DoesInstead other note → (later : Set) × (other ≡ asks asker later)
same_asker other note asker digest e h = subst (DoesInstead other) e h

module _ (p new : Protocol) (f : IsForgotten p new) where
  abbrev rest : List Note
  rest = f.before ++ f.behind

  one_left : IsAmong f.other rest
  one_left = contains_among f.other rest f.is_left

  own_box : (d : ℕ) → d ≡ f.owner → new.boxes d ≡ rest
  own_box d own = ap (λ (b : ℕ → List Note). b d) f.boxes ∙ ap (at p.boxes f.owner rest) own ∙ at_same p.boxes f.owner rest

  other_box : (d : ℕ) → (d ≡ f.owner → ⊥) → new.boxes d ≡ p.boxes d
  other_box d o = ap (λ (b : ℕ → List Note). b d) f.boxes ∙ at_other p.boxes f.owner d rest o

  -- no box is empty that was not
  pub forgets_back : (d : ℕ) → new.boxes d ≡ [] → p.boxes d ≡ []
  forgets_back d empty = elim (cases_eq d f.owner) [
    | inl own ↦ absurd (not_empty f.other rest one_left (sym (own_box d own) ∙ empty))
    | inr o ↦ sym (other_box d o) ∙ empty
  ]

  -- what is in a box was there
  pub forgets_before : (d : ℕ) (note : Note) → IsAmong note (new.boxes d) → IsAmong note (p.boxes d)
  forgets_before d note isin = elim (cases_eq d f.owner) [
    | inl own ↦ subst (IsAmong note) (sym (ap p.boxes own ∙ f.in_box)) (among_rest note f.note f.before f.behind (subst (IsAmong note) (own_box d own) isin))
    | inr o ↦ subst (IsAmong note) (other_box d o) isin
  ]

  -- who asked still asks
  pub forgets_asked : (d asker : ℕ) (digest : Set) → IsAmong (asks asker digest) (p.boxes d) → (later : Set) × IsAmong (asks asker later) (new.boxes d)
  forgets_asked d asker digest isin = elim (cases_eq d f.owner) [
    | inr o ↦ (digest, subst (IsAmong (asks asker digest)) (sym (other_box d o)) isin)
    | inl own ↦ elim (among_taken (asks asker digest) f.note f.before f.behind (subst (IsAmong (asks asker digest)) (ap p.boxes own ∙ f.in_box) isin)) [
      | inl this ↦
          let s = same_asker f.other f.note asker digest this f.instead in
          (s.0, subst (IsAmong (asks asker s.0)) (sym (own_box d own)) (subst (λ n. IsAmong n rest) s.1 one_left))
      | inr other ↦ (digest, subst (IsAmong (asks asker digest)) (sym (own_box d own)) other)
    ]
  ]
