-- Values by name: the laws of a join, from those of the values.
use Rattle.std.specs.Prelude.{ℕ, ◌≡◌, ◌∷◌, Option, Some, None, refl}
use Rattle.std.proofs.Common.{sym, ap, ◌∙◌}
use Rattle.std.specs.Ordering.{nat_cmp}
use Rattle.std.specs.Cmp.{nat_cmp_total}
use Rattle.std.specs.FinMap as map
use Rattle.pc_join.specs.Sets.{Members, Source, IsSameSet, IsVoid, AgreesOn, source_at}
use Rattle.pc_join.specs.ByName.{known_in, members_by_name, IsOfByName}

module _ {V : Type 0} (known : V → Members) (is_of : V → Source → Type 0) where
  no_other : (v : V) → ¬ IsVoid (known v) → ¬ IsSameSet (known_in known (Some v)) (known_in known None)
  no_other v nonvoid same = nonvoid same

  pub unique_by_name : ((s : Source) (a b : V) → is_of a s → is_of b s → IsSameSet (known a) (known b) → a ≡ b)
      → (s : Source) (a b : map.FinMap nat_cmp V) → IsOfByName known is_of a s → IsOfByName known is_of b s
      → IsSameSet (members_by_name known a) (members_by_name known b) → a ≡ b
  unique_by_name unique s a b of_a of_b same =
      map.same_map nat_cmp_total map.nat_cmp-IsAntisymmetric a b (λ t. at t (map.get a t) (map.get b t) refl refl)
    where
      at : (t : ℕ) (x y : Option V) → map.get a t ≡ x → map.get b t ≡ y → map.get a t ≡ map.get b t
      at t None None e f = e ∙ sym f
      at t None (Some w) e f =
          absurd (of_b.kept t w f
          (λ m. sym (ap (λ o. known_in known o m) f) ∙ sym (same (t ∷ m)) ∙ ap (λ o. known_in known o m) e))
      at t (Some v) None e f =
          absurd (of_a.kept t v e
          (λ m. sym (ap (λ o. known_in known o m) e) ∙ same (t ∷ m) ∙ ap (λ o. known_in known o m) f))
      at t (Some v) (Some w) e f =
          let one : v ≡ w = unique (source_at s t) v w (of_a.each t v e) (of_b.each t w f)
          (λ m. sym (ap (λ o. known_in known o m) e) ∙ same (t ∷ m) ∙ ap (λ o. known_in known o m) f) in
          e ∙ ap (λ v. Some v) one ∙ sym f

  pub stays_by_name : ((s t : Source) (a : V) → AgreesOn (known a) s t → is_of a s → is_of a t)
      → (s t : Source) (a : map.FinMap nat_cmp V) → AgreesOn (members_by_name known a) s t
      → IsOfByName known is_of a s → IsOfByName known is_of a t
  stays_by_name stays s t a agrees of_s = record {
    kept = of_s.kept;
    each = λ name v e. stays (source_at s name) (source_at t name) v
        (λ m k n. agrees (name ∷ m) (ap (λ o. known_in known o m) e ∙ k) n) (of_s.each name v e);
  }
