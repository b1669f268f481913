-- A piece joined to what is held under one name.
use Rattle.std.proofs.Common.{ℕ, ◌≡◌, Bool, true, false, List, Option, Some, None, Result, OnOk, IsOk, refl, sym, ap, subst, ◌∙◌, inl, inr}
use Rattle.std.specs.Ordering.{nat_cmp}
use Rattle.std.specs.FinMap as map
use Rattle.std.specs.Cmp.{nat_cmp_total}
use Rattle.std.proofs.lemmas.Bool.{false≢true}
use Rattle.pc_join.specs.Sets.{Members, Source, IsWithin, IsVoid, IsUnion, IsBetween}
use Rattle.pc_join.specs.ByName.{known_in, value_at}
use Rattle.pc_join.specs.Inner.Leaves.{IsSetAt}
use Rattle.pc_join.specs.Inner.Puts.{IsPieceJoined, IsPut, IsWholeAt}
use Rattle.pc_join.proofs.Entries.{same_or_other}
use Rattle.pc_join.proofs.Puts.{OnOk_then, put_held, whole_held, set_here, shown}

lacks : (b : Bool) → (b ≡ true → ⊥) → b ≡ false
lacks true h = absurd (h refl)
lacks false h = refl

-- where nothing is held, nothing is known
none_known : {V Q : Type 0} (known : V → Members) (held : Option V) (value : V) → ¬ IsVoid (known value) → held ≡ None → IsWithin (known value) (known_in known held) → Q
none_known known held value nonvoid none within = absurd (nonvoid (λ m. lacks (known value m) (λ yes. false≢true (sym (ap (λ o. known_in known o m) none) ∙ within m yes))))

module _ {V A E : Type 0} (known : V → Members) (is_of : V → Source → Type 0) (old new : ℕ → Option V) (name : ℕ) where
  -- the value was made, and put under a new name
  pub piece_new : (made value : V) (result : Result A E) → made ≡ value → ¬ IsVoid (known value) → old name ≡ None
      → IsPut known is_of old name made new → OnOk result (IsWholeAt known (old name) (Some made) (new name)) → IsPieceJoined known is_of old name value new result
  piece_new made value result is nonvoid none put whole = record {
    put = subst (λ v. IsPut known is_of old name v new) is put;
    whole = subst (λ v. OnOk result (IsWholeAt known (old name) (Some v) (new name))) is whole;
    kept = λ within. none_known known (old name) value nonvoid none within;
    succeeds = λ within. none_known known (old name) value nonvoid none within;
    not_empty = nonvoid;
  }

  -- it was joined to a value that is held
  pub piece_held : (value v w : V) (result : Result A E) → old name ≡ Some v → IsSetAt old name w new
      → IsBetween (known v) (known value) (known w) → ((s : Source) → is_of v s → is_of value s → is_of w s)
      → OnOk result (IsUnion (known v) (known value) (known w)) → (IsWithin (known value) (known v) → w ≡ v)
      → (IsWithin (known value) (known v) → IsOk result) → ¬ IsVoid (known value) → IsPieceJoined known is_of old name value new result
  piece_held value v w result some is between of_source union same succeeds nonvoid =
      let there : IsWithin (known value) (known_in known (old name)) → IsWithin (known value) (known v) =
      λ within. subst (λ o. IsWithin (known value) (known_in known o)) some within in
      record {
        put = put_held known is_of old new name value v w some is between of_source;
        whole = OnOk_then result union (λ u. whole_held known is_of old new name value v w some is u);
        kept = λ within. set_here known is_of old new name w is ∙ ap (λ x. Some x) (same (there within)) ∙ sym some;
        succeeds = λ within. succeeds (there within);
        not_empty = nonvoid;
      }

  -- the same, shown in another way
  pub piece_as : (now after : ℕ → Option V) (value : V) (result : Result A E) → now name ≡ old name → after name ≡ new name
      → (IsPut known is_of old name value new → IsPut known is_of now name value after)
      → IsPieceJoined known is_of old name value new result → IsPieceJoined known is_of now name value after result
  piece_as now after value result f g put h = record {
    put = put h.put;
    whole = OnOk_then result h.whole (λ w. subst (λ o. IsWholeAt known o (Some value) (after name)) (sym f) (subst (λ o. IsWholeAt known (old name) (Some value) o) (sym g) w));
    kept = λ within. g ∙ h.kept (subst (λ o. IsWithin (known value) (known_in known o)) f within) ∙ sym f;
    succeeds = λ within. h.succeeds (subst (λ o. IsWithin (known value) (known_in known o)) f within);
    not_empty = h.not_empty;
  }

-- the same of entries and of the map that they show: where all is known, the map is the same
pub kept_shown : {V A E : Type 0} (known : V → Members) (is_of : V → Source → Type 0) (old new : List (ℕ × V)) (a : map.FinMap nat_cmp V) (name : ℕ) (value : V) (result : Result A E)
    → map.from_entries {R = nat_cmp} old ≡ a → IsPieceJoined known is_of (value_at old) name value (value_at new) result
    → IsWithin (known value) (known_in known (map.get a name)) → map.from_entries {R = nat_cmp} new ≡ a
kept_shown known is_of old new a name value result e joined within =
    let at : (q : ℕ) → map.get a q ≡ value_at old q = λ q. ap (λ m. map.get m q) (sym e) ∙ shown old q in
    map.same_map nat_cmp_total map.nat_cmp-IsAntisymmetric (map.from_entries new) a (λ q. shown new q
    ∙ elim (same_or_other q name) [
      | inl same ↦ ap (value_at new) same ∙ joined.kept (subst (λ o. IsWithin (known value) (known_in known o)) (at name) within) ∙ ap (value_at old) (sym same)
      | inr other ↦ joined.put.others q other
    ]
    ∙ sym (at q))

pub succeeds_shown : {V A E : Type 0} (known : V → Members) (is_of : V → Source → Type 0) (old new : List (ℕ × V)) (a : map.FinMap nat_cmp V) (name : ℕ) (value : V) (result : Result A E)
    → map.from_entries {R = nat_cmp} old ≡ a → IsPieceJoined known is_of (value_at old) name value (value_at new) result
    → IsWithin (known value) (known_in known (map.get a name)) → IsOk result
succeeds_shown known is_of old new a name value result e joined within =
    joined.succeeds (subst (λ o. IsWithin (known value) (known_in known o)) (ap (λ m. map.get m name) (sym e) ∙ shown old name) within)
