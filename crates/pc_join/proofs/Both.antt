-- Values of near names, and behind them those of others.
use Rattle.std.proofs.Common.{ℕ, ◌+◌, ◌<◌, ◌≤◌, ◌≡◌, List, [], ◌∷◌, ◌++◌, Option, Some, None, IsSome, true, false, cond, refl, sym, ap, subst, ◌∙◌, arith, inl, inr}
use Rattle.std.specs.Option.{MatchOption}
use Rattle.std.specs.Ordering.{nat_cmp, is_eq}
use Rattle.std.proofs.lemmas.Bool.{cases_lt, false≢true}
use Rattle.std.proofs.lemmas.Bool.Decides.{nat_tests}
use Rattle.pc_join.specs.Sets.{Members, Source}
use Rattle.pc_join.specs.ByName.{AscendFrom, IsLeastFrom, value_at}
use Rattle.pc_join.specs.declared.near.TheConstants.{NEAR}
use Rattle.pc_join.specs.Inner.Leaves.{AreBefore, IsSetAt}
use Rattle.pc_join.specs.Inner.Near.{AreNear}
use Rattle.pc_join.specs.Inner.Puts.{IsPut, IsWholeAt, IsJoinedAt}
use Rattle.pc_join.proofs.Entries.{at_first, at_later, none_before}
use Rattle.pc_join.proofs.Standing.{left_none, right_none, set_of}

tied : (a : ℕ) → is_eq (nat_cmp a a) ≡ true
tied a = grind (arith, nat_tests)

apart : (a b : ℕ) → ¬ (b ≡ a) → is_eq (nat_cmp a b) ≡ false
apart a b ne = grind (arith, nat_tests)

module _ {V : Type 0} where
  set_here : (old new : ℕ → Option V) (name : ℕ) (value : V) → IsSetAt old name value new → new name ≡ Some value
  set_here old new name value h = h name ∙ ap (λ b. cond b (Some value) (old name)) (tied name)

  set_others : (old new : ℕ → Option V) (name : ℕ) (value : V) → IsSetAt old name value new → (q : ℕ) → ¬ (q ≡ name) → new q ≡ old q
  set_others old new name value h q ne = h q ∙ ap (λ b. cond b (Some value) (old q)) (apart name q ne)

  pub lacks_above : (n : ℕ) (xs : List (ℕ × V)) (q : ℕ) → AreBefore n xs → n ≤ q → value_at xs q ≡ None
  lacks_above n [] q h le = refl
  lacks_above n (x ∷ xs) q h le = at_later x xs q (λ same. let lt = h.0 in absurd (omega arith)) ∙ lacks_above n xs q h.1 le

  -- entries of which none is below a bound ascend from it on
  some_none : {Q : Type 0} {v : V} → ◌≡◌ {A = Option V} (Some v) None → Q
  some_none e = cc

  pub from_bound : (n : ℕ) (es : List (ℕ × V)) → AscendFrom 0 es → ((q : ℕ) → q < n → value_at es q ≡ None) → AscendFrom n es
  from_bound n [] h none = tt
  from_bound n (e ∷ es) h none = elim (cases_lt e.0 n) [
    | inl lt ↦ some_none (sym (at_first e es) ∙ none e.0 lt)
    | inr le ↦ (le, h.1)
  ]

  ascend_both : (a : ℕ) (near far : List (ℕ × V)) → AscendFrom a near → AreBefore NEAR near → a ≤ NEAR → AscendFrom NEAR far → AscendFrom a (near ++ far)
  ascend_both a [] far h low le high = less a far le high
    where
      less : (n : ℕ) (es : List (ℕ × V)) → n ≤ NEAR → AscendFrom NEAR es → AscendFrom n es
      less n [] le h = tt
      less n (e ∷ es) le h = (let up = h.0 in omega arith, h.1)
  ascend_both a (x ∷ near) far h low le high = (h.0, ascend_both (x.0 + 1) near far h.1 low.1 (let lt = low.0 in omega arith) high)

  module _ (near far now : List (ℕ × V)) (is : (near ++ far) ≡ now) (fits : AreNear near × AscendFrom NEAR far) where
    in_near : (q : ℕ) → q < NEAR → value_at (near ++ far) q ≡ value_at near q
    in_near q lt = right_none near far q (none_before NEAR far q fits.1 lt)

    in_far : (q : ℕ) → NEAR ≤ q → value_at (near ++ far) q ≡ value_at far q
    in_far q le = left_none near far q (lacks_above NEAR near q fits.0.near le)

    shown : (q : ℕ) → value_at now q ≡ value_at (near ++ far) q
    shown q = ap (λ l. value_at l q) (sym is)

    pub now_near : (q : ℕ) → q < NEAR → value_at now q ≡ value_at near q
    now_near q lt = shown q ∙ in_near q lt

    pub now_far : (q : ℕ) → NEAR ≤ q → value_at now q ≡ value_at far q
    now_far q le = shown q ∙ in_far q le

    pub now_ascend : AscendFrom 0 now
    now_ascend = subst (AscendFrom 0) is (ascend_both 0 near far fits.0.ascend fits.0.near (omega arith) fits.1)

    -- a value is put under a near name
    module _ (new : List (ℕ × V)) (low : AreNear new) (name : ℕ) (lt : name < NEAR) (value : V) where
      pub new_near : (q : ℕ) → q < NEAR → value_at (new ++ far) q ≡ value_at new q
      new_near q l = right_none new far q (none_before NEAR far q fits.1 l)

      same_far : (q : ℕ) → NEAR ≤ q → value_at (new ++ far) q ≡ value_at now q
      same_far q le = left_none new far q (lacks_above NEAR new q low.near le) ∙ sym (now_far q le)

      pub fresh_near : IsSetAt (value_at near) name value (value_at new) → IsSetAt (value_at now) name value (value_at (new ++ far))
      fresh_near h = set_of (value_at now) (value_at (new ++ far)) name value (new_near name lt ∙ set_here (value_at near) (value_at new) name value h)
          (λ q ne. elim (cases_lt q NEAR) [
            | inl l ↦ new_near q l ∙ set_others (value_at near) (value_at new) name value h q ne ∙ sym (now_near q l)
            | inr le ↦ same_far q le
          ])

      module _ (known : V → Members) (is_of : V → Source → Type 0) where
        pub put_near : IsPut known is_of (value_at near) name value (value_at new) → IsPut known is_of (value_at now) name value (value_at (new ++ far))
        put_near h = record {
          others = λ q ne. elim (cases_lt q NEAR) [
            | inl l ↦ new_near q l ∙ h.others q ne ∙ sym (now_near q l)
            | inr le ↦ same_far q le
          ];
          here = subst (λ o. IsJoinedAt known is_of o (Some value) (value_at (new ++ far) name)) (sym (now_near name lt))
              (subst (λ o. IsJoinedAt known is_of (value_at near name) (Some value) o) (sym (new_near name lt)) h.here);
        }

        pub whole_near : IsWholeAt known (value_at near name) (Some value) (value_at new name) → IsWholeAt known (value_at now name) (Some value) (value_at (new ++ far) name)
        whole_near h = subst (λ o. IsWholeAt known o (Some value) (value_at (new ++ far) name)) (sym (now_near name lt))
            (subst (λ o. IsWholeAt known (value_at near name) (Some value) o) (sym (new_near name lt)) h)

    -- a value is put under another name
    module _ (new : List (ℕ × V)) (up : AscendFrom 0 new) (name : ℕ) (le : NEAR ≤ name) (value : V) (known : V → Members) (is_of : V → Source → Type 0)
        (put : IsPut known is_of (value_at far) name value (value_at new)) where
      pub high : AscendFrom NEAR new
      high = from_bound NEAR new up (λ q lt. put.others q (λ same. absurd (omega (arith, same))) ∙ none_before NEAR far q fits.1 lt)

      pub new_far : (q : ℕ) → NEAR ≤ q → value_at (near ++ new) q ≡ value_at new q
      new_far q l = left_none near new q (lacks_above NEAR near q fits.0.near l)

      same_near : (q : ℕ) → q < NEAR → value_at (near ++ new) q ≡ value_at now q
      same_near q lt = right_none near new q (none_before NEAR new q high lt) ∙ sym (now_near q lt)

      pub fresh_far : IsSetAt (value_at far) name value (value_at new) → IsSetAt (value_at now) name value (value_at (near ++ new))
      fresh_far h = set_of (value_at now) (value_at (near ++ new)) name value (new_far name le ∙ set_here (value_at far) (value_at new) name value h)
          (λ q ne. elim (cases_lt q NEAR) [
            | inl l ↦ same_near q l
            | inr up ↦ new_far q up ∙ set_others (value_at far) (value_at new) name value h q ne ∙ sym (now_far q up)
          ])

      pub put_far : IsPut known is_of (value_at now) name value (value_at (near ++ new))
      put_far = record {
        others = λ q ne. elim (cases_lt q NEAR) [
          | inl l ↦ same_near q l
          | inr up ↦ new_far q up ∙ put.others q ne ∙ sym (now_far q up)
        ];
        here = subst (λ o. IsJoinedAt known is_of o (Some value) (value_at (near ++ new) name)) (sym (now_far name le))
            (subst (λ o. IsJoinedAt known is_of (value_at far name) (Some value) o) (sym (new_far name le)) put.here);
      }

      pub whole_far : IsWholeAt known (value_at far name) (Some value) (value_at new name) → IsWholeAt known (value_at now name) (Some value) (value_at (near ++ new) name)
      whole_far h = subst (λ o. IsWholeAt known o (Some value) (value_at (near ++ new) name)) (sym (now_far name le))
          (subst (λ o. IsWholeAt known (value_at far name) (Some value) o) (sym (new_far name le)) h)

    -- the least name from one on
    some_in : (q : ℕ) → IsSome (value_at near q) → q < NEAR
    some_in q some = elim (cases_lt q NEAR) [
      | inl lt ↦ lt
      | inr le ↦ absurd (false≢true (subst (λ o. IsSome o) (lacks_above NEAR near q fits.0.near le) some))
    ]

    some_out : (q : ℕ) → IsSome (value_at far q) → NEAR ≤ q
    some_out q some = elim (cases_lt q NEAR) [
      | inl lt ↦ absurd (false≢true (subst (λ o. IsSome o) (none_before NEAR far q fits.1 lt) some))
      | inr le ↦ le
    ]

    pub next_near : (from name : ℕ) → IsLeastFrom (value_at near) from name → IsLeastFrom (value_at now) from name
    next_near from name h = let lt : name < NEAR = some_in name h.held in record {
      held = subst (λ o. IsSome o) (sym (now_near name lt)) h.held;
      reached = h.reached;
      least = λ q some le. elim (cases_lt q NEAR) [
        | inl l ↦ h.least q (subst (λ o. IsSome o) (now_near q l) some) le
        | inr up ↦ omega arith
      ];
    }

    pub next_far : (from : ℕ) (r : Option ℕ) → ((q : ℕ) → IsSome (value_at near q) → q < from) → MatchOption r ((q : ℕ) → IsSome (value_at far q) → q < from) (IsLeastFrom (value_at far) from)
        → MatchOption r ((q : ℕ) → IsSome (value_at now q) → q < from) (IsLeastFrom (value_at now) from)
    next_far from None none h = λ q some. elim (cases_lt q NEAR) [
      | inl l ↦ none q (subst (λ o. IsSome o) (now_near q l) some)
      | inr up ↦ h q (subst (λ o. IsSome o) (now_far q up) some)
    ]
    next_far from (Some name) none h = let up : NEAR ≤ name = some_out name h.held in record {
      held = subst (λ o. IsSome o) (sym (now_far name up)) h.held;
      reached = h.reached;
      least = λ q some le. elim (cases_lt q NEAR) [
        | inl l ↦ (let lt = none q (subst (λ o. IsSome o) (now_near q l) some) in absurd (omega (arith, lt, le)))
        | inr above ↦ h.least q (subst (λ o. IsSome o) (now_far q above) some) le
      ];
    }
