-- Values by name, of which one is joined.
use Rattle.std.proofs.Common.{ℕ, ◌<◌, ◌≡◌, ◌==◌, ◌⊎◌, ◌||◌, ◌&&◌, ◌^◌, Bool, true, false, cond, List, [], ◌∷◌, Option, Some, None, IsSome, IfSome, refl, sym, ap, ◌∙◌, subst, arith, inl, inr, option_copied, OnOk, Result, Ok, Err, Bor}
use Rattle.std.specs.Ordering.{nat_cmp, is_eq}
use Rattle.std.specs.FinMap as map
use Rattle.std.specs.Cmp.{nat_cmp_total}
use Rattle.std.proofs.lemmas.Bool.{false≢true}
use Rattle.std.proofs.lemmas.Bool.Decides.{nat_tests}
use Rattle.pc_join.specs.Sets.{Members, Source, IsWithin, IsVoid, IsUnion, IsBetween, members_at, source_at}
use Rattle.pc_join.specs.ByName.{known_in, members_by_name, HoldsNoEmpty, HasShortNames, IsOfByName, IsLeastFrom, IsNextName, value_at}
use Rattle.pc_join.specs.Inner.Puts.{IsJoinedAt, IsPut, IsWholeAt}
use Rattle.pc_messages.proofs.Bools.{or_none}

-- the map that is shown has what the entries have
pub shown : {V : Type 0} (m : List (ℕ × V)) (q : ℕ) → map.get (map.from_entries {R = nat_cmp} m) q ≡ value_at m q
shown m q = map.get-from_entries nat_cmp_total m q

tied : (a b : ℕ) → is_eq (nat_cmp a b) ≡ (b == a)
tied a b = grind (arith, nat_tests)

not_tied : (a b : ℕ) → ¬ (b ≡ a) → is_eq (nat_cmp a b) ≡ false
not_tied a b h = grind (arith, nat_tests)

itself : (a : ℕ) → is_eq (nat_cmp a a) ≡ true
itself a = grind (arith, nat_tests)

module _ {V : Type 0} (known : V → Members) (is_of : V → Source → Type 0) where
  pub set_others : (old new : ℕ → Option V) (name : ℕ) (w : V) → ((q : ℕ) → new q ≡ cond (is_eq (nat_cmp name q)) (Some w) (old q)) → (q : ℕ) → ¬ (q ≡ name) → new q ≡ old q
  set_others old new name w h q ne = h q ∙ ap (λ b. cond b (Some w) (old q)) (not_tied name q ne)

  pub set_here : (old new : ℕ → Option V) (name : ℕ) (w : V) → ((q : ℕ) → new q ≡ cond (is_eq (nat_cmp name q)) (Some w) (old q)) → new name ≡ Some w
  set_here old new name w h = h name ∙ ap (λ b. cond b (Some w) (old name)) (itself name)

  -- nothing changed
  within_or : (s t : Members) → IsWithin s (λ m. s m || t m)
  within_or s t m e = or_true (s m) (t m) e
    where
      or_true : (a b : Bool) → a ≡ true → (a || b) ≡ true
      or_true true b e = refl
      or_true false b e = absurd (false≢true e)

  pub joined_nothing : (old other : Option V) → IsJoinedAt known is_of old other old
  joined_nothing old other = record {
    between = record { at_least = λ m e. e; at_most = within_or (known_in known old) (known_in known other) };
    of_source = λ s f g. f;
    not_void = λ f g. f;
  }

  pub put_nothing : (old new : ℕ → Option V) (name : ℕ) (value : V) → ((q : ℕ) → new q ≡ old q) → IsPut known is_of old name value new
  put_nothing old new name value h = record {
    others = λ q ne. h q;
    here = subst (λ x. IsJoinedAt known is_of (old name) (Some value) x) (sym (h name)) (joined_nothing (old name) (Some value));
  }

  -- the value is held under a new name
  held_new : (value : V) → IsJoinedAt known is_of None (Some value) (Some value)
  held_new value = record {
    between = record { at_least = λ m e. absurd (false≢true e); at_most = λ m e. e };
    of_source = λ s f g. g;
    not_void = λ f g. g;
  }

  pub put_new : (old new : ℕ → Option V) (name : ℕ) (value : V) → old name ≡ None → ((q : ℕ) → new q ≡ cond (is_eq (nat_cmp name q)) (Some value) (old q)) → IsPut known is_of old name value new
  put_new old new name value none h = record {
    others = set_others old new name value h;
    here = subst (λ x. IsJoinedAt known is_of x (Some value) (new name)) (sym none)
        (subst (λ x. IsJoinedAt known is_of None (Some value) x) (sym (set_here old new name value h)) (held_new value));
  }

  pub whole_new : (old new : ℕ → Option V) (name : ℕ) (value : V) → old name ≡ None → ((q : ℕ) → new q ≡ cond (is_eq (nat_cmp name q)) (Some value) (old q)) → IsWholeAt known (old name) (Some value) (new name)
  whole_new old new name value none h = subst (λ x. IsWholeAt known x (Some value) (new name)) (sym none) (subst (λ x. IsWholeAt known None (Some value) x) (sym (set_here old new name value h)) (λ m. refl))

  -- what is held takes the value in
  not_void_above : (v w : V) → IsWithin (known v) (known w) → ¬ IsVoid (known v) → ¬ IsVoid (known w)
  not_void_above v w f n void = n (λ m. both (known v m) (known w m) (f m) (void m))
    where
      both : (a b : Bool) → (a ≡ true → b ≡ true) → b ≡ false → a ≡ false
      both true b f e = absurd (false≢true (sym e ∙ f refl))
      both false b f e = refl

  pub put_held : (old new : ℕ → Option V) (name : ℕ) (value v w : V) → old name ≡ Some v → ((q : ℕ) → new q ≡ cond (is_eq (nat_cmp name q)) (Some w) (old q))
      → IsBetween (known v) (known value) (known w) → ((s : Source) → is_of v s → is_of value s → is_of w s) → IsPut known is_of old name value new
  put_held old new name value v w some h b f =
      let there : IsJoinedAt known is_of (Some v) (Some value) (Some w) = record { between = record { at_least = b.at_least; at_most = b.at_most }; of_source = f; not_void = λ n k. not_void_above v w b.at_least n } in
      record {
        others = set_others old new name w h;
        here = subst (λ x. IsJoinedAt known is_of x (Some value) (new name)) (sym some)
            (subst (λ x. IsJoinedAt known is_of (Some v) (Some value) x) (sym (set_here old new name w h)) there);
      }

  pub whole_held : (old new : ℕ → Option V) (name : ℕ) (value v w : V) → old name ≡ Some v → ((q : ℕ) → new q ≡ cond (is_eq (nat_cmp name q)) (Some w) (old q))
      → IsUnion (known v) (known value) (known w) → IsWholeAt known (old name) (Some value) (new name)
  whole_held old new name value v w some h u = subst (λ x. IsWholeAt known x (Some value) (new name)) (sym some) (subst (λ x. IsWholeAt known (Some v) (Some value) x) (sym (set_here old new name w h)) u)

  -- the same of the maps that are shown
  module _ (old new : map.FinMap nat_cmp V) (name : ℕ) (value : V) (put : IsPut known is_of (map.get old) name value (map.get new)) where
    by_name : (P : ℕ → Type 0) → P name → ((q : ℕ) → ¬ (q ≡ name) → P q) → (q : ℕ) → P q
    by_name P here others q = elim (cases q name) [ inl e ↦ subst P (sym e) here | inr ne ↦ others q ne ]
      where
        cases : (a b : ℕ) → (a ≡ b) ⊎ (¬ (a ≡ b))
        cases a b = grind arith

    at_same : (s : Members) (m : List ℕ) → (name == name) && s m ≡ s m
    at_same s m = ap (λ b. b && s m) (same name)
      where
        same : (n : ℕ) → (n == n) ≡ true
        same n = grind (arith, nat_tests)

    at_other : (s : Members) (m : List ℕ) (q : ℕ) → ¬ (q ≡ name) → (q == name) && s m ≡ false
    at_other s m q ne = ap (λ b. b && s m) (apart q name ne)
      where
        apart : (a b : ℕ) → ¬ (a ≡ b) → (a == b) ≡ false
        apart a b ne = grind (arith, nat_tests)

    pub union_by_name : IsWholeAt known (map.get old name) (Some value) (map.get new name) → IsUnion (members_by_name known old) (members_at name (known value)) (members_by_name known new)
    union_by_name whole [] = refl
    union_by_name whole (t ∷ m) = by_name (λ q. known_in known (map.get new q) m ≡ (known_in known (map.get old q) m || ((q == name) && known value m)))
        (whole m ∙ ap (λ b. known_in known (map.get old name) m || b) (sym (at_same (known value) m)))
        (λ q ne. ap (λ x. known_in known x m) (put.others q ne) ∙ sym (or_none (known_in known (map.get old q) m)) ∙ ap (λ b. known_in known (map.get old q) m || b) (sym (at_other (known value) m q ne))) t

    at_least_by_name : IsWithin (members_by_name known old) (members_by_name known new)
    at_least_by_name [] e = e
    at_least_by_name (t ∷ m) e = by_name (λ q. known_in known (map.get old q) m ≡ true → known_in known (map.get new q) m ≡ true)
        (put.here.between.at_least m)
        (λ q ne f. ap (λ x. known_in known x m) (put.others q ne) ∙ f) t e

    at_most_by_name : IsWithin (members_by_name known new) (λ m. members_by_name known old m || members_at name (known value) m)
    at_most_by_name [] e = e
    at_most_by_name (t ∷ m) e = by_name (λ q. known_in known (map.get new q) m ≡ true → (known_in known (map.get old q) m || ((q == name) && known value m)) ≡ true)
        (λ f. ap (λ b. known_in known (map.get old name) m || b) (at_same (known value) m) ∙ put.here.between.at_most m f)
        (λ q ne f. ap (λ b. known_in known (map.get old q) m || b) (at_other (known value) m q ne) ∙ or_none (known_in known (map.get old q) m) ∙ ap (λ x. known_in known x m) (sym (put.others q ne)) ∙ f) t e

    pub between_by_name : IsBetween (members_by_name known old) (members_at name (known value)) (members_by_name known new)
    between_by_name = record { at_least = at_least_by_name; at_most = at_most_by_name }

    from_some : {A : Type 0} (o : Option A) (P : A → Type 0) → ((a : A) → o ≡ Some a → P a) → IfSome o P
    from_some None P f = tt
    from_some (Some a) P f = f a refl

    at_some : {A : Type 0} (o : Option A) (P : A → Type 0) (a : A) → o ≡ Some a → IfSome o P → P a
    at_some o P a e h = subst (λ x. IfSome x P) e h

    pub of_source_by_name : HoldsNoEmpty known new → (s : Source) → IsOfByName known is_of old s → is_of value (source_at s name) → IsOfByName known is_of new s
    of_source_by_name kept s of_old of_value = record {
      kept = kept;
      each = by_name (λ q. (v : V) → map.get new q ≡ Some v → is_of v (source_at s q))
          (λ v e. at_some (map.get new name) (λ w. is_of w (source_at s name)) v e
          (put.here.of_source (source_at s name) (from_some (map.get old name) (λ w. is_of w (source_at s name)) (of_old.each name)) of_value))
          (λ q ne v e. of_old.each q v (sym (put.others q ne) ∙ e));
    }

    pub kept_by_name : HoldsNoEmpty known old → ¬ IsVoid (known value) → HoldsNoEmpty known new
    kept_by_name kept nonvoid = by_name (λ q. (v : V) → map.get new q ≡ Some v → ¬ IsVoid (known v))
        (λ v e. at_some (map.get new name) (λ w. ¬ IsVoid (known w)) v e
        (put.here.not_void (from_some (map.get old name) (λ w. ¬ IsVoid (known w)) (kept name)) nonvoid))
        (λ q ne v e. kept q v (sym (put.others q ne) ∙ e))

    pub short_by_name : HasShortNames old → name < 2 ^ 32 → HasShortNames new
    short_by_name short fits = by_name (λ q. IsSome (map.get new q) → q < 2 ^ 32) (λ e. fits) (λ q ne e. short q (subst (λ x. IsSome x) (put.others q ne) e))

pub OnOk_then : {A E P Q : Type 0} (r : Result A E) → OnOk r P → (P → Q) → OnOk r Q
OnOk_then (Ok a) h f = f h
OnOk_then (Err e) h f = tt

-- the same of entries and of the map that they show
module _ {V : Type 0} (known : V → Members) (is_of : V → Source → Type 0) (old new : List (ℕ × V)) (a : map.FinMap nat_cmp V) (e : map.from_entries {R = nat_cmp} old ≡ a) where
  at_old : (q : ℕ) → map.get a q ≡ value_at old q
  at_old q = ap (λ m. map.get m q) (sym e) ∙ shown old q

  at_new : (q : ℕ) → map.get (map.from_entries {R = nat_cmp} new) q ≡ value_at new q
  at_new q = shown new q

  pub joined_shown : (q : ℕ) (other : Option V) → IsJoinedAt known is_of (value_at old q) other (value_at new q) → IsJoinedAt known is_of (map.get a q) other (map.get (map.from_entries {R = nat_cmp} new) q)
  joined_shown q other h = subst (λ x. IsJoinedAt known is_of x other (map.get (map.from_entries {R = nat_cmp} new) q)) (sym (at_old q)) (subst (λ x. IsJoinedAt known is_of (value_at old q) other x) (sym (at_new q)) h)

  pub whole_shown : (q : ℕ) (other : Option V) → IsWholeAt known (value_at old q) other (value_at new q) → IsWholeAt known (map.get a q) other (map.get (map.from_entries {R = nat_cmp} new) q)
  whole_shown q other h = subst (λ x. IsWholeAt known x other (map.get (map.from_entries {R = nat_cmp} new) q)) (sym (at_old q)) (subst (λ x. IsWholeAt known (value_at old q) other x) (sym (at_new q)) h)

  module _ (name : ℕ) (value : V) (put : IsPut known is_of (value_at old) name value (value_at new)) where
    pub put_shown : IsPut known is_of (map.get a) name value (map.get (map.from_entries {R = nat_cmp} new))
    put_shown = record {
      others = λ q ne. at_new q ∙ put.others q ne ∙ sym (at_old q);
      here = joined_shown name (Some value) put.here;
    }

    pub put_union : IsWholeAt known (value_at old name) (Some value) (value_at new name) → IsUnion (members_by_name known a) (members_at name (known value)) (members_by_name known (map.from_entries new))
    put_union whole = union_by_name known is_of a (map.from_entries new) name value put_shown (whole_shown name (Some value) whole)

    pub put_between : IsBetween (members_by_name known a) (members_at name (known value)) (members_by_name known (map.from_entries new))
    put_between = between_by_name known is_of a (map.from_entries new) name value put_shown

    pub put_kept : HoldsNoEmpty known (map.from_entries old) → ¬ IsVoid (known value) → HoldsNoEmpty known (map.from_entries new)
    put_kept kept nonvoid = kept_by_name known is_of a (map.from_entries new) name value put_shown (subst (λ x. HoldsNoEmpty known x) e kept) nonvoid

    pub put_short : HasShortNames (map.from_entries {R = nat_cmp} old) → name < 2 ^ 32 → HasShortNames (map.from_entries {R = nat_cmp} new)
    put_short short fits = short_by_name known is_of a (map.from_entries new) name value put_shown (subst (λ x. HasShortNames x) e short) fits

    pub put_of_source : HoldsNoEmpty known (map.from_entries new) → (s : Source) → IsOfByName known is_of a s → is_of value (source_at s name) → IsOfByName known is_of (map.from_entries new) s
    put_of_source kept s of_old of_value = of_source_by_name known is_of a (map.from_entries new) name value put_shown kept s of_old of_value

-- an empty value changes nothing
module _ {V : Type 0} (known : V → Members) (a : map.FinMap nat_cmp V) (name : ℕ) (value : V) (void : IsVoid (known value)) where
  nothing : (t : ℕ) (m : List ℕ) → ((t == name) && known value m) ≡ false
  nothing t m = and_false (t == name) (known value m) (void m)
    where
      and_false : (b c : Bool) → c ≡ false → (b && c) ≡ false
      and_false true c h = h
      and_false false c h = refl

  pub void_union : IsUnion (members_by_name known a) (members_at name (known value)) (members_by_name known a)
  void_union [] = refl
  void_union (t ∷ m) = sym (or_none (known_in known (map.get a t) m)) ∙ ap (λ b. known_in known (map.get a t) m || b) (sym (nothing t m))

  pub void_between : IsBetween (members_by_name known a) (members_at name (known value)) (members_by_name known a)
  void_between = record { at_least = λ m e. e; at_most = λ m e. sym (void_union m) ∙ e }

-- the next name of entries, and of the map that they show
pub next_shown : {V : Type 0} (values : List (ℕ × V)) (a : map.FinMap nat_cmp V) (from name : ℕ) → map.from_entries {R = nat_cmp} values ≡ a → HasShortNames (map.from_entries {R = nat_cmp} values) → IsLeastFrom (value_at values) from name → IsNextName a from name
next_shown values a from name e short h = record {
  least = record {
    held = subst (λ x. IsSome x) (sym (there name)) h.held;
    reached = h.reached;
    least = λ other some. h.least other (subst (λ x. IsSome x) (there other) some);
  };
  short = short name (subst (λ x. IsSome x) (sym (shown values name)) h.held);
}
  where
    there : (q : ℕ) → map.get a q ≡ value_at values q
    there q = ap (λ m. map.get m q) (sym e) ∙ shown values q

pub none_shown : {V : Type 0} (values : List (ℕ × V)) (a : map.FinMap nat_cmp V) (from : ℕ) → map.from_entries {R = nat_cmp} values ≡ a → ((name : ℕ) → IsSome (value_at values name) → name < from) → (name : ℕ) → IsSome (map.get a name) → name < from
none_shown values a from e h name some = h name (subst (λ x. IsSome x) (ap (λ m. map.get m name) (sym e) ∙ shown values name) some)

-- what is got is not empty
pub got_kept : {V : Type 0} (known : V → Members) (a : map.FinMap nat_cmp V) (name : ℕ) → HoldsNoEmpty known a → IfSome (map.get a name) (λ v. ¬ IsVoid (known v))
got_kept known a name kept = cases (map.get a name) (kept name)
  where
    cases : {V : Type 0} {P : V → Type 0} (o : Option V) → ((v : V) → o ≡ Some v → P v) → IfSome o P
    cases None f = tt
    cases (Some v) f = f v refl

pub copied_some : {V : Type 0} (o : Option (Bor V)) (p : Option V) (P : V → Type 0) → option_copied o ≡ p → IfSome p P → IfSome o (λ v. P v.now)
copied_some None p P e h = tt
copied_some (Some v) p P e h = subst (λ x. IfSome x P) (sym e) h

-- the map of no entries
pub new_kept : {V : Type 0} (known : V → Members) (m : List (ℕ × V)) → m ≡ [] → HoldsNoEmpty known (map.from_entries {R = nat_cmp} m) × HasShortNames (map.from_entries {R = nat_cmp} m)
new_kept known m e =
    let none : (q : ℕ) → map.get (map.from_entries {R = nat_cmp} m) q ≡ None = λ q. shown m q ∙ ap (λ es. map.find nat_cmp q es) e in
    (λ q v some. no_some (map.get (map.from_entries {R = nat_cmp} m) q) v (none q) some, λ q some. absurd (not_some (map.get (map.from_entries {R = nat_cmp} m) q) (none q) some))
  where
    no_some : {V : Type 0} {P : Type 0} (o : Option V) (v : V) → o ≡ None → o ≡ Some v → P
    no_some o v e f = cc

    not_some : {V : Type 0} (o : Option V) → o ≡ None → IsSome o → ⊥
    not_some o e h = false≢true (subst (λ x. IsSome x) e h)
