-- What a view shows that took parts in.
use Rattle.std.proofs.Common.{ℕ, ◌≡◌, ◌==◌, ◌||◌, ◌&&◌, Bool, true, false, List, [], ◌∷◌, ◌++◌, cond, filter, refl, sym, ap, ◌∙◌, inl, inr}
use Rattle.std.specs.List.{list_any}
use Rattle.std.proofs.lemmas.Bool.{false≢true}
use Rattle.std.proofs.lemmas.Bool.Decides.{eqb_tells}
use Rattle.pc_messages.specs.Run.{Run}
use Rattle.pc_join.specs.Sets.{Members, as_members, has, IsBetween, IsSameSet, IsVoid}
use Rattle.pc_view.specs.declared.view.View.{View}
use Rattle.pc_view.specs.Views.{pairs_of, IsOfRun}
use Rattle.pc_delta.specs.declared.part.Part.{Part}
use Rattle.pc_delta.specs.Exchange.{IsTakenIn, IsPartlyTakenIn}
use Rattle.pc_agent.specs.PlainAgent.{Set}
use Rattle.pc_agent.specs.Shows.{ShowsDelta, ShowsView}
use Rattle.pc_agent.proofs.Lists.{as_members-append}

pub view_takes : (run : Run) (set gained : Set) (old new : View) (delta : List Part) → ShowsView run set old → IsTakenIn delta old new → ShowsDelta run gained delta → ShowsView run (set ++ gained) new
view_takes run set gained old new delta was taken tells = record {
  of_run = taken.of_run run was.of_run tells.of_run;
  known = λ m. taken.union m ∙ ap (λ b. pairs_of old m || b) (tells.told m) ∙ ap (λ b. b || as_members gained m) (was.known m) ∙ sym (as_members-append set gained m);
}

-- the pairs of a list that a set has
abbrev kept : Members → Set → Set
kept members pairs = filter (λ pair. members (pair.0 ∷ pair.1 ∷ [])) pairs

and_false : (b : Bool) → (b && false) ≡ false
and_false true = refl
and_false false = refl

-- of those that pass one test, the ones that pass another, where that is the same for all of them
any_filter : (f g : ℕ × ℕ → Bool) (b : Bool) → ((p : ℕ × ℕ) → f p ≡ true → g p ≡ b) → (ps : Set) → list_any f (filter g ps) ≡ (list_any f ps && b)
any_filter f g b h [] = refl
any_filter f g b h (p ∷ ps) = by_tests (f p) (g p) refl refl (any_filter f g b h ps)
  where
    by_tests : (x y : Bool) → f p ≡ x → g p ≡ y → list_any f (filter g ps) ≡ (list_any f ps && b) → list_any f (cond y (p ∷ filter g ps) (filter g ps)) ≡ ((x || list_any f ps) && b)
    by_tests true true e k ih = ap (λ z. z || list_any f (filter g ps)) e ∙ sym k ∙ h p e
    by_tests true false e k ih =
        let none : false ≡ b = sym k ∙ h p e in
        ih ∙ ap (λ z. list_any f ps && z) (sym none) ∙ and_false (list_any f ps) ∙ none
    by_tests false true e k ih = ap (λ z. z || list_any f (filter g ps)) e ∙ ih
    by_tests false false e k ih = ih

both_hold : (a b : Bool) → (a && b) ≡ true → (a ≡ true) × (b ≡ true)
both_hold true b e = (refl, e)
both_hold false b e = absurd (false≢true e)

eq_is : (a b : ℕ) → (a == b) ≡ true → a ≡ b
eq_is a b e = elim (eqb_tells a b) [ inl h ↦ h.1 | inr h ↦ absurd (false≢true (sym h.0 ∙ e)) ]

kept_has : (members : Members) (pairs : Set) (t n : ℕ) → has (kept members pairs) t n ≡ (has pairs t n && members (t ∷ n ∷ []))
kept_has members pairs t n =
    any_filter (λ p. (p.0 == t) && (p.1 == n)) (λ p. members (p.0 ∷ p.1 ∷ [])) (members (t ∷ n ∷ []))
    (λ p e. let parts = both_hold (p.0 == t) (p.1 == n) e in
    ap (λ q. members (q ∷ p.1 ∷ [])) (eq_is p.0 t parts.0) ∙ ap (λ q. members (t ∷ q ∷ [])) (eq_is p.1 n parts.1)) pairs

-- a set that lies between a list and what a second one adds is a list too: the first, and what it has of the second
module _ (set gained : Set) (between : Members) (h : IsBetween (as_members set) (as_members gained) between) where
  abbrev some : Set
  some = set ++ kept between gained

  here : (t n : ℕ) (s g b : Bool) → has set t n ≡ s → has gained t n ≡ g → between (t ∷ n ∷ []) ≡ b → b ≡ (s || (g && b))
  here t n true g true e f k = refl
  here t n true g false e f k = absurd (false≢true (sym k ∙ h.at_least (t ∷ n ∷ []) e))
  here t n false true true e f k = refl
  here t n false true false e f k = refl
  here t n false false true e f k = sym (h.at_most (t ∷ n ∷ []) k) ∙ ap (λ z. z || has gained t n) e ∙ f
  here t n false false false e f k = refl

  nothing : (m : List ℕ) → (as_members set m || as_members gained m) ≡ false → between m ≡ false
  nothing m e = by_test (between m) refl
    where
      by_test : (b : Bool) → between m ≡ b → b ≡ false
      by_test true k = sym (h.at_most m k) ∙ e
      by_test false k = refl

  pub some_same : IsSameSet between (as_members some)
  some_same [] = nothing [] refl
  some_same (t ∷ []) = nothing (t ∷ []) refl
  some_same (t ∷ n ∷ []) =
      here t n (has set t n) (has gained t n) (between (t ∷ n ∷ [])) refl refl refl ∙ ap (λ b. has set t n || b) (sym (kept_has between gained t n)) ∙ sym (as_members-append set (kept between gained) (t ∷ n ∷ []))
  some_same (t ∷ n ∷ k ∷ m) = nothing (t ∷ n ∷ k ∷ m) refl

  pub some_between : IsBetween (as_members set) (as_members gained) (as_members some)
  some_between = record {
    at_least = λ m e. sym (some_same m) ∙ h.at_least m e;
    at_most = λ m e. h.at_most m (some_same m ∙ e);
  }

pub view_takes_some : (run : Run) (set gained : Set) (old new : View) (delta : List Part) → ShowsView run set old → IsPartlyTakenIn delta old new → ShowsDelta run gained delta
    → (some : Set) × IsBetween (as_members set) (as_members gained) (as_members some) × ShowsView run some new
view_takes_some run set gained old new delta was taken tells =
    let between : IsBetween (as_members set) (as_members gained) (pairs_of new) = record {
      at_least = λ m e. taken.between.at_least m (was.known m ∙ e);
      at_most = λ m e. ap (λ b. b || as_members gained m) (sym (was.known m)) ∙ ap (λ b. pairs_of old m || b) (sym (tells.told m)) ∙ taken.between.at_most m e;
    } in (
      some set gained (pairs_of new) between,
      some_between set gained (pairs_of new) between,
      record { of_run = taken.of_run run was.of_run tells.of_run; known = some_same set gained (pairs_of new) between },
    )

-- a view of nothing is the view of no pair
none_has : (m : List ℕ) → as_members [] m ≡ false
none_has [] = refl
none_has (t ∷ []) = refl
none_has (t ∷ n ∷ []) = refl
none_has (t ∷ n ∷ k ∷ m) = refl

pub view_of_nothing : (run : Run) (view : View) → IsVoid (pairs_of view) → IsOfRun run view → ShowsView run [] view
view_of_nothing run view nothing of_run = record { of_run = of_run; known = λ m. nothing m ∙ sym (none_has m) }
