-- The rows of a view of a set in a run are those that the set has in the run.
use Rattle.std.proofs.Common.{◌≡◌, All, ℕ, ◌+◌, ◌≤◌, ◌<◌, ◌==◌, ◌||◌, true, false, List, [], ◌∷◌, map, take, Some, None, IsSome, refl, sym, ◌∙◌, ap, subst, inl, inr, arith}
use Rattle.std.specs.List.{list_any}
use Rattle.std.specs.List.Sorted.{IsStrictlyIncreasing}
use Rattle.std.specs.Ordering.{nat_cmp}
use Rattle.std.specs.FinMap as map
use Rattle.std.proofs.lemmas.Bool.{cases_lt, eq-eqb}
use Rattle.std.proofs.lemmas.Bool.Decides.{nat_tests}
use Rattle.std.proofs.lemmas.List.Elements.{All-weaker}
use Rattle.pc_messages.specs.Run.{Run}
use Rattle.pc_messages.specs.State.{state_of}
use Rattle.pc_messages.specs.declared.kind.Kind.{Kind}
use Rattle.pc_join.specs.Sets.{Source, source_at, has, as_members, IsSameSet, IsVoid}
use Rattle.pc_join.specs.ByName.{IsOfByName, members_by_name, known_in}
use Rattle.pc_join.specs.Ranges.{one_to}
use Rattle.pc_thread_view.specs.Told.{Told, tells, numbers_of, is_early, IsOfThread}
use Rattle.pc_script.specs.declared.lists.ShownThread.{ShownThread}
use Rattle.pc_agent.specs.PlainAgent.{Set}
use Rattle.pc_session.specs.ShownViews.{IsPrefix, IsShown, IsShownThread}
use Rattle.pc_session.specs.Inner.Showing.{IsRow, ShowsAll}
use Rattle.pc_session.proofs.Telling.{told_prefix, told_ends, told_early, numbers_above, numbers_rise, numbers_early}
use Rattle.pc_messages.proofs.Bools.{or_left, or_right}

-- what is told of a thread that is known is not nothing
void_of : (told : Told) → ((n : ℕ) → tells told n ≡ false) → IsVoid (numbers_of told)
void_of told h [] = refl
void_of told h (n ∷ []) = h n
void_of told h (n ∷ k ∷ m) = refl

nothing_at_zero : (upto n : ℕ) → n ≤ upto → upto ≤ 0 → one_to upto n ≡ false
nothing_at_zero upto n low high = grind (arith, nat_tests)

nothing_told : (told : Told) → told.upto ≤ 0 → told.early ≡ [] → (n : ℕ) → tells told n ≡ false
nothing_told told low none n = elim (cases_lt told.upto n) [
  | inl above ↦ told_early told n above ∙ ap (λ early. is_early early n) none
  | inr below ↦ ap (λ b. b || is_early told.early n) (nothing_at_zero told.upto n below low) ∙ ap (λ early. is_early early n) none
]

first_is_early : (d : ℕ × Kind) (ds : List (ℕ × Kind)) → is_early (d ∷ ds) d.0 ≡ true
first_is_early d ds = or_left (d.0 == d.0) (is_early ds d.0) (eq-eqb d.0 d.0 refl)

early_told : (told : Told) (d : ℕ × Kind) (ds : List (ℕ × Kind)) → told.early ≡ d ∷ ds → tells told d.0 ≡ true
early_told told d ds e = or_right (one_to told.upto d.0) (is_early told.early d.0) (ap (λ early. is_early early d.0) e ∙ first_is_early d ds)

some_of_early : (told : Told) (early : List (ℕ × Kind)) → told.early ≡ early → told.upto ≤ 0 → ¬ IsVoid (numbers_of told) → (n : ℕ) × (tells told n ≡ true)
some_of_early told [] e low h = absurd (h (void_of told (nothing_told told low e)))
some_of_early told (d ∷ ds) e low h = (d.0, early_told told d ds e)

some_told : (told : Told) → ¬ IsVoid (numbers_of told) → (n : ℕ) × (tells told n ≡ true)
some_told told h = elim (cases_lt 0 told.upto) [
  | inl prefix ↦ (1, told_prefix told 1 (omega arith) (omega arith))
  | inr empty ↦ some_of_early told told.early refl empty h
]

module _ (threads : map.FinMap nat_cmp Told) (run : Run) (s : Source) (set : Set)
    (states : (t : ℕ) (told : Told) → map.get threads t ≡ Some told → told.state ≡ state_of (take told.upto (run t)))
    (of_run : IsOfByName numbers_of IsOfThread threads s)
    (same : IsSameSet (members_by_name numbers_of threads) (as_members set)) where
  -- the set's numbers of a thread are those that are told
  told_has : (t n : ℕ) (told : Told) → map.get threads t ≡ Some told → has set t n ≡ tells told n
  told_has t n told e = sym (same (t ∷ n ∷ [])) ∙ ap (λ o. known_in numbers_of o (n ∷ [])) e

  row_shown : (row : ShownThread) → IsRow (map.get threads) row → IsShownThread run set row
  row_shown row (told, known, is) =
      let t : ℕ = row.thread in
      let thread : IsOfThread told (source_at s t) = of_run.each t told known in
      let some = some_told told (of_run.kept t told known) in
      let upto : row.upto ≡ told.upto = ap (λ (r : ShownThread). r.upto) is in
      let numbers : row.early ≡ map (λ e. e.0) told.early = ap (λ (r : ShownThread). r.early) is in
      record {
        some = (some.0, told_has t some.0 told known ∙ some.1);
        upto = subst (IsPrefix set t) (sym upto) record {
          known = λ n low high. told_has t n told known ∙ told_prefix told n low high;
          ends = told_has t (told.upto + 1) told known ∙ told_ends told thread.gap;
        };
        state = ap (λ (r : ShownThread). r.reported) is ∙ states t told known ∙ ap (λ n. state_of (take n (run t))) (sym upto);
        above = subst (λ n. All (λ m. n < m) row.early) (sym upto)
            (subst (All (λ m. told.upto < m)) (sym numbers) (All-weaker (λ m. told.upto + 1 < m) (λ m. told.upto < m) (λ m h. omega arith) (map (λ e. e.0) told.early) (numbers_above (told.upto + 1) told.early thread.gap)));
        ascending = subst IsStrictlyIncreasing (sym numbers) (numbers_rise (told.upto + 1) told.early thread.gap);
        early = λ n above. ap (list_any (λ x. x == n)) numbers ∙ numbers_early told.early n
            ∙ sym (told_early told n (subst (λ m. m < n) upto above)) ∙ sym (told_has t n told known);
      }

  known_of : (t n : ℕ) → has set t n ≡ true → IsSome (map.get threads t)
  known_of t n e = elim (map.get threads t) as (λ o. known_in numbers_of o (n ∷ []) ≡ has set t n → IsSome o) [
    | None ↦ λ k. let bad : false ≡ true = k ∙ e in cc
    | Some told ↦ λ k. refl
  ] (same (t ∷ n ∷ []))

  pub rows_shown : (rows : List ShownThread) → ShowsAll (map.get threads) rows → IsShown run set rows
  rows_shown rows h =
      record {
        ascending = h.ascending;
        each = All-weaker (IsRow (map.get threads)) (IsShownThread run set) row_shown rows h.each;
        every = λ t n e. h.every t (known_of t n e);
      }
