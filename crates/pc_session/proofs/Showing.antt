-- The rows of a view are those of its entries.
use Rattle.std.proofs.Common.{◌≡◌, ℕ, ◌+◌, ◌≤◌, ◌==◌, true, List, [], ◌∷◌, ◌++◌, map as map_list, All, Some, IsSome, refl, sym, ◌∙◌, ap, subst, inl, inr, arith, append-nil, append_assoc}
use Rattle.std.specs.List.{list_any}
use Rattle.std.specs.Ordering.{nat_cmp}
use Rattle.std.specs.FinMap as map
use Rattle.std.proofs.lemmas.Bool.{eq-eqb}
use Rattle.std.proofs.lemmas.List.Elements.{All-weaker, All-nil, All-cons, All-map}
use Rattle.pc_join.specs.ByName.{AscendFrom, value_at}
use Rattle.pc_join.proofs.Entries.{at_first, at_later, entries_ascend, same_or_other}
use Rattle.pc_thread_view.specs.Told.{Told}
use Rattle.pc_script.specs.declared.lists.ShownThread.{ShownThread}
use Rattle.pc_session.specs.Inner.Showing.{row_told, rows_told, IsRow, ShowsAll}
use Rattle.pc_messages.proofs.Bools.{or_left, or_right}
use Rattle.pc_session.proofs.Telling.{names_rise}

-- each entry stands under its name
each_found : (n : ℕ) (es : List (ℕ × Told)) → AscendFrom n es → All (λ e. (n ≤ e.0) × (value_at es e.0 ≡ Some e.1)) es
each_found n [] h = All-nil (λ (e : ℕ × Told). (n ≤ e.0) × (value_at [] e.0 ≡ Some e.1))
each_found n (e ∷ es) h =
    All-cons (λ (x : ℕ × Told). (n ≤ x.0) × (value_at (e ∷ es) x.0 ≡ Some x.1)) e es (h.0, at_first e es)
    (All-weaker (λ (x : ℕ × Told). (e.0 + 1 ≤ x.0) × (value_at es x.0 ≡ Some x.1)) (λ (x : ℕ × Told). (n ≤ x.0) × (value_at (e ∷ es) x.0 ≡ Some x.1))
    (λ x (above, found). (later x above, at_later e es x.0 (other x above) ∙ found)) es (each_found (e.0 + 1) es h.1))
  where
    first : n ≤ e.0
    first = h.0

    later : (x : ℕ × Told) → e.0 + 1 ≤ x.0 → n ≤ x.0
    later x above = omega (arith, first)

    other : (x : ℕ × Told) → e.0 + 1 ≤ x.0 → ¬ (x.0 ≡ e.0)
    other x above same = absurd (omega arith)

-- what stands under a name has its row
every_shown : (es : List (ℕ × Told)) (t : ℕ) → IsSome (value_at es t) → list_any (λ row. row.thread == t) (rows_told es) ≡ true
every_shown [] t some = some
every_shown (e ∷ es) t some = elim (same_or_other t e.0) [
  | inl same ↦ or_left (e.0 == t) (list_any (λ (row : ShownThread). row.thread == t) (rows_told es)) (eq-eqb e.0 t (sym same))
  | inr other ↦ or_right (e.0 == t) (list_any (λ (row : ShownThread). row.thread == t) (rows_told es)) (every_shown es t (subst IsSome (at_later e es t other) some))
]

names_told : (es : List (ℕ × Told)) → map_list (λ (row : ShownThread). row.thread) (rows_told es) ≡ map_list (λ (e : ℕ × Told). e.0) es
names_told [] = refl
names_told (e ∷ es) = ap (λ names. e.0 ∷ names) (names_told es)

pub shows_all : (a : map.FinMap nat_cmp Told) → ShowsAll (map.get a) (rows_told (map.entries a))
shows_all a =
    let es = map.entries a in
    let ascend : AscendFrom 0 es = entries_ascend a in
    record {
      ascending = rw (names_told es) (names_rise 0 es ascend);
      each = All-map (IsRow (map.get a)) (λ (e : ℕ × Told). row_told e.0 e.1) es
          (All-weaker (λ (e : ℕ × Told). (0 ≤ e.0) × (value_at es e.0 ≡ Some e.1)) (λ (e : ℕ × Told). IsRow (map.get a) (row_told e.0 e.1))
          (λ e (_, found). (e.1, map.get-entries a e.0 ∙ found, refl)) es (each_found 0 es ascend));
      every = λ t some. every_shown es t (subst IsSome (map.get-entries a t) some);
    }

-- ---- row by row

-- the rows so far, and those of the entries that are left, are all
pub shown_start : (all left : List (ℕ × Told)) (rows : List ShownThread) → left ≡ all → rows ≡ [] → rows ++ rows_told left ≡ rows_told all
shown_start all left rows is none = ap (λ xs. xs ++ rows_told left) none ∙ ap rows_told is

pub shown_on : (all left after : List (ℕ × Told)) (rows more : List ShownThread) (t : ℕ) (told : Told) → left ≡ (t, told) ∷ after
    → more ≡ rows ++ row_told t told ∷ [] → rows ++ rows_told left ≡ rows_told all → more ++ rows_told after ≡ rows_told all
shown_on all left after rows more t told is pushed so_far =
    ap (λ xs. xs ++ rows_told after) pushed ∙ append_assoc rows (row_told t told ∷ []) (rows_told after) ∙ ap (λ es. rows ++ rows_told es) (sym is) ∙ so_far

pub shown_end : (all left : List (ℕ × Told)) (rows : List ShownThread) → left ≡ [] → rows ++ rows_told left ≡ rows_told all → rows ≡ rows_told all
shown_end all left rows is so_far = sym (append-nil rows) ∙ ap (λ xs. rows ++ rows_told xs) (sym is) ∙ so_far
