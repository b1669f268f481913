-- A tally is one of the runs that ended also behind one more run.
use Rattle.std.proofs.Common.{◌≡◌, ◌∙◌, ◌+◌, ◌++◌, ap, ap₂, sym, refl, arith, ℕ, Bool, true, false, List, [], ◌∷◌, length, Option, Some, None, Result, Ok, Err}
use Rattle.std.proofs.Common.{codes, cond, count_by, is_ok, option_map, unwrap_or, if◌then◌else◌}
use Rattle.std.proofs.lemmas.List.Sums.{sum_by-append}
use Rattle.pc_threads.specs.declared.report.LoadReport.{LoadReport}
use Rattle.pc_program.specs.Inner.Tallying.{counted, first_counted, one_more}
use Rattle.pc_program.specs.Tallies.{IsTallyOf, first_without, is_named, lacks, row_of}
use Rattle.pc_program.specs.declared.ending.Unsettled.{Unsettled}
use Rattle.pc_program.specs.declared.tally.Tally.{Tally}
use Rattle.pc_program.specs.declared.tally.TallyRow.{TallyRow}
use Rattle.pc_program.specs.declared.tally.Unreported.{Unreported}

-- how many pass a test, with one more element
count_more : {X : Type 0} (test : X → Bool) (xs : List X) (x : X) → count_by test (xs ++ x ∷ []) ≡ count_by test xs + cond (test x) 1 0
count_more test xs x =
    sum_by-append (λ y. cond (test y) 1 0) xs (x ∷ []) ∙ ap (λ more. count_by test xs + more) (omega arith)

-- how many pass a test, with one more in front
count_front : {X : Type 0} (test : X → Bool) (x : X) (xs : List X) → count_by test (x ∷ xs) ≡ cond (test x) 1 0 + count_by test xs
count_front test x xs =
    sum_by-append (λ y. cond (test y) 1 0) (x ∷ []) xs ∙ ap (λ one. one + count_by test xs) (omega arith)

module _ (is_such : Unsettled → Bool) where
  -- the first run behind one more, which has no report
  abbrev Next : Option Unreported → Unreported → Option Unreported
  Next first it = if is_such it.why then Some (unwrap_or first it) else first

  kept : (test : Bool) (first it : Unreported) → Some first ≡ (if test then Some (unwrap_or (Some first) it) else Some first)
  kept true first it = refl
  kept false first it = refl

  -- the same where a run is first or others are
  after : (test : Bool) (first it : Unreported) (others more : Option Unreported) → more ≡ Next others it
      → (if test then Some first else more) ≡ Next (if test then Some first else others) it
  after true first it others more same = kept (is_such it.why) first it
  after false first it others more same = same

  -- the run behind these
  abbrev it_behind : ℕ → List (Result LoadReport Unsettled) → Unsettled → Unreported
  it_behind seed endings unsettled = record { seed = seed + length endings; why = unsettled }

  first_more : (seed : ℕ) (endings : List (Result LoadReport Unsettled)) (unsettled : Unsettled)
      → first_without is_such seed (endings ++ Err unsettled ∷ []) ≡ Next (first_without is_such seed endings) (it_behind seed endings unsettled)
  first_more seed [] unsettled = ap (λ (n : ℕ). Next None (record { seed = n; why = unsettled })) (omega arith)
  first_more seed (Ok report ∷ endings) unsettled =
      first_more (seed + 1) endings unsettled
      ∙ ap (λ (n : ℕ). Next (first_without is_such (seed + 1) endings) (record { seed = n; why = unsettled })) (omega arith)
  first_more seed (Err earlier ∷ endings) unsettled =
      after (is_such earlier) (record { seed = seed; why = earlier }) (it_behind seed (Err earlier ∷ endings) unsettled) (first_without is_such (seed + 1) endings)
      (first_without is_such (seed + 1) (endings ++ Err unsettled ∷ []))
      (first_more (seed + 1) endings unsettled
      ∙ ap (λ (n : ℕ). Next (first_without is_such (seed + 1) endings) (record { seed = n; why = unsettled })) (omega arith))

  first_same : (seed : ℕ) (endings : List (Result LoadReport Unsettled)) (report : LoadReport)
      → first_without is_such seed (endings ++ Ok report ∷ []) ≡ first_without is_such seed endings
  first_same seed [] report = refl
  first_same seed (Ok earlier ∷ endings) report = first_same (seed + 1) endings report
  first_same seed (Err earlier ∷ endings) report =
      ap (λ others. if is_such earlier then Some (record { seed = seed; why = earlier }) else others) (first_same (seed + 1) endings report)

  chosen_none : (test : Bool) (first : Unreported) (others : Option Unreported) → (if test then Some first else others) ≡ None
      → (test ≡ false) × (others ≡ None)
  chosen_none true first others none = absurd cc
  chosen_none false first others none = (refl, none)

  none_counted : (seed : ℕ) (endings : List (Result LoadReport Unsettled)) → first_without is_such seed endings ≡ None → count_by (lacks is_such) endings ≡ 0
  none_counted seed [] none = refl
  none_counted seed (Ok report ∷ endings) none = omega (arith, none_counted (seed + 1) endings none)
  none_counted seed (Err earlier ∷ endings) none =
      let both = chosen_none (is_such earlier) (record { seed = seed; why = earlier }) (first_without is_such (seed + 1) endings) none in
      count_front (lacks is_such) (Err earlier) endings
      ∙ ap₂ (λ (test : Bool) (rest : ℕ). cond test 1 0 + rest) both.0 (none_counted (seed + 1) endings both.1)

-- a row of so many runs, if there is a first one
abbrev row : ℕ → Option Unreported → Option TallyRow
row many first = option_map (λ (given : Unreported). record { runs = many; first = given }) first

row_behind : (test : Bool) (first : Option Unreported) (many : ℕ) (it : Unreported) → (first ≡ None → many ≡ 0)
    → row (many + cond test 1 0) (if test then Some (unwrap_or first it) else first) ≡ (if test then Some (one_more (row many first) it) else row many first)
row_behind true (Some first) many it none = refl
row_behind true None many it none = ap (λ (n : ℕ). Some (record { runs = n + 1; first = it })) (none refl)
row_behind false (Some first) many it none = ap (λ (n : ℕ). Some (record { runs = n; first = first })) (omega arith)
row_behind false None many it none = refl

module _ (name : List ℕ) (seed : ℕ) (endings : List (Result LoadReport Unsettled)) where
  row_more : (unsettled : Unsettled) → row_of name seed (endings ++ Err unsettled ∷ []) ≡ counted name (row_of name seed endings) (record { seed = seed + length endings; why = unsettled })
  row_more unsettled =
      ap₂ row (count_more (lacks (is_named name)) endings (Err unsettled)) (first_more (is_named name) seed endings unsettled)
      ∙ row_behind (is_named name unsettled) (first_without (is_named name) seed endings) (count_by (lacks (is_named name)) endings) (record { seed = seed + length endings; why = unsettled })
      (none_counted (is_named name) seed endings)

  row_same : (report : LoadReport) → row_of name seed (endings ++ Ok report ∷ []) ≡ row_of name seed endings
  row_same report =
      ap₂ row (count_more (lacks (is_named name)) endings (Ok report) ∙ omega arith) (first_same (is_named name) seed endings report)

  rowed : (unsettled : Unsettled) (old new : Option TallyRow) (it : Unreported) → it ≡ record { seed = seed + length endings; why = unsettled } → old ≡ row_of name seed endings
      → new ≡ counted name old it → new ≡ row_of name seed (endings ++ Err unsettled ∷ [])
  rowed unsettled old new it is was now =
      now ∙ ap₂ (counted name) was is ∙ sym (row_more unsettled)

length_more : {X : Type 0} (xs : List X) (x : X) → length (xs ++ x ∷ []) ≡ length xs + 1
length_more [] x = refl
length_more (y ∷ xs) x = omega (arith, length_more xs x)

-- what a tally is behind one more run that has no report, by its parts
pub record IsBehind (old new : Tally) (it : Unreported) : Type 0 where
  pub runs : new.runs ≡ old.runs + 1
  pub reported : new.reported ≡ old.reported
  pub audit : new.audit ≡ counted (codes "Audit") old.audit it
  pub incomplete : new.incomplete ≡ counted (codes "Incomplete") old.incomplete it
  pub driver : new.driver ≡ counted (codes "Driver") old.driver it
  pub gave_up : new.gave_up ≡ counted (codes "GaveUp") old.gave_up it
  pub unaccounted : new.unaccounted ≡ counted (codes "Unaccounted") old.unaccounted it
  pub stalled : new.stalled ≡ counted (codes "Stalled") old.stalled it
  pub first : new.first ≡ first_counted old.first it

pub unreported_more : (seed : ℕ) (endings : List (Result LoadReport Unsettled)) (unsettled : Unsettled) (old new : Tally) (it : Unreported)
    → it ≡ record { seed = seed + length endings; why = unsettled } → IsTallyOf seed endings old → IsBehind old new it → IsTallyOf seed (endings ++ Err unsettled ∷ []) new
unreported_more seed endings unsettled old new it is was now = record {
  runs = now.runs ∙ ap (λ (n : ℕ). n + 1) was.runs ∙ sym (length_more endings (Err unsettled));
  reported = now.reported ∙ was.reported ∙ sym (count_more is_ok endings (Err unsettled) ∙ omega arith);
  audit = rowed (codes "Audit") seed endings unsettled old.audit new.audit it is was.audit now.audit;
  incomplete = rowed (codes "Incomplete") seed endings unsettled old.incomplete new.incomplete it is was.incomplete now.incomplete;
  driver = rowed (codes "Driver") seed endings unsettled old.driver new.driver it is was.driver now.driver;
  gave_up = rowed (codes "GaveUp") seed endings unsettled old.gave_up new.gave_up it is was.gave_up now.gave_up;
  unaccounted = rowed (codes "Unaccounted") seed endings unsettled old.unaccounted new.unaccounted it is was.unaccounted now.unaccounted;
  stalled = rowed (codes "Stalled") seed endings unsettled old.stalled new.stalled it is was.stalled now.stalled;
  first = now.first ∙ ap₂ first_counted was.first is ∙ sym (first_more (λ _. true) seed endings unsettled);
}

-- a tally behind one more run that has a report
pub reported_more : (seed : ℕ) (endings : List (Result LoadReport Unsettled)) (report : LoadReport) (old : Tally) → IsTallyOf seed endings old
    → IsTallyOf seed (endings ++ Ok report ∷ []) (record old { runs = old.runs + 1; reported = old.reported + 1 })
reported_more seed endings report old was = record {
  runs = ap (λ (n : ℕ). n + 1) was.runs ∙ sym (length_more endings (Ok report));
  reported = ap (λ (n : ℕ). n + 1) was.reported ∙ sym (count_more is_ok endings (Ok report));
  audit = was.audit ∙ sym (row_same (codes "Audit") seed endings report);
  incomplete = was.incomplete ∙ sym (row_same (codes "Incomplete") seed endings report);
  driver = was.driver ∙ sym (row_same (codes "Driver") seed endings report);
  gave_up = was.gave_up ∙ sym (row_same (codes "GaveUp") seed endings report);
  unaccounted = was.unaccounted ∙ sym (row_same (codes "Unaccounted") seed endings report);
  stalled = was.stalled ∙ sym (row_same (codes "Stalled") seed endings report);
  first = was.first ∙ sym (first_same (λ _. true) seed endings report);
}
