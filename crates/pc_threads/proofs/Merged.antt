-- What views know together, one view after another.
use Rattle.std.proofs.Common.{ℕ, ◌+◌, ◌<◌, ◌≡◌, Bool, false, ◌||◌, List, [], ◌∷◌, length, take, get_or, sym, ◌∙◌, ap, subst}
use Rattle.std.specs.List.{list_any}
use Rattle.std.proofs.lemmas.List.{take_more}
use Rattle.std.proofs.lemmas.List.Folds.{list_any-append}
use Rattle.std.proofs.lemmas.List.Elements.{All-get_or, All-more}
use Rattle.pc_messages.proofs.Bools.{or_none}
use Rattle.pc_messages.specs.Run.{Run}
use Rattle.pc_view.specs.declared.view.View.{View}
use Rattle.pc_view.specs.Views.{IsOfRun, pairs_of}
use Rattle.pc_threads.specs.Settling.{AreOfRun, pairs_of_all}

module _ (views : List View) (i : ℕ) (view : View) (low : i < length views) (is : view ≡ get_or views i view) where
  -- with one view more, also what it knows
  pub pairs_more : (m : List ℕ) → pairs_of_all (take (i + 1) views) m ≡ (pairs_of_all (take i views) m || pairs_of view m)
  pairs_more m =
      let knows : View → Bool = λ v. pairs_of v m in
      ap (list_any knows) (take_more views i view low)
      ∙ list_any-append knows (take i views) (get_or views i view ∷ [])
      ∙ ap (λ b. list_any knows (take i views) || b) (ap (λ (v : View). knows v || false) (sym is) ∙ or_none (knows view))

  pub of_run_more : (run : Run) → AreOfRun run (take i views) → IsOfRun run view → AreOfRun run (take (i + 1) views)
  of_run_more run before here = All-more (IsOfRun run) views i view low before (subst (IsOfRun run) is here)

  pub of_run_at : (run : Run) → AreOfRun run views → IsOfRun run view
  of_run_at run all = subst (IsOfRun run) (sym is) (All-get_or (IsOfRun run) views i view low all)
