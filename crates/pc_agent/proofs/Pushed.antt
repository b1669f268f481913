-- A thread that is put at the end of the run list is not wanted, and no other is for that.
use Rattle.std.proofs.Common.{ℕ, ◌≡◌, ◌==◌, ◌&&◌, ◌||◌, not, Bool, true, false, List, [], ◌∷◌, ◌++◌, refl, sym, ap, ◌∙◌}
use Rattle.std.proofs.lemmas.Bool.{false≢true}
use Rattle.std.proofs.lemmas.List.Folds.{list_any-append}
use Rattle.pc_run_queue.specs.Names.{has_name}
use Rattle.pc_agent.specs.Inner.Wanted.{IsNoneWantedBelow}

-- a name more in the list makes no thread wanted
still_unwanted : (runs listed more : Bool) → (runs && not listed) ≡ false → (runs && not (listed || more)) ≡ false
still_unwanted false listed more e = refl
still_unwanted true true more e = refl
still_unwanted true false more e = absurd (false≢true (sym e))

pub none_wanted : (passed : ℕ) (runs : ℕ → Bool) (list : List ℕ) (name : ℕ) → IsNoneWantedBelow passed runs list → IsNoneWantedBelow passed runs (list ++ name ∷ [])
none_wanted passed runs list name h t lt =
    ap (λ b. runs t && not b) (list_any-append (λ x. x == t) list (name ∷ [])) ∙ still_unwanted (runs t) (has_name list t) (has_name (name ∷ []) t) (h t lt)
