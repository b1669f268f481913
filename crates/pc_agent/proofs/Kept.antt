-- Names that are kept: what they lack does not pass the test.
use Rattle.std.proofs.Common.{ℕ, ◌+◌, ◌^◌, ◌<◌, ◌==◌, ◌&&◌, ◌||◌, ◌≡◌, not, Bool, true, false, List, ◌∷◌, length, drop, get_or, Option, Some, None, Result, Ok, Err, OnOk, is_ok, refl, sym, ap, subst, ◌∙◌, add-one}
use Rattle.pc_join.specs.NameSets.{is_in}
use Rattle.pc_join.specs.declared.join.OutOfMemory.{OutOfMemory}
use Rattle.pc_join.specs.declared.name_set.NameSet.{NameSet}
use Rattle.std.proofs.Math.Seq.{drop-cons}
use Rattle.std.proofs.lemmas.Bool.{false≢true}
use Rattle.pc_view.specs.declared.view.View.{View}
use Rattle.pc_view.specs.Prefixes.{state_told}
use Rattle.pc_delta.specs.declared.part.Part.{Part}
use Rattle.pc_delta.specs.Parts.{tells_of, thread_of_part}
use Rattle.pc_delta.specs.Exchange.{KeepsOthers}
use Rattle.pc_run_queue.specs.Names.{has_name}
use Rattle.pc_run_queue.specs.Runs.{may_run, runs_in}
use Rattle.pc_agent.specs.PlainAgent.{is_wanted}
use Rattle.pc_join.specs.NameSets.{FindsFrom}
use Rattle.pc_agent.specs.Inner.Wanted.{AreShort, HasAllBut, HoldsAll, HoldsAllBut}

module _ (runs : ℕ → Bool) (list : List ℕ) (names : NameSet) (all : HasAllBut (λ t. false) runs names) where
  as_kept : (t : ℕ) → is_wanted runs list t ≡ (is_in names t && not (has_name list t))
  as_kept t = ap (λ b. b && not (has_name list t)) (sym (all t refl).0)

  pub finds_wanted : (from : ℕ) (result : Option ℕ) → FindsFrom (λ t. is_in names t && not (has_name list t)) from result → FindsFrom (is_wanted runs list) from result
  finds_wanted from None none = λ t le. as_kept t ∙ none t le
  finds_wanted from (Some name) first = record { reached = first.reached; passes = as_kept name ∙ first.passes; least = λ t le lt. as_kept t ∙ first.least t le lt }

  pub are_short : AreShort (is_wanted runs list)
  are_short t e = by_test (runs t) refl e
    where
      by_test : (b : Bool) → runs t ≡ b → (b && not (has_name list t)) ≡ true → t < 2 ^ 32
      by_test true f e = (all t refl).1 f
      by_test false f e = absurd (false≢true e)

-- the other threads run as before
pub runs_as_before : (parts : List Part) (old new : View) (cpu t : ℕ) → KeepsOthers parts old new → tells_of parts t ≡ false → runs_in new cpu t ≡ runs_in old cpu t
runs_as_before parts old new cpu t keeps untold = ap (λ told. may_run (state_told told) cpu) (keeps t untold)

pub held_but : (parts : List Part) (old new : View) (cpu : ℕ) (kept : Option (NameSet)) → KeepsOthers parts old new → HoldsAll (runs_in old cpu) kept → HoldsAllBut (tells_of parts) (runs_in new cpu) kept
held_but parts old new cpu kept keeps all names is t untold =
    let same : runs_in new cpu t ≡ runs_in old cpu t = runs_as_before parts old new cpu t keeps untold in
    let held = all names is t refl in (held.0 ∙ sym same, λ runs. held.1 (sym same ∙ runs))

-- one part after another
still_but : (a b : Bool) → b ≡ false → ((a || b) && not a) ≡ false
still_but true b e = refl
still_but false b e = ap (λ x. x && true) e

pub one_less : (parts : List Part) (i : ℕ) (part : Part) (test : ℕ → Bool) (names : NameSet) → part ≡ get_or parts i part → i < length parts
    → HasAllBut (λ t. tells_of (drop i parts) t && not (thread_of_part part == t)) test names → HasAllBut (tells_of (drop (i + 1) parts)) test names
one_less parts i part test names e lt h t untold =
    h t (ap (λ left. tells_of left t && not (thread_of_part part == t)) from_there ∙ still_but (thread_of_part part == t) (tells_of (drop (i + 1) parts) t) untold)
  where
    from_there : drop i parts ≡ part ∷ drop (i + 1) parts
    from_there = drop-cons parts i part lt ∙ ap (λ n. get_or parts i part ∷ drop n parts) (sym (add-one i)) ∙ ap (λ y. y ∷ drop (i + 1) parts) (sym e)

-- all that parts tell of was looked at anew, or nothing was kept
pub all_kept : (but test : ℕ → Bool) (result : Result (Unit {0}) OutOfMemory) (old new : NameSet) (before after : Option (NameSet)) (kept ok : Bool) → kept ≡ true → kept ≡ ok → ok ≡ is_ok result
    → OnOk result (HasAllBut but test old → HasAllBut (λ t. false) test new) → before ≡ Some old → after ≡ Some new → HoldsAllBut but test before → HoldsAll test after
all_kept but test (Ok done) old new before after kept ok f g h says was is held names has =
    let same : new ≡ names = cc in
    subst (HasAllBut (λ t. false) test) same (says (held old was))
all_kept but test (Err fault) old new before after kept ok f g h says was is held names has = absurd (false≢true (sym h ∙ sym g ∙ f))

pub none_kept : (test : ℕ → Bool) (after : Option (NameSet)) → after ≡ None → HoldsAll test after
none_kept test after is names has = absurd (let none : ⊥ = cc in none)
