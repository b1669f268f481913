-- Run lists that stand by noted ranks, whatever parts tell of their threads.
use Rattle.std.proofs.Common.{ℕ, ◌+◌, ◌<◌, ◌==◌, ◌||◌, ◌≡◌, Bool, true, false, List, [], ◌∷◌, ◌++◌, length, take, drop, get_or, cond, arith, Option, Some, sym, ap, ◌∙◌, inl, inr, refl}
use Rattle.std.proofs.lemmas.Bool.{false≢true}
use Rattle.std.proofs.lemmas.Bool.Decides.{eqb_tells}
use Rattle.std.proofs.lemmas.List.{take_all, take_more}
use Rattle.std.proofs.lemmas.List.Folds.{list_any-append}
use Rattle.pc_view.specs.declared.view.View.{View}
use Rattle.pc_view.specs.Prefixes.{state_told}
use Rattle.pc_delta.specs.declared.part.Part.{Part}
use Rattle.pc_delta.specs.Parts.{tells_of, thread_of_part}
use Rattle.pc_delta.specs.Exchange.{KeepsOthers}
use Rattle.pc_delta.proofs.Lists.{left_item}
use Rattle.pc_policy.specs.Rankings.{Ranking}
use Rattle.pc_run_queue.specs.Names.{has_name}
use Rattle.pc_run_queue.specs.Runs.{StandsAsNoted, rank_in, rank_noted, rank_told}
use Rattle.pc_run_queue.proofs.Settled.{stands_where_same}
use Rattle.pc_agent.specs.Inner.Settled.{AreNotedAlike, TellsOfNoOther, is_noted}

-- a part that does not tell of this thread
pub one_less : (parts : List Part) (i : ℕ) (part : Part) (t : ℕ) → part ≡ get_or parts i part → i < length parts → (thread_of_part part == t) ≡ false
    → tells_of (drop i parts) t ≡ tells_of (drop (i + 1) parts) t
one_less parts i part t e lt other =
    ap (λ left. tells_of left t) (left_item parts i part e lt) ∙ ap (λ b. b || tells_of (drop (i + 1) parts) t) other

-- a part that tells of no thread of the list
differs : (list : List ℕ) (name t : ℕ) → has_name list name ≡ false → has_name list t ≡ true → (name == t) ≡ false
differs list name t absent listed = elim (eqb_tells name t) [
  | inl h ↦ absurd (false≢true (sym absent ∙ ap (has_name list) h.1 ∙ listed))
  | inr h ↦ h.0
]

pub one_listed_less : (parts : List Part) (i : ℕ) (part : Part) (list : List ℕ) → part ≡ get_or parts i part → i < length parts → has_name list (thread_of_part part) ≡ false
    → (t : ℕ) → has_name list t ≡ true → tells_of (drop i parts) t ≡ tells_of (drop (i + 1) parts) t
one_listed_less parts i part list e lt absent t listed = one_less parts i part t e lt (differs list (thread_of_part part) t absent listed)

-- the ranks of threads that are noted, and of others that have the same
noted_same : (old new : ℕ → Option ℕ) (noted : List (ℕ × ℕ)) (t : ℕ) → (is_noted noted t ≡ false → new t ≡ old t) → rank_noted noted new t ≡ rank_noted noted old t
noted_same old new [] t same = same refl
noted_same old new (row ∷ rows) t same = by_test (row.0 == t) refl (noted_same old new rows t)
  where
    by_test : (b : Bool) → (row.0 == t) ≡ b → ((is_noted rows t ≡ false → new t ≡ old t) → rank_noted rows new t ≡ rank_noted rows old t)
        → cond b (Some row.1) (rank_noted rows new t) ≡ cond b (Some row.1) (rank_noted rows old t)
    by_test true f ih = refl
    by_test false f ih = ih (λ e. same (ap (λ b. b || is_noted rows t) f ∙ e))

pub still_stands : (ranks : Ranking) (parts : List Part) (old new : View) (cpu : ℕ) (list : List ℕ) (noted : List (ℕ × ℕ)) → KeepsOthers parts old new
    → TellsOfNoOther parts list noted → StandsAsNoted ranks old cpu noted list → StandsAsNoted ranks new cpu noted list
still_stands ranks parts old new cpu list noted keeps others h =
    stands_where_same (rank_noted noted (rank_in ranks old cpu)) (rank_noted noted (rank_in ranks new cpu)) list
    (λ t listed. noted_same (rank_in ranks old cpu) (rank_in ranks new cpu) noted t (λ e. ap (rank_told ranks cpu t) (ap state_told (keeps t (others t listed e))))) h

pub stands_alike : (ranks : Ranking) (view : View) (cpu : ℕ) (list : List ℕ) (old new : List (ℕ × ℕ)) → AreNotedAlike ranks view cpu old new → StandsAsNoted ranks view cpu old list → StandsAsNoted ranks view cpu new list
stands_alike ranks view cpu list old new alike h =
    stands_where_same (rank_noted old (rank_in ranks view cpu)) (rank_noted new (rank_in ranks view cpu)) list (λ t listed. alike t) h

-- a thread that is noted with the rank that it has
pub noted_more : (rank : ℕ → Option ℕ) (noted : List (ℕ × ℕ)) (x n t : ℕ) → rank x ≡ Some n → rank_noted (noted ++ (x, n) ∷ []) rank t ≡ rank_noted noted rank t
noted_more rank [] x n t e = by_test (x == t) refl
  where
    by_test : (b : Bool) → (x == t) ≡ b → cond b (Some n) (rank t) ≡ rank t
    by_test true f = elim (eqb_tells x t) [
      | inl k ↦ sym e ∙ ap rank k.1
      | inr k ↦ absurd (false≢true (sym k.0 ∙ f))
    ]
    by_test false f = refl
noted_more rank (row ∷ rows) x n t e = by_test (row.0 == t) (noted_more rank rows x n t e)
  where
    by_test : (b : Bool) → rank_noted (rows ++ (x, n) ∷ []) rank t ≡ rank_noted rows rank t → cond b (Some row.1) (rank_noted (rows ++ (x, n) ∷ []) rank t) ≡ cond b (Some row.1) (rank_noted rows rank t)
    by_test true ih = refl
    by_test false ih = ih

pub noted_less : (rank : ℕ → Option ℕ) (noted : List (ℕ × ℕ)) (place : ℕ) (row : ℕ × ℕ) (t : ℕ) → place + 1 ≡ length noted → row ≡ get_or noted place row → rank row.0 ≡ Some row.1
    → rank_noted (take place noted) rank t ≡ rank_noted noted rank t
noted_less rank noted place row t n is e =
    sym (noted_more rank (take place noted) row.0 row.1 t e)
    ∙ ap (λ rows. rank_noted rows rank t) (ap (λ r. take place noted ++ r ∷ []) is ∙ sym (take_more noted place row (omega arith)) ∙ take_all (place + 1) noted (omega arith))

-- one more thread that is noted
neither : (a b : Bool) → (a || b) ≡ false → (a ≡ false) × (b ≡ false)
neither true b e = absurd (false≢true (sym e))
neither false b e = (refl, e)

pub one_noted : (noted : List (ℕ × ℕ)) (row : ℕ × ℕ) (t : ℕ) → is_noted (noted ++ row ∷ []) t ≡ false → (is_noted noted t ≡ false) × ((row.0 == t) ≡ false)
one_noted noted row t e =
    let both = neither (is_noted noted t) (is_noted (row ∷ []) t) (sym (list_any-append (λ row. row.0 == t) noted (row ∷ [])) ∙ e) in
    (both.0, (neither (row.0 == t) false both.1).0)
