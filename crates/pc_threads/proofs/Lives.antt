-- A life is what its test finds.
use Rattle.std.proofs.Common.{ℕ, ◌≡◌, ◌+◌, ◌<◌, ◌≤◌, true, false, cond, eqb, leb, ltb, List, [], ◌∷◌, ◌++◌, length, length-append, get_or, take, position, Option, Some, None, All, refl, sym, ap, ◌∙◌, subst, arith, rules, tests}
use Rattle.std.specs.Option.{option_map_or}
use Rattle.std.specs.List.{position_or_len}
use Rattle.std.proofs.lemmas.List.{take_more, get_or-take, get_or_append_left, length-take-le}
use Rattle.std.proofs.lemmas.List.Quantifiers.{position-Some}
use Rattle.std.proofs.lemmas.List.Sums.{position_or_len_is}
use Rattle.std.proofs.Math.Seq.{take-length, get_or-append_seam}
use Rattle.pc_messages.proofs.Bools.{both, first_true, second_true}
use Rattle.pc_threads.specs.declared.settings.plans.TheConstants.{MOST_STEPS}
use Rattle.pc_threads.specs.declared.settings.plans.Step.{Step}
use Rattle.pc_threads.specs.declared.settings.plans.Step.TheVariants.{Yield, Block, Preempt, Die}
use Rattle.pc_threads.specs.Settings.{is_die, is_life, IsLife, LivesEndInDeath}

died : (step : Step) → is_die step ≡ true → (ticks : ℕ) × (step ≡ Die ticks)
died (Die ticks) e = (ticks, refl)
died (Yield n) e = cc
died (Block n) e = cc
died (Preempt n) e = cc

-- the step that was found, where its place is the last
last_found : (steps : List Step) (found : Option ℕ) → position is_die steps ≡ found → option_map_or (λ first. eqb (first + 1) (length steps)) found false ≡ true
    → (place : ℕ) × (position is_die steps ≡ Some place) × (place + 1 ≡ length steps)
last_found steps None e h = cc
last_found steps (Some place) e h = (place, e, search (rules, tests))

life_of : (steps : List Step) (place : ℕ) → position is_die steps ≡ Some place → place + 1 ≡ length steps → length steps ≤ MOST_STEPS → IsLife steps
life_of steps place e last few =
    let first = position-Some is_die steps place (Die 0) e in
    let death = died (get_or steps place (Die 0)) first.1 in
    record {
      before = take place steps;
      ticks = death.0;
      ends = sym (take-length steps) ∙ ap (λ n. take n steps) (sym last) ∙ take_more steps place (Die 0) (omega arith)
          ∙ ap (λ x. take place steps ++ x ∷ []) death.1;
      goes_on = λ k d h.
          let below : k < place = omega (arith, length-take-le place steps (omega arith)) in
          subst (λ x. is_die x ≡ false) (sym (get_or-take place steps k d below)) ((position-Some is_die steps place d e).2 k below);
      few = few;
    }

life_means : (steps : List Step) → is_life steps ≡ true → IsLife steps
life_means steps h =
    let test : leb (length steps) MOST_STEPS ≡ true = first_true _ (option_map_or (λ first. eqb (first + 1) (length steps)) (position is_die steps) false) h in
    let found = last_found steps (position is_die steps) refl (second_true (leb (length steps) MOST_STEPS) _ h) in
    life_of steps found.0 found.1 found.2 (search (rules, tests))

found_last : (before : List Step) (ticks : ℕ) → All (λ step. is_die step ≡ false) before → position is_die (before ++ Die ticks ∷ []) ≡ Some (length before)
found_last before ticks goes_on =
    let steps = before ++ Die ticks ∷ [] in
    let more : length steps ≡ length before + 1 = length-append before (Die ticks ∷ []) in
    let place : position_or_len is_die steps ≡ length before =
    position_or_len_is is_die steps (length before) (Die 0) (omega arith)
    (λ k h. subst (λ x. is_die x ≡ false) (sym (get_or_append_left before (Die ticks ∷ []) (Die 0) k h)) (goes_on k (Die 0) h))
    (λ h. ap is_die (get_or-append_seam before (Die ticks) [] (Die 0))) in
    let inside : ltb (length before) (length steps) ≡ true = search (rules, tests) in
    ap (λ n. cond (ltb n (length steps)) (Some n) None) place ∙ ap (λ b. cond b (Some (length before)) None) inside

life_tested_at : (before : List Step) (ticks : ℕ) → All (λ step. is_die step ≡ false) before → length (before ++ Die ticks ∷ []) ≤ MOST_STEPS → is_life (before ++ Die ticks ∷ []) ≡ true
life_tested_at before ticks goes_on few =
    let steps = before ++ Die ticks ∷ [] in
    let more : length steps ≡ length before + 1 = length-append before (Die ticks ∷ []) in
    let last : eqb (length before + 1) (length steps) ≡ true = search (rules, tests) in
    both (leb (length steps) MOST_STEPS) (option_map_or (λ first. eqb (first + 1) (length steps)) (position is_die steps) false) (search (rules, tests))
    (ap (λ found. option_map_or (λ first. eqb (first + 1) (length steps)) found false) (found_last before ticks goes_on) ∙ last)

life_tested : (steps : List Step) → IsLife steps → is_life steps ≡ true
life_tested steps h =
    let few : length (h.before ++ Die h.ticks ∷ []) ≤ MOST_STEPS = subst (λ xs. length xs ≤ MOST_STEPS) h.ends h.few in
    ap is_life h.ends ∙ life_tested_at h.before h.ticks h.goes_on few

pub lives_end : LivesEndInDeath
lives_end steps = (life_means steps, life_tested steps)
