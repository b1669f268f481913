-- What one step more does to what is behind the steps.
use Rattle.std.proofs.Common.{◌≡◌, ℕ, ◌+◌, ◌<◌, min, Bool, true, false, cond, List, [], ◌∷◌, ◌++◌, take, length, get_or, Option, Some, None, ◌∙◌, ap, refl, sym, unwrap_or, arith, filter, if◌then◌else◌, sum_by, count_by}
use Rattle.std.proofs.lemmas.List.{append-nil, take_more}
use Rattle.std.proofs.lemmas.List.Elements.{filter-append}
use Rattle.std.proofs.lemmas.List.Sums.{sum_by_push}
use Rattle.pc_messages.specs.State.{last_given}
use Rattle.pc_messages.specs.declared.reported.Phase.{Phase}
use Rattle.pc_messages.proofs.States.{last_given-push, or_else}
use Rattle.pc_kernel.specs.Reads.{Reads, number_read, on}
use Rattle.pc_advice.specs.Behind.{capped, home_in, is_about, last_else, mask_in, number_behind, phase_in, place_in, runner_in, running_behind, stands_behind, steps_about, tells}
use Rattle.pc_advice.specs.declared.behind.Standing.{Standing}
use Rattle.pc_advice.specs.declared.plan.PlannedStep.{PlannedStep}

unwrap_or_else : {A : Type 0} (o other : Option A) (x : A) → unwrap_or (or_else o other) x ≡ unwrap_or o (unwrap_or other x)
unwrap_or_else None other x = refl
unwrap_or_else (Some y) other x = refl

pub last_else-push : {A : Type 0} (f : PlannedStep → Option A) (steps : List PlannedStep) (step : PlannedStep) (first : A) →
    last_else f (steps ++ step ∷ []) first ≡ unwrap_or (f step) (last_else f steps first)
last_else-push f steps step first =
    ap (λ o. unwrap_or o first) (last_given-push f steps step) ∙ unwrap_or_else (f step) (last_given f steps) first

capped-more : (count sum more : ℕ) → capped (capped (count + sum) + more) ≡ capped (count + (sum + more))
capped-more count sum more = omega arith

one_kept : {A : Type 0} (p : A → Bool) (y : A) (b : Bool) → p y ≡ b → filter p (y ∷ []) ≡ cond b (y ∷ []) []
one_kept p y true e = rw e refl
one_kept p y false e = rw e refl

filter-push : {A : Type 0} (p : A → Bool) (xs : List A) (y : A) (b : Bool) → p y ≡ b → filter p (xs ++ y ∷ []) ≡ filter p xs ++ cond b (y ∷ []) []
filter-push p xs y b e = filter-append p xs (y ∷ []) ∙ ap (λ ys. filter p xs ++ ys) (one_kept p y b e)

-- the steps up to the next place
pub next_step : (steps : List PlannedStep) (i : ℕ) (step : PlannedStep) → i < length steps → step ≡ get_or steps i step →
    take (i + 1) steps ≡ take i steps ++ step ∷ []
next_step steps i step low is = take_more steps i step low ∙ ap (λ s. take i steps ++ s ∷ []) (sym is)

-- who is on a CPU behind one step more
pub running-more : (r : Reads) (cpu : ℕ) (steps : List PlannedStep) (step : PlannedStep) (before after : Option ℕ) →
    before ≡ running_behind r cpu steps → after ≡ unwrap_or (runner_in cpu step) before →
    after ≡ running_behind r cpu (steps ++ step ∷ [])
running-more r cpu steps step before after e next =
    next ∙ ap (unwrap_or (runner_in cpu step)) e ∙ sym (last_else-push (runner_in cpu) steps step (on r cpu))

-- a step about the thread gives what its standing is then
pub record IsTaken (step : PlannedStep) (old new : Standing) : Type 0 where
  pub number : new.number ≡ capped (old.number + (if tells step then 1 else 0))
  pub phase : new.phase ≡ unwrap_or (phase_in step) old.phase
  pub mask : new.mask ≡ unwrap_or (mask_in step.deed) old.mask
  pub home : new.home ≡ unwrap_or (home_in step.deed) old.home
  pub on : new.on ≡ unwrap_or (place_in step) old.on

abbrev made : ℕ → Phase → ℕ → ℕ → Option ℕ → Standing
made number phase mask home on = record { number = number; phase = phase; mask = mask; home = home; on = on }

same_standing : (a b : Standing) → a.number ≡ b.number → a.phase ≡ b.phase → a.mask ≡ b.mask → a.home ≡ b.home → a.on ≡ b.on → a ≡ b
same_standing a b number phase mask home on =
    let e : made a.number a.phase a.mask a.home a.on ≡ made b.number b.phase b.mask b.home b.on = cc in e

about-more : (t : ℕ) (steps : List PlannedStep) (step : PlannedStep) → is_about t step ≡ true → steps_about t (steps ++ step ∷ []) ≡ steps_about t steps ++ step ∷ []
about-more t steps step about = filter-push (is_about t) steps step true about

number_pushed : (number : ℕ) (steps : List PlannedStep) (step : PlannedStep) →
    capped (capped (number + count_by tells steps) + (if tells step then 1 else 0)) ≡ capped (number + count_by tells (steps ++ step ∷ []))
number_pushed number steps step =
    capped-more number (count_by tells steps) (if tells step then 1 else 0)
    ∙ ap (λ n. capped (number + n)) (sym (sum_by_push (λ s. cond (tells s) 1 0) steps step))

-- how a thread stands behind one step more that is about it
pub stands-taken : (r : Reads) (t : ℕ) (steps : List PlannedStep) (step : PlannedStep) (old new : Standing) →
    is_about t step ≡ true → old ≡ stands_behind r t steps → IsTaken step old new →
    new ≡ stands_behind r t (steps ++ step ∷ [])
stands-taken r t steps step old new about e taken =
    let about' = steps_about t steps in
    rw (about-more t steps step about)
    (same_standing new _
    (taken.number ∙ ap (λ s. capped (s.number + (if tells step then 1 else 0))) e ∙ number_pushed (number_read r t) about' step)
    (taken.phase ∙ ap (λ s. unwrap_or (phase_in step) s.phase) e ∙ sym (last_else-push phase_in about' step _))
    (taken.mask ∙ ap (λ s. unwrap_or (mask_in step.deed) s.mask) e ∙ sym (last_else-push (λ s. mask_in s.deed) about' step _))
    (taken.home ∙ ap (λ s. unwrap_or (home_in step.deed) s.home) e ∙ sym (last_else-push (λ s. home_in s.deed) about' step _))
    (taken.on ∙ ap (λ s. unwrap_or (place_in step) s.on) e ∙ sym (last_else-push place_in about' step _)))

-- and behind one that is not
pub stands-kept : (r : Reads) (t : ℕ) (steps : List PlannedStep) (step : PlannedStep) →
    is_about t step ≡ false → stands_behind r t steps ≡ stands_behind r t (steps ++ step ∷ [])
stands-kept r t steps step about = rw (filter-push (is_about t) steps step false about, append-nil (steps_about t steps)) refl
