-- One step more, which has its thread, queue and number.
use Rattle.std.proofs.Common.{◌≡◌, ℕ, zero, suc, ◌≤◌, ◌<◌, List, [], ◌∷◌, ◌++◌, take, length, Option, Some, None, slice_get, ◌∙◌, ap, refl, sym, subst, arith}
use Rattle.std.proofs.lemmas.List.{take_all, take-append-le}
use Rattle.std.proofs.lemmas.Option.{slice_get_within}
use Rattle.pc_kernel.specs.Reads.{Reads}
use Rattle.pc_advice.specs.Behind.{AreNoted, IsNoted}
use Rattle.pc_advice.specs.declared.plan.PlannedStep.{PlannedStep}

-- an element of a list with one more at its end is one of the list, or the last one
pushed : {A P : Type 0} (xs : List A) (y : A) (k : ℕ) (x : A) → slice_get (xs ++ y ∷ []) k ≡ Some x → (slice_get xs k ≡ Some x → P) → (k ≡ length xs → x ≡ y → P) → P
pushed [] y zero x e inner last = last refl (cc)
pushed [] y (suc k) x e inner last = cc
pushed (z ∷ xs) y zero x e inner last = inner e
pushed (z ∷ xs) y (suc k) x e inner last = pushed xs y k x e inner (λ at is. last (ap suc at) is)

pub noted-first : (r : Reads) → AreNoted r []
noted-first r k step e = cc

pub noted-push : (r : Reads) (steps : List PlannedStep) (step : PlannedStep) → AreNoted r steps → IsNoted r steps step → AreNoted r (steps ++ step ∷ [])
noted-push r steps step all here k one e =
    pushed steps step k one e
    (λ there.
    let low : k ≤ length steps = omega (arith, slice_get_within steps k one there) in
    subst (λ some. IsNoted r some one) (sym (take-append-le k steps (step ∷ []) low)) (all k one there))
    (λ at is.
    let low : k ≤ length steps = omega arith in
    let high : length steps ≤ k = omega arith in
    subst (λ some. IsNoted r some one) (sym (take-append-le k steps (step ∷ []) low ∙ take_all k steps high))
    (subst (λ some. IsNoted r steps some) (sym is) here))

pub noted-behind : (r other : Reads) (before others steps : List PlannedStep) (step : PlannedStep) → AreNoted r before → IsNoted other others step →
    other ≡ r → others ≡ before → steps ≡ before ++ step ∷ [] → AreNoted r steps
noted-behind r other before others steps step all here reads same is =
    subst (AreNoted r) (sym is)
    (noted-push r before step all (subst (λ some. IsNoted r some step) same (subst (λ some. IsNoted some others step) reads here)))
