-- The walk of a steal over the threads that are wanted, in search of one that the kernel lets it take.
use Rattle.std.proofs.Common.{ℕ, ◌+◌, ◌-◌, ◌^◌, ◌<◌, ◌≤◌, ◌≡◌, ◌&&◌, ◌⊎◌, Bool, true, false, List, Option, Some, None, ap, ◌∙◌, arith, inl, inr}
use Rattle.pc_kernel.specs.Reads.{Reads}
use Rattle.pc_agent.specs.PlainAgent.{is_idle, is_wanted, may_take}
use Rattle.pc_join.specs.NameSets.{FindsFrom}

in_order : (a b : ℕ) → (a < b) ⊎ ((a ≡ b) ⊎ (b + 1 ≤ a))
in_order a b = grind arith

-- this thread is wanted, and none before it may be taken; none may, where none is left
abbrev pub IsAt : (ℕ → Bool) → (ℕ → Bool) → Option ℕ → Type 0
IsAt wanted takes None = (t : ℕ) → takes t ≡ false
IsAt wanted takes (Some t) = (wanted t ≡ true) × ((other : ℕ) → other < t → takes other ≡ false)

-- how many names are left to look at
abbrev pub names_left : Option ℕ → ℕ
names_left None = 0
names_left (Some t) = 2 ^ 32 + 1 - t

-- from a thread that the kernel has on a CPU, or does not know, to the next that is wanted
module _ (r : Reads) (runs : ℕ → Bool) (list : List ℕ) (t : ℕ) (here : IsAt (is_wanted runs list) (may_take r runs list) (Some t)) (idle : is_idle r t ≡ false) where
  not_taken : (other : ℕ) → is_wanted runs list other ≡ false → may_take r runs list other ≡ false
  not_taken other e = ap (λ b. b && is_idle r other) e

  same_not_taken : (other : ℕ) → other ≡ t → may_take r runs list other ≡ false
  same_not_taken other same = ap (may_take r runs list) same ∙ ap (λ b. b && is_idle r t) here.0 ∙ idle

  pub went_on : (next : Option ℕ) → FindsFrom (is_wanted runs list) (t + 1) next → IsAt (is_wanted runs list) (may_take r runs list) next
  went_on None none = λ other. elim (in_order other t) [
    | inl less ↦ here.1 other less
    | inr (inl same) ↦ same_not_taken other same
    | inr (inr more) ↦ not_taken other (none other more)
  ]
  went_on (Some next) found = (
    found.passes,
    λ other low. elim (in_order other t) [
      | inl less ↦ here.1 other less
      | inr (inl same) ↦ same_not_taken other same
      | inr (inr more) ↦ not_taken other (found.least other more low)
    ],
  )
