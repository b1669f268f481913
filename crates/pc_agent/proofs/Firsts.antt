-- The first thread that stands somewhere: where all stand alike, and the search for it.
use Rattle.std.proofs.Common.{ℕ, ◌+◌, ◌<◌, ◌≤◌, ◌≡◌, ◌&&◌, ◌⊎◌, Bool, true, false, nat_lt, List, Option, Some, None, if◌then◌else◌, ap, refl, sym, ◌∙◌, subst, arith, inl, inr}
use Rattle.std.specs.Option.{option_map}
use Rattle.std.proofs.lemmas.Bool.{false≢true}
use Rattle.std.proofs.lemmas.Bool.Decides.{nat_tests}
use Rattle.pc_kernel.specs.Reads.{Reads}
use Rattle.pc_join.specs.NameSets.{FindsFrom}
use Rattle.pc_policy.specs.Rules.{Rules}
use Rattle.pc_run_queue.specs.Runs.{may_run}
use Rattle.pc_agent.specs.PlainAgent.{Knowledge, candidates, is_idle, is_wanted, may_take, standing}
use Rattle.pc_agent.specs.Running.{Finds, FindsFirst}
use Rattle.pc_agent.specs.Inner.Exactly.{earlier, exact_by}

-- the name was looked at: it is below the one that is looked at next, where there is one
abbrev pub IsPast : Option ℕ → ℕ → Type 0
IsPast None t = Unit {0}
IsPast (Some next) t = t < next

-- the thread stands somewhere, and first of those that were looked at
pub record IsFirstPast (stands : ℕ → Option ℕ) (next : Option ℕ) (place t : ℕ) : Type 0 where
  pub past : IsPast next t
  pub there : stands t ≡ Some place
  pub first : (other behind : ℕ) → IsPast next other → stands other ≡ Some behind → (place < behind) ⊎ ((place ≡ behind) × (t ≤ other))

-- this is the first of those that were looked at, with its place; none of them stands anywhere, where there is none
abbrev pub FirstPast : (ℕ → Option ℕ) → Option ℕ → Option (ℕ × ℕ) → Type 0
FirstPast stands next None = (t : ℕ) → IsPast next t → stands t ≡ None
FirstPast stands next (Some row) = IsFirstPast stands next row.0 row.1

below_or_at : (t n : ℕ) → t < n + 1 → (t < n) ⊎ (t ≡ n)
below_or_at t n e = grind arith

lower : (t n m : ℕ) → t < n → n ≤ m → t < m
lower t n m e f = grind arith

below_next : (t n : ℕ) → t < n → t < n + 1
below_next t n e = grind arith

at_next : (n : ℕ) → n < n + 1
at_next n = grind arith

below_at : (t n : ℕ) → t < n → t ≤ n
below_at t n e = grind arith

test_lt : (a b : ℕ) → nat_lt a b ≡ true → a < b
test_lt a b e = grind (arith, nat_tests)

test_le : (a b : ℕ) → nat_lt a b ≡ false → (b < a) ⊎ (b ≡ a)
test_le a b e = grind (arith, nat_tests)

before_both : (p q r : ℕ) → p < q → (q < r) ⊎ (q ≡ r) → p < r
before_both p q r e f = grind arith

either : (a b : ℕ) (Q : Type 0) → (a < b) ⊎ ((a ≡ b) × Q) → (a < b) ⊎ (a ≡ b)
either a b Q (inl less) = inl less
either a b Q (inr same) = inr same.0

-- one name more is looked at
module _ (stands : ℕ → Option ℕ) (t : ℕ) where
  pub looked : (first : Option (ℕ × ℕ)) (place : Option ℕ) → stands t ≡ place → FirstPast stands (Some t) first → FirstPast stands (Some (t + 1)) (earlier first place t)
  looked None None at h = λ other low. elim (below_or_at other t low) [
    | inl less ↦ h other less
    | inr same ↦ ap stands same ∙ at
  ]
  looked (Some row) None at h = record {
    past = below_next row.1 t h.past;
    there = h.there;
    first = λ other behind low e. elim (below_or_at other t low) [
      | inl less ↦ h.first other behind less e
      | inr same ↦ absurd (let here : stands other ≡ None = ap stands same ∙ at in let none : ⊥ = cc in none)
    ];
  }
  looked None (Some place) at h = record {
    past = at_next t;
    there = at;
    first = λ other behind low e. elim (below_or_at other t low) [
      | inl less ↦ absurd (let here : stands other ≡ None = h other less in let none : ⊥ = cc in none)
      | inr same ↦ let here : stands other ≡ Some place = ap stands same ∙ at in let both : place ≡ behind = cc in inr (both, subst (λ n. t ≤ n) (sym same) (omega arith))
    ];
  }
  looked (Some row) (Some place) at h = by_test (nat_lt place row.0) refl
    where
      by_test : (b : Bool) → nat_lt place row.0 ≡ b → FirstPast stands (Some (t + 1)) (if b then Some (place, t) else Some row)
      by_test true less = record {
        past = at_next t;
        there = at;
        first = λ other behind low e. elim (below_or_at other t low) [
          | inl before ↦ inl (before_both place row.0 behind (test_lt place row.0 less) (either row.0 behind (row.1 ≤ other) (h.first other behind before e)))
          | inr same ↦ let here : stands other ≡ Some place = ap stands same ∙ at in let both : place ≡ behind = cc in inr (both, subst (λ n. t ≤ n) (sym same) (omega arith))
        ];
      }
      by_test false unheld = record {
        past = below_next row.1 t h.past;
        there = h.there;
        first = λ other behind low e. elim (below_or_at other t low) [
          | inl before ↦ h.first other behind before e
          | inr same ↦
              let here : stands other ≡ Some place = ap stands same ∙ at in
              let both : place ≡ behind = cc in
              elim (test_le place row.0 unheld) [
                | inl less ↦ inl (subst (λ n. row.0 < n) both less)
                | inr even ↦ inr (even ∙ both, subst (λ n. row.1 ≤ n) (sym same) (below_at row.1 t h.past))
              ]
        ];
      }

-- the names up to the next one that is wanted stand nowhere
module _ (stands : ℕ → Option ℕ) (wanted : ℕ → Bool) (unwanted : (t : ℕ) → wanted t ≡ false → stands t ≡ None) (t : ℕ) where
  cases_at : (a b : ℕ) → (a < b) ⊎ (b ≤ a)
  cases_at a b = grind arith

  pub moved : (next : Option ℕ) (first : Option (ℕ × ℕ)) → FindsFrom wanted (t + 1) next → FirstPast stands (Some (t + 1)) first → FirstPast stands next first
  moved None None found h = λ other past. elim (cases_at other (t + 1)) [
    | inl low ↦ h other low
    | inr high ↦ unwanted other (found other high)
  ]
  moved (Some next) None found h = λ other past. elim (cases_at other (t + 1)) [
    | inl low ↦ h other low
    | inr high ↦ unwanted other (found.least other high past)
  ]
  moved None (Some row) found h = record {
    past = tt;
    there = h.there;
    first = λ other behind past e. elim (cases_at other (t + 1)) [
      | inl low ↦ h.first other behind low e
      | inr high ↦ absurd (let here : stands other ≡ None = unwanted other (found other high) in let none : ⊥ = cc in none)
    ];
  }
  moved (Some next) (Some row) found h = record {
    past = lower row.1 (t + 1) next h.past found.reached;
    there = h.there;
    first = λ other behind past e. elim (cases_at other (t + 1)) [
      | inl low ↦ h.first other behind low e
      | inr high ↦ absurd (let here : stands other ≡ None = unwanted other (found.least other high past) in let none : ⊥ = cc in none)
    ];
  }

-- the name is wanted, where there is one
abbrev pub IsWanted : (ℕ → Bool) → Option ℕ → Type 0
IsWanted wanted None = Unit {0}
IsWanted wanted (Some t) = wanted t ≡ true

pub wanted_from : (wanted : ℕ → Bool) (from : ℕ) (next : Option ℕ) → FindsFrom wanted from next → IsWanted wanted next
wanted_from wanted from None found = tt
wanted_from wanted from (Some t) found = found.passes

pub wanted_least : (wanted : ℕ → Bool) (least : Option ℕ) → Finds wanted least → IsWanted wanted least
wanted_least wanted None found = tt
wanted_least wanted (Some t) found = found.passes

-- what is looked for by an agent
module _ (rules : Rules) (r : Reads) (known : Knowledge) (cpu : ℕ) (list : List ℕ) where
  abbrev Runs : ℕ → Bool
  Runs t = may_run (known.reported t) cpu

  abbrev Stands : ℕ → Option ℕ
  Stands = candidates rules r known cpu list

  pub nowhere : (t : ℕ) → is_wanted Runs list t ≡ false → Stands t ≡ None
  nowhere t e = ap (λ b. if b && is_idle r t then standing rules r known cpu t else None) e

  pub somewhere : (t : ℕ) → is_wanted Runs list t ≡ true → Stands t ≡ (if is_idle r t then standing rules r known cpu t else None)
  somewhere t e = ap (λ b. if b && is_idle r t then standing rules r known cpu t else None) e

  pub none_past : (least : Option ℕ) → Finds (is_wanted Runs list) least → FirstPast Stands least None
  none_past None found = λ t past. nowhere t (found t)
  none_past (Some least) found = λ t past. nowhere t (found.least t past)

pub all_looked : (stands : ℕ → Option ℕ) (first : Option (ℕ × ℕ)) → FirstPast stands None first → FindsFirst stands (option_map (λ row. row.1) first)
all_looked stands None h = λ t. h t tt
all_looked stands (Some row) h = record { place = row.0; there = h.there; first = λ other behind e. h.first other behind tt e }

-- where all that pass a test stand alike, the first of them is the least
module _ (test : ℕ → Bool) (stands : ℕ → Option ℕ) (passes : (t : ℕ) → test t ≡ true → stands t ≡ Some 0) (fails : (t : ℕ) → test t ≡ false → stands t ≡ None) where
  alike : (t place : ℕ) → stands t ≡ Some place → (test t ≡ true) × (place ≡ 0)
  alike t place e = by_test (test t) refl
    where
      by_test : (b : Bool) → test t ≡ b → (test t ≡ true) × (place ≡ 0)
      by_test true held = (held, let here : stands t ≡ Some 0 = passes t held in cc)
      by_test false unheld = absurd (let here : stands t ≡ None = fails t unheld in let none : ⊥ = cc in none)

  pub least_first : (found : Option ℕ) → Finds test found → FindsFirst stands found
  least_first None h = λ t. fails t (h t)
  least_first (Some t) h = record {
    place = 0;
    there = passes t h.passes;
    first = λ other behind e. let two = alike other behind e in inr (sym two.1, not_less other two.0);
  }
    where
      not_below : (a b : ℕ) → (a < b) ⊎ (b ≤ a)
      not_below a b = grind arith

      not_less : (other : ℕ) → test other ≡ true → t ≤ other
      not_less other held = elim (not_below other t) [
        | inl less ↦ absurd (false≢true (sym (h.least other less) ∙ held))
        | inr at_least ↦ at_least
      ]

  pub first_least : (found : Option ℕ) → FindsFirst stands found → Finds test found
  first_least None h = λ t. by_test t (test t) refl
    where
      by_test : (t : ℕ) (b : Bool) → test t ≡ b → test t ≡ false
      by_test t true held = absurd (let here : stands t ≡ Some 0 = passes t held in let not : stands t ≡ None = h t in let none : ⊥ = cc in none)
      by_test t false unheld = unheld
  first_least (Some t) h = record {
    passes = (alike t h.place h.there).0;
    least = λ other low. by_test other (test other) refl low;
  }
    where
      not_first : (other place : ℕ) → other < t → place ≡ 0 → (place < 0) ⊎ ((place ≡ 0) × (t ≤ other)) → ⊥
      not_first other place low is (inl less) = absurd (omega arith)
      not_first other place low is (inr both) = let late : t ≤ other = both.1 in omega arith

      by_test : (other : ℕ) (b : Bool) → test other ≡ b → other < t → test other ≡ false
      by_test other true held low = absurd (not_first other h.place low (alike t h.place h.there).1 (h.first other 0 (passes other held)))
      by_test other false unheld low = unheld

-- where steals are not exact
module _ (rules : Rules) (r : Reads) (known : Knowledge) (cpu : ℕ) (list : List ℕ) (usual : rules.exact ≡ false) where
  abbrev Test : ℕ → Bool
  Test = may_take r (λ t. may_run (known.reported t) cpu) list

  stands_at_none : (t : ℕ) → standing rules r known cpu t ≡ Some 0
  stands_at_none t = stands rules.exact usual
    where
      stands : (b : Bool) → b ≡ false → (if b then standing (exact_by rules.ranks) r known cpu t else Some 0) ≡ Some 0
      stands true e = absurd (false≢true (sym e))
      stands false e = refl

  passes : (t : ℕ) → Test t ≡ true → candidates rules r known cpu list t ≡ Some 0
  passes t e = ap (λ b. if b then standing rules r known cpu t else None) e ∙ stands_at_none t

  fails : (t : ℕ) → Test t ≡ false → candidates rules r known cpu list t ≡ None
  fails t e = ap (λ b. if b then standing rules r known cpu t else None) e

  pub by_least : (found : Option ℕ) → Finds Test found → FindsFirst (candidates rules r known cpu list) found
  by_least = least_first Test (candidates rules r known cpu list) passes fails

  pub by_first : (found : Option ℕ) → FindsFirst (candidates rules r known cpu list) found → Finds Test found
  by_first = first_least Test (candidates rules r known cpu list) passes fails
