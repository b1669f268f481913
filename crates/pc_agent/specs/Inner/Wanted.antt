-- How far no thread is wanted, the first that is, and the names among which it has to be looked for.
use Rattle.std.specs.Prelude.{ℕ, ◌^◌, ◌<◌, ◌≤◌, ◌≡◌, Bool, true, false, List, Option, Some, None}
use Rattle.std.specs.Option.{ForSome}
use Rattle.pc_join.specs.NameSets.{is_in}
use Rattle.pc_join.specs.declared.name_set.NameSet.{NameSet}
use Rattle.pc_agent.specs.PlainAgent.{is_wanted}

-- no thread below the number is wanted
abbrev pub IsNoneWantedBelow : ℕ → (ℕ → Bool) → List ℕ → Type 0
IsNoneWantedBelow number runs list = (t : ℕ) → t < number → is_wanted runs list t ≡ false

-- each number that passes the test fits 32 bits
abbrev pub AreShort : (ℕ → Bool) → Type 0
AreShort test = (t : ℕ) → test t ≡ true → t < 2 ^ 32

-- no number from one on passes the test before this one; none does at all, where there is no such number
abbrev pub IsNoneBefore : (ℕ → Bool) → ℕ → Option ℕ → Type 0
IsNoneBefore test from None = (t : ℕ) → from ≤ t → test t ≡ false
IsNoneBefore test from (Some name) = (from ≤ name) × (name < 2 ^ 32) × ((t : ℕ) → from ≤ t → t < name → test t ≡ false)

-- the names are those of the numbers that pass the test, but for some; each of these numbers fits 32 bits
abbrev pub HasAllBut : (ℕ → Bool) → (ℕ → Bool) → NameSet → Type 0
HasAllBut but test names = (t : ℕ) → but t ≡ false → (is_in names t ≡ test t) × (test t ≡ true → t < 2 ^ 32)

-- the same, where names are kept
abbrev pub HoldsAllBut : (ℕ → Bool) → (ℕ → Bool) → Option (NameSet) → Type 0
HoldsAllBut but test kept = ForSome kept (HasAllBut but test)

-- where names are kept, they are those of the numbers that pass the test, and each of these fits 32 bits
abbrev pub HoldsAll : (ℕ → Bool) → Option (NameSet) → Type 0
HoldsAll test kept = ForSome kept (HasAllBut (λ t. false) test)
