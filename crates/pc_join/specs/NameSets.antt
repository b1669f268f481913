-- Sets of names.
use Rattle.std.specs.Prelude.{ℕ, ◌<◌, ◌≤◌, ◌≡◌, Bool, true, false, ltb, if◌then◌else◌, Option, Some, None}
use Rattle.pc_join.specs.Inner.Blocks.{is_in_blocks, is_in_words}
use Rattle.pc_join.specs.declared.name_set.NameSet.{NameSet}
use Rattle.pc_join.specs.declared.name_set.TheConstants.{DENSE}

-- the set has the name: below the bound its word has it, from there on its block
abbrev pub is_in : NameSet → ℕ → Bool
is_in set name = if ltb name DENSE then is_in_words set.words.items name else is_in_blocks set.blocks name

-- the name passes the test, and no lesser one does, of those from one on; it fits 32 bits
pub record IsFirstFrom (test : ℕ → Bool) (from name : ℕ) : Type 0 where
  pub reached : from ≤ name
  pub passes : test name ≡ true
  pub least : (other : ℕ) → from ≤ other → other < name → test other ≡ false

-- this is the least name from one on that passes the test; none is, where no such name passes
abbrev pub FindsFrom : (ℕ → Bool) → ℕ → Option ℕ → Type 0
FindsFrom test from None = (name : ℕ) → from ≤ name → test name ≡ false
FindsFrom test from (Some name) = IsFirstFrom test from name
