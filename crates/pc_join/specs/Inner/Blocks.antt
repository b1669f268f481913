-- Words and blocks of names, and the bits of one.
use Rattle.std.specs.Prelude.{ℕ, ◌*◌, ◌/◌, ◌%◌, ◌<◌, ◌≤◌, ◌^◌, ◌≡◌, ◌==◌, ◌&&◌, not, Bool, true, false, List, Option}
use Rattle.std.specs.Prelude.{Some, None, IsSome, length, slice_index}
use Rattle.std.specs.BTreeMap.{BTreeMap, get}
use Rattle.std.specs.Int.{bit_at}
use Rattle.std.specs.Ordering.{nat_cmp}
use Rattle.pc_join.specs.declared.name_set.TheConstants.{DENSE}

-- the words have room for no name but those below the bound
abbrev pub HasFewWords : List ℕ → Type 0
HasFewWords words = 64 * length words ≤ DENSE

-- the word at the name's place has its bit; behind the last word there is no name
abbrev pub is_in_words : List ℕ → ℕ → Bool
is_in_words words name = bit_at (slice_index words (name / 64)) (name % 64) == 1

-- each name in the blocks fits 32 bits
abbrev pub HasShortBlocks : BTreeMap ℕ ℕ → Type 0
HasShortBlocks blocks = (block : ℕ) → IsSome (get nat_cmp blocks block) → block < 2 ^ 26

-- a block of 64 names has one
abbrev pub is_in_block : Option ℕ → ℕ → Bool
is_in_block None bit = false
is_in_block (Some word) bit = bit_at word bit == 1

-- the name's block has it
abbrev pub is_in_blocks : BTreeMap ℕ ℕ → ℕ → Bool
is_in_blocks blocks name = is_in_block (get nat_cmp blocks (name / 64)) (name % 64)

-- the word has the bit, and the others lack it
abbrev pub passes : ℕ → ℕ → ℕ → Bool
passes word others bit = (bit_at word bit == 1) && not (bit_at others bit == 1)

-- the least bit that passes the test, from one on; none does, where there is none
abbrev pub IsFirstBit : (ℕ → Bool) → ℕ → Option ℕ → Type 0
IsFirstBit test low None = (bit : ℕ) → low ≤ bit → bit < 64 → test bit ≡ false
IsFirstBit test low (Some first) =
    (low ≤ first) × (first < 64) × (test first ≡ true) × ((bit : ℕ) → low ≤ bit → bit < first → test bit ≡ false)
