-- What is left of a number of bytes behind a text of known length.
use Rattle.std.specs.Prelude.{◌≡◌, ℕ, ◌-◌, ◌≤◌, List, length, Option, Some, None, SomeIff}
use Rattle.std.proofs.Common.{arith, is_none, false}
use Rattle.pc_rank.specs.Inner.Written.{Leaves}

pub leaves : (room n : ℕ) (text : List ℕ) (left : Option ℕ) → SomeIff left (n ≤ room) (room - n) → n ≡ length text
    → Leaves room text left
leaves room n text None h e = omega (arith, h, e)
leaves room n text (Some x) h e = omega (arith, h.0, h.1, e)

-- what leaves some is within them
pub is_short : (text : List ℕ) (left : Option ℕ) → is_none left ≡ false → Leaves 512 text left → length text ≤ 512
is_short text None some h = cc
is_short text (Some x) some h = omega (arith, h)
