-- Accounts, as time goes by.
use Rattle.std.proofs.Common.{◌≤◌, ℕ, List, Option, None, Some, IfSome, All, arith}
use Rattle.std.proofs.lemmas.List.Elements.{All-weaker}
use Rattle.pc_lab.specs.Times.{IsKept}
use Rattle.pc_lab.specs.declared.times.Account.{Account}

-- accounts that are not behind a tick are not behind a later one
pub kept_later : (tick now : ℕ) (accounts : List Account) → tick ≤ now → All (IsKept tick) accounts → All (IsKept now) accounts
kept_later tick now accounts later all =
    All-weaker (IsKept tick) (IsKept now) (λ account kept. record { whole = kept.whole; past = omega (arith, kept.past, later) }) accounts all

-- and neither is what was told last
pub told_later : (told : Option ℕ) (tick now : ℕ) → tick ≤ now → IfSome told (λ last. last ≤ tick) → IfSome told (λ last. last ≤ now)
told_later None tick now later past = past
told_later (Some last) tick now later past = omega (arith, past, later)
