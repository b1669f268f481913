-- What clap reads of an option that takes a number is the number that its word spells.
use Rattle.std.proofs.Common.{◌≡◌, ℕ, List, Option, Some, None, Result, Ok, Err, refl}
use Rattle.std.specs.Str.Parse.{ParsesUnsigned}
use Rattle.clap.specs.Matches.{ReadsOne}
use Rattle.pc_program.specs.CommandLine.{IsNumber}

pub told : {E : Type 0} (bits : ℕ) (gives : List ℕ → Result ℕ E → Type 0) → ((text : List ℕ) (r : Result ℕ E) → gives text r → ParsesUnsigned bits 10 text r)
    → (word : Option (List ℕ)) (given : Option ℕ) → (word ≡ None → given ≡ None) → ((t : List ℕ) → word ≡ Some t → ReadsOne gives t given) → IsNumber bits word given
told bits gives parses None given none some = none refl
told bits gives parses (Some t) (Some n) none some = let read = parses t (Ok n) (some t refl) in (read.0.0, read.0.1, read.1)
told bits gives parses (Some t) None none some = let fault = some t refl in λ spelled. parses t (Err fault.0) fault.1 spelled
