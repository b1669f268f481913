-- Taking the words of a line one after another.
use Rattle.std.specs.Prelude.{◌≡◌, ◌==◌, ◌<◌, ◌^◌, ℕ, List, ◌∷◌, Option, Some, None, MatchOption, decimal, drop, get_or}
use Rattle.std.specs.Prelude.{length, take}
use Rattle.std.specs.List.{position_or_len}
use Rattle.pc_script.specs.Text.{words}
use Rattle.pc_script.specs.declared.words.Words.{Words}

-- the words that are left
abbrev pub words_left : Words → List (List ℕ)
words_left state = words state.rest.now

-- where the first space is, or the end
abbrev pub word_end : List ℕ → ℕ
word_end text = position_or_len (λ b. b == 32) text

-- a text's first byte, if there is one, is no space
abbrev pub StartsWithNoSpace : List ℕ → Type 0
StartsWithNoSpace text = 0 < length text → get_or text 0 0 ≡ 32 → ⊥

-- the text up to its first space was taken exactly where it is a number below 2 ^ 64, and this is what is left
-- behind it
abbrev pub IsTaken : List ℕ → List ℕ → Option ℕ → Type 0
IsTaken text after r = MatchOption r
    ((n : ℕ) → n < 2 ^ 64 → take (word_end text) text ≡ decimal n → ⊥)
    (λ n. (n < 2 ^ 64) × (take (word_end text) text ≡ decimal n) × (after ≡ drop (word_end text) text))

-- the next word was taken exactly where it is the name of a number below the bound
abbrev pub TakesNumber : ℕ → (ℕ → List ℕ) → List (List ℕ) → List (List ℕ) → Option ℕ → Type 0
TakesNumber bound name before after None = (n : ℕ) → n < bound → (others : List (List ℕ)) → before ≡ name n ∷ others → ⊥
TakesNumber bound name before after (Some n) = (n < bound) × (before ≡ name n ∷ after)
