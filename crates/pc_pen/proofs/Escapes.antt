-- Texts of any bytes, as they are shown.
use Rattle.std.proofs.Common.{◌≡◌, ◌∙◌, ap, refl, ℕ, ◌+◌, ◌/◌, ◌%◌, ◌^◌, ◌-◌, ◌<◌, List, [], ◌∷◌, ◌++◌, Bool, true, false, not, ◌&&◌, eqb, nat_lt, cond, if◌then◌else◌, codes, decimal, arith}
use Rattle.std.specs.Fmt.{digits, padded_integral, format_spec}
use Rattle.std.specs.List.{list_all}
use Rattle.std.specs.Char.{digit_char}
use Rattle.std.specs.Char.Escape.{hex_digit_at}
use Rattle.std.proofs.lemmas.Fmt.{hex_byte}
use Rattle.std.proofs.lemmas.Bool.{lt-ltb}
use Rattle.pc_pen.proofs.Decimals.{decimal_passes}
use Rattle.std.proofs.lemmas.List.Folds.{list_all-append}
use Rattle.pc_pen.specs.Escapes.{IsPrinted, escaped, escaped_byte, is_printed, stands_for_itself}

-- what `\x{:02x}` writes of a byte that does not stand for itself
pub hex_escaped : (byte : ℕ) → byte < 256 → stands_for_itself byte ≡ false
    → 92 ∷ 120 ∷ padded_integral (format_spec 32 0 4 2 (2 ^ 64 - 1)) false [] (digits 16 false byte) ≡ escaped_byte byte
hex_escaped byte small other =
    let high : byte / 16 ≡ byte / 16 % 16 = omega arith in
    let low : byte % 16 ≡ byte / 1 % 16 = omega arith in
    ap (λ shown. 92 ∷ 120 ∷ shown) (hex_byte false byte small)
    ∙ ap (λ h. 92 ∷ 120 ∷ digit_char h ∷ digit_char (byte % 16) ∷ []) high
    ∙ ap (λ l. 92 ∷ 120 ∷ hex_digit_at 16 byte ∷ digit_char l ∷ []) low
    ∙ rw other refl

-- ---- what is shown is printed

abbrev ArePrinted : List ℕ → Type 0
ArePrinted text = list_all is_printed text ≡ true

printed_between : (byte : ℕ) → 31 < byte → byte < 127 → is_printed byte ≡ true
printed_between byte above below = rw (lt-ltb 31 byte above, lt-ltb byte 127 below) refl

digit_printed : (d : ℕ) → d < 16 → (low : Bool) → is_printed (cond low (48 + d) (87 + d)) ≡ true
digit_printed d less true = printed_between (48 + d) (omega arith) (omega arith)
digit_printed d less false = printed_between (87 + d) (omega arith) (omega arith)

two_printed : (one other : ℕ) → is_printed one ≡ true → is_printed other ≡ true → ArePrinted (one ∷ other ∷ [])
two_printed one other h k = rw (h, k) refl

hex_printed : (byte : ℕ) → IsPrinted (codes "\\x" ++ (hex_digit_at 16 byte ∷ hex_digit_at 1 byte ∷ []))
hex_printed byte =
    two_printed (hex_digit_at 16 byte) (hex_digit_at 1 byte) (digit_printed (byte / 16 % 16) (omega arith) (nat_lt (byte / 16 % 16) 10))
    (digit_printed (byte / 1 % 16) (omega arith) (nat_lt (byte / 1 % 16) 10))

byte_printed : (byte : ℕ) (printed other : Bool) → is_printed byte ≡ printed
    → IsPrinted (if printed && other then byte ∷ [] else (codes "\\x" ++ (hex_digit_at 16 byte ∷ hex_digit_at 1 byte ∷ [])))
byte_printed byte true true is = rw is refl
byte_printed byte true false is = hex_printed byte
byte_printed byte false other is = hex_printed byte

-- a text of any bytes, as it is shown, is printed ASCII
pub escaped_printed : (text : List ℕ) → ArePrinted (escaped text)
escaped_printed [] = refl
escaped_printed (byte ∷ more) =
    list_all-append is_printed (escaped_byte byte) (escaped more)
    ∙ ap (λ b. b && list_all is_printed (escaped more)) (byte_printed byte (is_printed byte) (not (eqb byte 92)) refl)
    ∙ escaped_printed more

-- a number is printed ASCII
pub decimal_printed : (n : ℕ) → ArePrinted (decimal n)
decimal_printed = decimal_passes is_printed (λ d less. printed_between (48 + d) (omega arith) (omega arith))
