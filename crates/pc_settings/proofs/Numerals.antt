-- Texts of steps.
use Rattle.std.proofs.Common.{ℕ, ◌≡◌, ◌^◌, ◌<◌, Bool, true, false, cond, ltb, ◌&&◌, List, Some, None, decimal, refl, ap, ◌∙◌, subst, arith, rules, tests}
use Rattle.std.specs.Prelude.{bytes_eq}
use Rattle.std.specs.Str.Parse.{digits_value}
use Rattle.std.proofs.lemmas.Fmt.{digits_value-decimal}
use Rattle.std.proofs.lemmas.Slice.Eq.{bytes_eq-Decides}
use Rattle.pc_messages.proofs.Bools.{both, first_true, second_true}
use Rattle.pc_script.proofs.Numerals.{own}
use Rattle.pc_settings.specs.Steps.{read_number}

-- a number is read as it is written
pub number_read : (text : List ℕ) (n : ℕ) → n < 2 ^ 32 → text ≡ decimal n → read_number text ≡ Some n
number_read text n small is =
    let value : digits_value 10 text ≡ n = ap (digits_value 10) is ∙ digits_value-decimal own n (omega arith) in
    let same : bytes_eq text (decimal n) ≡ true = (bytes_eq-Decides text (decimal n)).1 is in
    let below : ltb n (2 ^ 32) ≡ true = search (rules, tests) in
    ap (λ m. cond (ltb m (2 ^ 32) && bytes_eq text (decimal m)) (Some m) None) value
    ∙ ap (λ b. cond b (Some n) None) (both (ltb n (2 ^ 32)) (bytes_eq text (decimal n)) below same)

number_test : (text : List ℕ) (m n : ℕ) (test : Bool) → (ltb m (2 ^ 32) && bytes_eq text (decimal m)) ≡ test → cond test (Some m) None ≡ Some n → (text ≡ decimal n) × (n < 2 ^ 32)
number_test text m n true e h =
    let same : m ≡ n = cc in
    let small : ltb m (2 ^ 32) ≡ true = first_true (ltb m (2 ^ 32)) (bytes_eq text (decimal m)) e in
    let is : text ≡ decimal m = (bytes_eq-Decides text (decimal m)).0 (second_true (ltb m (2 ^ 32)) (bytes_eq text (decimal m)) e) in
    subst (λ k. (text ≡ decimal k) × (k < 2 ^ 32)) same (is, search (rules, tests))
number_test text m n false e h = cc

pub number_means : (text : List ℕ) (n : ℕ) → read_number text ≡ Some n → (text ≡ decimal n) × (n < 2 ^ 32)
number_means text n h = number_test text (digits_value 10 text) n _ refl h
