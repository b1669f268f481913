-- Words that spell numbers: there is one way to part them at a dash, since numbers have none.
use Rattle.std.proofs.Common.{◌≡◌, ◌∙◌, ap₂, sym, subst, refl, ℕ, List, [], ◌∷◌, ◌++◌, true, false, not, eqb, Option, Some, None, MatchOption, inl, inr, decimal, arith}
use Rattle.std.specs.List.{list_all}
use Rattle.std.proofs.lemmas.Bool.{true≢false}
use Rattle.std.proofs.lemmas.List.Folds.{list_all-append}
use Rattle.pc_messages.proofs.Bools.{second_true}
use Rattle.pc_pen.proofs.Decimals.{decimal_without as without_byte}
use Rattle.pc_draw.specs.declared.part.Interval.{Interval}
use Rattle.pc_program.specs.Numbers.{IsBetween, IsWritten, SpellsNone}

-- a byte is a dash, or isn't
abbrev pub IsDash : ℕ → Type 0
IsDash b = eqb b 45 ≡ true

abbrev pub IsNoDash : ℕ → Type 0
IsNoDash b = eqb b 45 ≡ false

-- a word has no dash
abbrev pub HasNoDash : List ℕ → Type 0
HasNoDash word = list_all (λ b. not (eqb b 45)) word ≡ true

-- ---- numbers have no dash

decimal_without : (n : ℕ) → HasNoDash (decimal n)
decimal_without n = without_byte 45 (omega arith) n

-- ---- words with a dash

-- a word with a dash has one
dash_within : (front rest : List ℕ) → HasNoDash (front ++ 45 ∷ rest) → ⊥
dash_within front rest h =
    true≢false (sym (second_true (list_all (λ b. not (eqb b 45)) front) false (sym (list_all-append (λ b. not (eqb b 45)) front (45 ∷ rest)) ∙ h)))

-- what stands before the first dash, and behind it
parted : (front rest other more : List ℕ) → HasNoDash front → HasNoDash other → front ++ 45 ∷ rest ≡ other ++ 45 ∷ more
    → (front ≡ other) × (rest ≡ more)
parted [] rest [] more h k e = (refl, cc)
parted [] rest (o ∷ other) more h k e =
    let here : o ≡ 45 = cc in
    absurd (dash_within [] other (subst (λ b. HasNoDash (b ∷ other)) here k))
parted (f ∷ front) rest [] more h k e =
    let here : f ≡ 45 = cc in
    absurd (dash_within [] front (subst (λ b. HasNoDash (b ∷ front)) here h))
parted (f ∷ front) rest (o ∷ other) more h k e =
    let here : f ≡ o = cc in
    let behind : front ++ 45 ∷ rest ≡ other ++ 45 ∷ more = cc in
    let same = parted front rest other more (second_true (not (eqb f 45)) _ h) (second_true (not (eqb o 45)) _ k) behind in
    (ap₂ (λ x xs. x ∷ xs) here same.0, same.1)

-- ---- what a word spells

none_at_dash : (word first last : List ℕ) → word ≡ first ++ 45 ∷ last → HasNoDash first
    → ((numbers : Interval) → IsBetween first last numbers → ⊥) → SpellsNone word
none_at_dash word first last is without none numbers (inl (one, other, same, between)) =
    let one_without : HasNoDash one = subst HasNoDash (sym between.first_is) (decimal_without numbers.first) in
    let parts = parted first last one other without one_without (sym is ∙ same) in
    none numbers (record {
      first_is = parts.0 ∙ between.first_is;
      last_is = parts.1 ∙ between.last_is;
      ordered = between.ordered;
      small = between.small;
    })
none_at_dash word first last is without none numbers (inr between) =
    dash_within first last (subst HasNoDash (sym (between.first_is) ∙ is) (decimal_without numbers.first))

-- what a word spells that is parted at its first dash
pub spelled_at_dash : (read : Option Interval) (word first last : List ℕ) → word ≡ first ++ 45 ∷ last → HasNoDash first
    → MatchOption read ((numbers : Interval) → IsBetween first last numbers → ⊥) (λ numbers. IsBetween first last numbers)
    → MatchOption read (SpellsNone word) (λ numbers. IsWritten word numbers)
spelled_at_dash None word first last is without h = none_at_dash word first last is without h
spelled_at_dash (Some numbers) word first last is without h = inl (first, last, is, h)

-- what a word spells that has no dash
none_alone : (word : List ℕ) → HasNoDash word → ((numbers : Interval) → IsBetween word word numbers → ⊥) → SpellsNone word
none_alone word without none numbers (inl (one, other, same, between)) = dash_within one other (subst HasNoDash same without)
none_alone word without none numbers (inr between) = none numbers between

pub spelled_alone : (read : Option Interval) (word : List ℕ) → HasNoDash word
    → MatchOption read ((numbers : Interval) → IsBetween word word numbers → ⊥) (λ numbers. IsBetween word word numbers)
    → MatchOption read (SpellsNone word) (λ numbers. IsWritten word numbers)
spelled_alone None word without h = none_alone word without h
spelled_alone (Some numbers) word without h = inr h
