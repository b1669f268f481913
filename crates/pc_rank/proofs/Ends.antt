-- What codes end by is told by their last one.
use Rattle.std.specs.Prelude.{◌≡◌, ℕ, ◌-◌, ◌<◌, ◌≤◌, List, [], ◌∷◌, ◌++◌, length, take, slice_index_or, refl}
use Rattle.std.proofs.Common.{sym, ap, ◌∙◌, subst, append_assoc, arith, drop}
use Rattle.std.proofs.lemmas.List.{length-append, length-take, take_more}
use Rattle.std.proofs.Math.Seq.{take-length}
use Rattle.pc_rank.specs.Expressions.{Tree, Condition}
use Rattle.pc_rank.specs.Expressions as tree
use Rattle.pc_rank.specs.Inner.Ends.{AtExpression, AtTest, AtTwo}
use Rattle.pc_rank.specs.Layout.{layout, test_layout}
use Rattle.pc_rank.specs.declared.facts.Fact.{Fact}
use Rattle.pc_rank.specs.declared.operators.Comparison.{Comparison}
use Rattle.pc_rank.specs.declared.operators.Extreme.{Extreme}
use Rattle.pc_rank.specs.declared.operators.Joiner.{Joiner}
use Rattle.pc_rank.specs.declared.operators.Operator.{Operator}
use Rattle.pc_rank.specs.declared.code.Code.{Code}
use Rattle.pc_rank.specs.declared.code.Code.TheVariants as code

-- the last of two lists are the same, and so is what is in front
last_same : (xs ys : List Code) (x y : Code) → xs ++ x ∷ [] ≡ ys ++ y ∷ [] → (xs ≡ ys) × (x ≡ y)
last_same [] [] x y e = (refl, ap (λ l. slice_index_or l 0 x) e)
last_same [] (b ∷ ys) x y e = absurd (omega (arith, ap length e, length-append ys (y ∷ [])))
last_same (a ∷ xs) [] x y e = absurd (omega (arith, ap length e, length-append xs (x ∷ [])))
last_same (a ∷ xs) (b ∷ ys) x y e =
    let p = last_same xs ys x y (ap (drop 1) e) in
    (λ i. (ap (λ l. slice_index_or l 0 a) e i) ∷ (p.0 i), p.1)

-- codes are those in front of the last, and it
split : (codes : List Code) (d last : Code) → 1 ≤ length codes → slice_index_or codes (length codes - 1) d ≡ last
    → codes ≡ take (length codes - 1) codes ++ last ∷ []
split codes d last some is =
    sym (take-length codes) ∙ ap (λ n. take n codes) (omega arith)
    ∙ take_more codes (length codes - 1) d (omega arith) ∙ ap (λ c. take (length codes - 1) codes ++ c ∷ []) is

two : (front a b rest : List Code) → front ++ (a ++ b ++ rest) ≡ (front ++ a ++ b) ++ rest
two front a b rest = sym (append_assoc front (a ++ b) rest) ∙ ap (λ l. l ++ rest) (sym (append_assoc front a b))

three : (front a b c rest : List Code) → front ++ (a ++ b ++ c ++ rest) ≡ (front ++ a ++ b ++ c) ++ rest
three front a b c rest = sym (append_assoc front (a ++ b ++ c) rest) ∙ ap (λ l. l ++ rest) (sym (append_assoc front (a ++ b) c) ∙ ap (λ l. l ++ c) (sym (append_assoc front a b)))

-- what has to hold in front of the last code, for this to hold of the expression at the end
abbrev pub Met : (List Code → Tree → Type 0) → Code → List Code → Type 0
Met holds (code.Number number) init = holds init (tree.Number number)
Met holds (code.Given fact) init = holds init (tree.Given fact)
Met holds code.NoRank init = holds init tree.NoRank
Met holds (code.Infix operator) init = AtTwo init (λ front a b. holds front (tree.Infix operator a b))
Met holds (code.Call extreme) init = AtTwo init (λ front a b. holds front (tree.Call extreme a b))
Met holds code.Choice init =
    (front : List Code) (q : Condition) (a b : Tree) → init ≡ front ++ test_layout q ++ layout a ++ layout b
    → holds front (tree.Choice q a b)
Met holds (code.Compare comparison) init = Unit {0}
Met holds (code.Join joiner) init = Unit {0}
Met holds code.Negate init = Unit {0}

met_is : (holds : List Code → Tree → Type 0) (init front : List Code) (last : Code) (a : Tree)
    → init ++ last ∷ [] ≡ front ++ layout a → Met holds last init → holds front a
met_is holds init front last (tree.Number number) e met =
    let p = last_same init front last (code.Number number) e in
    subst (λ l. holds l (tree.Number number)) p.0 (subst (λ c. Met holds c init) p.1 met)
met_is holds init front last (tree.Given fact) e met =
    let p = last_same init front last (code.Given fact) e in
    subst (λ l. holds l (tree.Given fact)) p.0 (subst (λ c. Met holds c init) p.1 met)
met_is holds init front last tree.NoRank e met =
    let p = last_same init front last code.NoRank e in
    subst (λ l. holds l tree.NoRank) p.0 (subst (λ c. Met holds c init) p.1 met)
met_is holds init front last (tree.Infix operator a b) e met =
    let p = last_same init (front ++ layout a ++ layout b) last (code.Infix operator) (e ∙ two front (layout a) (layout b) _) in
    (subst (λ c. Met holds c init) p.1 met) front a b p.0
met_is holds init front last (tree.Call extreme a b) e met =
    let p = last_same init (front ++ layout a ++ layout b) last (code.Call extreme) (e ∙ two front (layout a) (layout b) _) in
    (subst (λ c. Met holds c init) p.1 met) front a b p.0
met_is holds init front last (tree.Choice q a b) e met =
    let p = last_same init (front ++ test_layout q ++ layout a ++ layout b) last code.Choice
    (e ∙ three front (test_layout q) (layout a) (layout b) _) in
    (subst (λ c. Met holds c init) p.1 met) front q a b p.0

-- a last code that is of no operator, word, name or number gives no rank
met_other : (holds : List Code → Tree → Type 0) (init : List Code) (last : Code) → ((x : ℕ) → last ≡ code.Number x → ⊥)
    → ((x : Fact) → last ≡ code.Given x → ⊥) → ((x : Operator) → last ≡ code.Infix x → ⊥)
    → ((x : Extreme) → last ≡ code.Call x → ⊥) → (last ≡ code.Choice → ⊥) → holds init tree.NoRank → Met holds last init
met_other holds init (code.Number x) n g i e c h = absurd (n x refl)
met_other holds init (code.Given x) n g i e c h = absurd (g x refl)
met_other holds init code.NoRank n g i e c h = h
met_other holds init (code.Infix x) n g i e c h = absurd (i x refl)
met_other holds init (code.Call x) n g i e c h = absurd (e x refl)
met_other holds init code.Choice n g i e c h = absurd (c refl)
met_other holds init (code.Compare x) n g i e c h = tt
met_other holds init (code.Join x) n g i e c h = tt
met_other holds init code.Negate n g i e c h = tt

pub at_expression : (holds : List Code → Tree → Type 0) (codes : List Code) (d last : Code)
    → 1 ≤ length codes → slice_index_or codes (length codes - 1) d ≡ last
    → Met holds last (take (length codes - 1) codes) → AtExpression codes holds
at_expression holds codes d last some is met front a e =
    met_is holds (take (length codes - 1) codes) front last a (sym (split codes d last some is) ∙ e) met

pub at_other : (holds : List Code → Tree → Type 0) (codes : List Code) (d : Code) → 1 ≤ length codes
    → ((x : ℕ) → slice_index_or codes (length codes - 1) d ≡ code.Number x → ⊥)
    → ((x : Fact) → slice_index_or codes (length codes - 1) d ≡ code.Given x → ⊥)
    → ((x : Operator) → slice_index_or codes (length codes - 1) d ≡ code.Infix x → ⊥)
    → ((x : Extreme) → slice_index_or codes (length codes - 1) d ≡ code.Call x → ⊥)
    → (slice_index_or codes (length codes - 1) d ≡ code.Choice → ⊥)
    → holds (take (length codes - 1) codes) tree.NoRank → AtExpression codes holds
at_other holds codes d some n g i e c h =
    at_expression holds codes d _ some refl (met_other holds _ (slice_index_or codes (length codes - 1) d) n g i e c h)

-- a last code that is of no expression
met_no_expression : (holds : List Code → Tree → Type 0) (init : List Code) (last : Code)
    → ((x : ℕ) → last ≡ code.Number x → ⊥) → ((x : Fact) → last ≡ code.Given x → ⊥) → (last ≡ code.NoRank → ⊥)
    → ((x : Operator) → last ≡ code.Infix x → ⊥) → ((x : Extreme) → last ≡ code.Call x → ⊥)
    → (last ≡ code.Choice → ⊥) → Met holds last init
met_no_expression holds init (code.Number x) n g r i e c = absurd (n x refl)
met_no_expression holds init (code.Given x) n g r i e c = absurd (g x refl)
met_no_expression holds init code.NoRank n g r i e c = absurd (r refl)
met_no_expression holds init (code.Infix x) n g r i e c = absurd (i x refl)
met_no_expression holds init (code.Call x) n g r i e c = absurd (e x refl)
met_no_expression holds init code.Choice n g r i e c = absurd (c refl)
met_no_expression holds init (code.Compare x) n g r i e c = tt
met_no_expression holds init (code.Join x) n g r i e c = tt
met_no_expression holds init code.Negate n g r i e c = tt

pub at_no_expression : (holds : List Code → Tree → Type 0) (codes : List Code) (d : Code) → 1 ≤ length codes
    → ((x : ℕ) → slice_index_or codes (length codes - 1) d ≡ code.Number x → ⊥)
    → ((x : Fact) → slice_index_or codes (length codes - 1) d ≡ code.Given x → ⊥)
    → (slice_index_or codes (length codes - 1) d ≡ code.NoRank → ⊥)
    → ((x : Operator) → slice_index_or codes (length codes - 1) d ≡ code.Infix x → ⊥)
    → ((x : Extreme) → slice_index_or codes (length codes - 1) d ≡ code.Call x → ⊥)
    → (slice_index_or codes (length codes - 1) d ≡ code.Choice → ⊥) → AtExpression codes holds
at_no_expression holds codes d some n g r i e c =
    at_expression holds codes d _ some refl (met_no_expression holds _ (slice_index_or codes (length codes - 1) d) n g r i e c)

-- an expression has a code, and so has a test
some_code : (front rest : List Code) (last : Code) → 1 ≤ length (front ++ (rest ++ last ∷ []))
some_code front rest last = omega (arith, length-append front (rest ++ last ∷ []), length-append rest (last ∷ []))

pub some_expression : (front : List Code) (a : Tree) → 1 ≤ length (front ++ layout a)
some_expression front (tree.Number number) = some_code front [] _
some_expression front (tree.Given fact) = some_code front [] _
some_expression front tree.NoRank = some_code front [] _
some_expression front (tree.Infix operator a b) = some_code front (layout a ++ layout b) _
some_expression front (tree.Call extreme a b) = some_code front (layout a ++ layout b) _
some_expression front (tree.Choice q a b) = some_code front (test_layout q ++ layout a ++ layout b) _

pub some_test : (front : List Code) (a : Condition) → 1 ≤ length (front ++ test_layout a)
some_test front (tree.Compare comparison a b) = some_code front (layout a ++ layout b) _
some_test front (tree.Join joiner a b) = some_code front (test_layout a ++ test_layout b) _
some_test front (tree.Negate a) = some_code front (test_layout a) _

-- so no codes end by none
pub at_nothing : (holds : List Code → Tree → Type 0) (codes : List Code) → length codes < 1 → AtExpression codes holds
at_nothing holds codes none front a e = absurd (omega (arith, some_expression front a, ap length e))

pub at_no_test : (holds : List Code → Condition → Type 0) (codes : List Code) → length codes < 1 → AtTest codes holds
at_no_test holds codes none front a e = absurd (omega (arith, some_test front a, ap length e))

-- the same of tests
abbrev pub MetTest : (List Code → Condition → Type 0) → Code → List Code → Type 0
MetTest holds (code.Number number) init = Unit {0}
MetTest holds (code.Given fact) init = Unit {0}
MetTest holds code.NoRank init = Unit {0}
MetTest holds (code.Infix operator) init = Unit {0}
MetTest holds (code.Call extreme) init = Unit {0}
MetTest holds code.Choice init = Unit {0}
MetTest holds (code.Compare comparison) init = AtTwo init (λ front a b. holds front (tree.Compare comparison a b))
MetTest holds (code.Join joiner) init =
    (front : List Code) (p q : Condition) → init ≡ front ++ test_layout p ++ test_layout q
    → holds front (tree.Join joiner p q)
MetTest holds code.Negate init = AtTest init (λ front q. holds front (tree.Negate q))

met_test : (holds : List Code → Condition → Type 0) (init front : List Code) (last : Code) (a : Condition)
    → init ++ last ∷ [] ≡ front ++ test_layout a → MetTest holds last init → holds front a
met_test holds init front last (tree.Compare comparison a b) e met =
    let p = last_same init (front ++ layout a ++ layout b) last (code.Compare comparison) (e ∙ two front (layout a) (layout b) _) in
    (subst (λ c. MetTest holds c init) p.1 met) front a b p.0
met_test holds init front last (tree.Join joiner a b) e met =
    let p = last_same init (front ++ test_layout a ++ test_layout b) last (code.Join joiner)
    (e ∙ two front (test_layout a) (test_layout b) _) in
    (subst (λ c. MetTest holds c init) p.1 met) front a b p.0
met_test holds init front last (tree.Negate a) e met =
    let p = last_same init (front ++ test_layout a) last code.Negate (e ∙ sym (append_assoc front (test_layout a) _)) in
    (subst (λ c. MetTest holds c init) p.1 met) front a p.0

pub at_test : (holds : List Code → Condition → Type 0) (codes : List Code) (d last : Code)
    → 1 ≤ length codes → slice_index_or codes (length codes - 1) d ≡ last
    → MetTest holds last (take (length codes - 1) codes) → AtTest codes holds
at_test holds codes d last some is met front a e =
    met_test holds (take (length codes - 1) codes) front last a (sym (split codes d last some is) ∙ e) met

-- a last code that is of no test
met_no_test : (holds : List Code → Condition → Type 0) (init : List Code) (last : Code)
    → ((x : Comparison) → last ≡ code.Compare x → ⊥) → ((x : Joiner) → last ≡ code.Join x → ⊥)
    → (last ≡ code.Negate → ⊥) → MetTest holds last init
met_no_test holds init (code.Number x) c j n = tt
met_no_test holds init (code.Given x) c j n = tt
met_no_test holds init code.NoRank c j n = tt
met_no_test holds init (code.Infix x) c j n = tt
met_no_test holds init (code.Call x) c j n = tt
met_no_test holds init code.Choice c j n = tt
met_no_test holds init (code.Compare x) c j n = absurd (c x refl)
met_no_test holds init (code.Join x) c j n = absurd (j x refl)
met_no_test holds init code.Negate c j n = absurd (n refl)

pub at_other_test : (holds : List Code → Condition → Type 0) (codes : List Code) (d : Code) → 1 ≤ length codes
    → ((x : Comparison) → slice_index_or codes (length codes - 1) d ≡ code.Compare x → ⊥)
    → ((x : Joiner) → slice_index_or codes (length codes - 1) d ≡ code.Join x → ⊥)
    → (slice_index_or codes (length codes - 1) d ≡ code.Negate → ⊥) → AtTest codes holds
at_other_test holds codes d some c j n =
    at_test holds codes d _ some refl (met_no_test holds _ (slice_index_or codes (length codes - 1) d) c j n)

pub take_le : (n : ℕ) (codes : List Code) → length (take n codes) ≤ length codes
take_le n codes = omega (arith, length-take n codes)
