-- What is read of a text is its expression.
use Rattle.std.proofs.Common.{◌≡◌, ℕ, ◌<◌, ◌≤◌, ◌↔◌, ◌&&◌, leb, Bool, true, false, cond, List, length, inr, ⊎_elim, Option, Some, None, Result, Ok, Err, refl, sym, ap, subst, ◌∙◌, arith}
use Rattle.std.specs.List.{count_by}
use Rattle.std.proofs.lemmas.Bool.Decides.{nat_tests}
use Rattle.pc_rank.specs.Expressions.{Tree}
use Rattle.pc_rank.specs.Grammar.{IsExpression}
use Rattle.pc_rank.specs.Inner.Cutting.{tokens_of}
use Rattle.pc_rank.specs.Inner.Limits.{IsNoTree, IsPlaced, IsTooMany}
use Rattle.pc_rank.specs.Inner.Reading.{whole}
use Rattle.pc_rank.specs.Reading.{IsOfLongTree, IsReadable, IsText, Refuses, expression_of, nodes, limited}
use Rattle.pc_rank.specs.Texts.{text_of}
use Rattle.pc_rank.specs.Tokens.{is_node}
use Rattle.pc_rank.specs.declared.fault.RankFault.{RankFault}
use Rattle.pc_rank.specs.declared.fault.RankFault.TheVariants as fault
use Rattle.pc_rank.specs.declared.halt.Halt.{Halt}
use Rattle.pc_rank.specs.declared.token.Token.{Token}
use Rattle.pc_rank.proofs.Complete.{whole_complete}
use Rattle.pc_rank.proofs.Cuts.{HasTokens}
use Rattle.pc_rank.proofs.Cutting.{both, has_tokens}
use Rattle.pc_rank.proofs.Derived.{expression_makes_nodes}
use Rattle.pc_rank.proofs.Sound.{ok_same, whole_sound}
use Rattle.pc_rank.proofs.Spelling.{text_is_read}

-- what a reader of bytes found is what the text has
pub has_found : (text : List ℕ) (tokens : List Token) → tokens ≡ tokens_of text → HasTokens text tokens
has_found text tokens is = subst (HasTokens text) (sym is) (has_tokens text)

derived_of : (text : List ℕ) (tokens : List Token) (a : Tree) → HasTokens text tokens → IsText text a → IsExpression 16 tokens a
derived_of text tokens a has h = subst (λ ts. IsExpression 16 ts a) (has.only h.tokens h.spelled) h.derived

pub too_many : (text : List ℕ) (tokens : List Token) (f : RankFault) → HasTokens text tokens → IsTooMany tokens f → Refuses text f
too_many text tokens (fault.TooManyNodes at) has many = λ a h.
    let count = (expression_makes_nodes 16 tokens a (derived_of text tokens a has h)).count in
    omega (arith, count, many)
too_many text tokens (fault.Wanted at w) has many = absurd many
too_many text tokens fault.TooLong has many = absurd many
too_many text tokens (fault.TooDeep at) has many = absurd many

pub no_tree : (text : List ℕ) (tokens : List Token) (f : RankFault) → HasTokens text tokens → IsNoTree tokens f → Refuses text f
no_tree text tokens (fault.Wanted at w) has none = λ a h. none a (whole_complete tokens a (derived_of text tokens a has h))
no_tree text tokens (fault.TooDeep at) has none = λ a h. none a (whole_complete tokens a (derived_of text tokens a has h))
no_tree text tokens (fault.TooManyNodes at) has none = absurd none
no_tree text tokens fault.TooLong has none = absurd none

pub text_is : (text : List ℕ) (tokens : List Token) (a : Tree) → HasTokens text tokens → whole tokens ≡ Ok a → IsText text a
text_is text tokens a has e =
    let derived = whole_sound tokens a e in
    record { tokens = tokens; spelled = has.sound (expression_makes_nodes 16 tokens a derived).known; derived = derived }

few_nodes : (tokens : List Token) (a : Tree) → whole tokens ≡ Ok a → count_by is_node tokens ≤ 64 → nodes a ≤ 64
few_nodes tokens a e few =
    let count = (expression_makes_nodes 16 tokens a (whole_sound tokens a e)).count in
    omega (arith, count, few)

pub only : (text : List ℕ) (tokens : List Token) (a : Tree) → HasTokens text tokens → whole tokens ≡ Ok a → (b : Tree) → IsText text b → a ≡ b
only text tokens a has e b h = ok_same (sym e ∙ whole_complete tokens b (derived_of text tokens b has h))

pub none_read : (tokens : List Token) (h : Halt) (f : RankFault) → whole tokens ≡ Err h → IsPlaced f → IsNoTree tokens f
none_read tokens h (fault.Wanted at w) e is = λ a read. let no : Err h ≡ Ok a = sym e ∙ read in cc
none_read tokens h (fault.TooDeep at) e is = λ a read. let no : Err h ≡ Ok a = sym e ∙ read in cc
none_read tokens h (fault.TooManyNodes at) e is = absurd is
none_read tokens h fault.TooLong e is = absurd is

pub readable : (text : List ℕ) (tokens : List Token) (a : Tree) → HasTokens text tokens → whole tokens ≡ Ok a → count_by is_node tokens ≤ 64 → length (text_of a) ≤ 512 → IsReadable a
readable text tokens a has e few short =
    record { text = text_is_read text a (text_is text tokens a has e); short = short; few = few_nodes tokens a e few }

pub too_long : (text : List ℕ) (tokens : List Token) (a : Tree) → HasTokens text tokens → whole tokens ≡ Ok a → 512 < length (text_of a) → Refuses text fault.TooLong
too_long text tokens a has e long = inr (record {
  tree = a;
  text_is = text_is text tokens a has e;
  long = λ b h. subst (λ c. 512 < length (text_of c)) (only text tokens a has e b h) long;
})

-- a text has one expression at most
pub one_tree : (text : List ℕ) (a b : Tree) → IsText text a → IsText text b → a ≡ b
one_tree text a b h k =
    only text (tokens_of text) a (has_tokens text) (whole_complete (tokens_of text) a (derived_of text (tokens_of text) a (has_tokens text) h)) b k

-- ---- the expression as a function of the text

within : (a b : ℕ) → leb a b ≡ true → a ≤ b
within a b e = grind (arith, nat_tests)

is_within : (a b : ℕ) → a ≤ b → leb a b ≡ true
is_within a b h = grind (arith, nat_tests)

-- what a test lets through
chosen : {A : Type 0} (b : Bool) (x : A) (o : Option A) → cond b o None ≡ Some x → (b ≡ true) × (o ≡ Some x)
chosen true x o e = (refl, e)
chosen false x o e = cc

-- an expression that was found, within the limits
record IsWithin (found : Result Tree Halt) (a : Tree) : Type 0 where
  is : found ≡ Ok a
  few : nodes a ≤ 64
  short : length (text_of a) ≤ 512

within_is : (found : Result Tree Halt) (a : Tree) → limited found ≡ Some a → IsWithin found a
within_is (Err halt) a e = cc
within_is (Ok b) a e =
    let outer = chosen (leb (nodes b) 64 && leb (length (text_of b)) 512) a (Some b) e in
    let tests = both (leb (nodes b) 64) (leb (length (text_of b)) 512) outer.0 in
    let same : b ≡ a = cc in
    record {
      is = ap Ok same;
      few = subst (λ c. nodes c ≤ 64) same (within (nodes b) 64 tests.0);
      short = subst (λ c. length (text_of c) ≤ 512) same (within (length (text_of b)) 512 tests.1);
    }

is_readable : (text : List ℕ) (a : Tree) → IsWithin (whole (tokens_of text)) a → IsText text a × IsReadable a
is_readable text a found =
    let is = text_is text (tokens_of text) a (has_tokens text) found.is in
    (is, record { text = text_is_read text a is; short = found.short; few = found.few })

reads_only : (text : List ℕ) (a : Tree) → expression_of text ≡ Some a → (length text ≤ 512) × IsText text a × IsReadable a
unfolding expression_of
reads_only text a e =
    let outer = chosen (leb (length text) 512) a (limited (whole (tokens_of text))) e in
    let found = is_readable text a (within_is (whole (tokens_of text)) a outer.1) in
    (within (length text) 512 outer.0, found.0, found.1)

reads_all : (text : List ℕ) (a : Tree) → length text ≤ 512 → IsText text a → IsReadable a → expression_of text ≡ Some a
unfolding expression_of
reads_all text a short is readable =
    let found = whole_complete (tokens_of text) a (derived_of text (tokens_of text) a (has_tokens text) is) in
    ap (λ b. cond b (limited (whole (tokens_of text))) None) (is_within (length text) 512 short)
    ∙ ap limited found
    ∙ ap (λ b. cond (b && leb (length (text_of a)) 512) (Some a) None) (is_within (nodes a) 64 readable.few)
    ∙ ap (λ b. cond b (Some a) None) (is_within (length (text_of a)) 512 readable.short)

pub is_read_as : (text : List ℕ) (a : Tree) → (expression_of text ≡ Some a) ↔ ((length text ≤ 512) × IsText text a × IsReadable a)
is_read_as text a = (reads_only text a, (λ h. reads_all text a h.0 h.1 h.2))

-- what was read of the tokens that were found
pub reads_it : (text : List ℕ) (tokens : List Token) (a : Tree) → HasTokens text tokens → whole tokens ≡ Ok a → length text ≤ 512 → count_by is_node tokens ≤ 64 → length (text_of a) ≤ 512 → expression_of text ≡ Some a
reads_it text tokens a has e short few written =
    reads_all text a short (text_is text tokens a has e) (readable text tokens a has e few written)

-- what is refused is read as none
not_read : (text : List ℕ) (fault : RankFault) (a : Tree) → Refuses text fault → length text ≤ 512 → IsText text a → IsReadable a → ⊥
not_read text fault.TooLong a refused short is readable =
    let written = readable.short in
    let not_long : IsOfLongTree text → ⊥ = λ of. omega (arith, of.long a is, written) in
    ⊎_elim (λ long. absurd (omega (arith, long, short))) not_long refused
not_read text (fault.TooManyNodes at) a refused short is readable = let few = readable.few in omega (arith, refused a is, few)
not_read text (fault.TooDeep at) a refused short is readable = refused a is
not_read text (fault.Wanted at wanted) a refused short is readable = refused a is

pub reads_none : (text : List ℕ) (fault : RankFault) → Refuses text fault → expression_of text ≡ None
reads_none text fault refused = by_found (expression_of text) refl
  where
    by_found : (found : Option Tree) → expression_of text ≡ found → found ≡ None
    by_found None e = refl
    by_found (Some a) e = let read = reads_only text a e in absurd (not_read text fault a refused read.0 read.1 read.2)
