-- Texts of orders by an expression.
use Rattle.std.proofs.Common.{ℕ, ◌≡◌, ◌<◌, ◌≤◌, ◌++◌, ◌∙◌, ap, sym, subst, refl, true, false, true≢false, List, [], ◌∷◌, take, drop, length, codes, arith, inl, inr}
use Rattle.pc_policy.specs.Names.{IsOrder, IsRank, is_built_in, order_text}
use Rattle.pc_policy.specs.declared.named.OrderName.{OrderName}
use Rattle.pc_policy.specs.declared.named.OrderName.TheVariants.{Levels, Fifo, LeastRan, LevelsThenLeastRan, Rank}
use Rattle.pc_rank.specs.Expressions.{Tree}
use Rattle.pc_rank.specs.Reading.{IsText, Refuses, nodes}
use Rattle.pc_rank.specs.Texts.{text_of}
use Rattle.pc_rank.specs.declared.fault.RankFault.{RankFault}
use Rattle.pc_rank.specs.declared.fault.RankFault.TheVariants as fault

-- what was refused is no expression
pub none_read : (rest : List ℕ) (why : RankFault) (any : Tree) → Refuses rest why → length rest ≤ 512 → IsText rest any → nodes any ≤ 64
    → length (text_of any) ≤ 512 → ⊥
none_read rest fault.TooLong any (inl long) short text few written = omega (arith, long, short)
none_read rest fault.TooLong any (inr long) short text few written = omega (arith, long.long any text, written)
none_read rest (fault.TooManyNodes at) any many short text few written = omega (arith, many any text, few)
none_read rest (fault.TooDeep at) any none short text few written = none any text
none_read rest (fault.Wanted at wanted) any none short text few written = none any text

-- a text that has no word, and behind `rank ` no expression, is of no order
pub no_order : (text : List ℕ) (any : OrderName) → ((any : OrderName) → is_built_in any ≡ true → text ≡ order_text any → ⊥)
    → ((expression : Tree) → IsRank text expression → ⊥) → IsOrder text any → ⊥
no_order text Levels no_word no_rank is = no_word Levels refl is
no_order text Fifo no_word no_rank is = no_word Fifo refl is
no_order text LeastRan no_word no_rank is = no_word LeastRan refl is
no_order text LevelsThenLeastRan no_word no_rank is = no_word LevelsThenLeastRan refl is
no_order text (Rank expression) no_word no_rank is = no_rank expression is

-- a word is a text of its order
pub by_word : (text : List ℕ) (order : OrderName) → is_built_in order ≡ true → text ≡ order_text order → IsOrder text order
by_word text Levels has is = is
by_word text Fifo has is = is
by_word text LeastRan has is = is
by_word text LevelsThenLeastRan has is = is
by_word text (Rank expression) has is = absurd (true≢false (sym has))

-- what is refused behind `rank ` is no expression of the text
pub no_rank : (text rest : List ℕ) (why : RankFault) → Refuses rest why → rest ≡ drop 5 text → (expression : Tree) → IsRank text expression → ⊥
no_rank text rest why refuses same expression is =
    let behind : is.rest ≡ rest = sym (same ∙ ap (drop 5) is.is) in
    none_read rest why expression refuses (subst (λ r. length r ≤ 512) behind is.short) (subst (λ r. IsText r expression) behind is.spelled)
    is.readable.few is.readable.short
