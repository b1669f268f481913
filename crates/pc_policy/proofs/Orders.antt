-- Orders by their words.
use Rattle.std.proofs.Common.{◌≡◌, ◌&&◌, Bool, true, false, true≢false, not, List, ℕ, refl, sym, ap, codes}
use Rattle.std.specs.Prelude.{bytes_eq}
use Rattle.pc_messages.proofs.Bools.{first_true, second_true}
use Rattle.pc_policy.specs.Names.{IsReadAgain, is_built_in, is_order, is_usual, order_text, rules_named}
use Rattle.pc_policy.specs.Rules.{usual}
use Rattle.pc_policy.specs.declared.named.OrderName.{OrderName}
use Rattle.pc_policy.specs.declared.named.OrderName.TheVariants.{Levels, Fifo, LeastRan, LevelsThenLeastRan, Rank}
use Rattle.pc_policy.specs.declared.named.PolicyName.{PolicyName}

-- a test holds of the word of each order that has one
abbrev pub of_all : (List ℕ → Bool) → Bool
of_all test =
    test (order_text Levels) && (test (order_text Fifo) && (test (order_text LeastRan) && test (order_text LevelsThenLeastRan)))

-- so it holds of this one's
pub of_each : (test : List ℕ → Bool) → of_all test ≡ true → (order : OrderName) → is_built_in order ≡ true
    → test (order_text order) ≡ true
of_each test all order has = by_order order has (second_true (test (order_text Levels)) others all)
  where
    last : Bool
    last = test (order_text LeastRan) && test (order_text LevelsThenLeastRan)

    others : Bool
    others = test (order_text Fifo) && last

    by_order : (order : OrderName) → is_built_in order ≡ true → others ≡ true → test (order_text order) ≡ true
    by_order Levels has more = first_true (test (order_text Levels)) others all
    by_order Fifo has more = first_true (test (order_text Fifo)) last more
    by_order LeastRan has more =
        first_true (test (order_text LeastRan)) (test (order_text LevelsThenLeastRan)) (second_true (test (order_text Fifo)) last more)
    by_order LevelsThenLeastRan has more =
        second_true (test (order_text LeastRan)) (test (order_text LevelsThenLeastRan)) (second_true (test (order_text Fifo)) last more)
    by_order (Rank expression) has more = absurd (true≢false (sym has))

-- no two orders have the same word
pub same_order : (one other : OrderName) → is_built_in one ≡ true → is_built_in other ≡ true → order_text one ≡ order_text other → one ≡ other
same_order Levels Levels h k is = refl
same_order Fifo Fifo h k is = refl
same_order LeastRan LeastRan h k is = refl
same_order LevelsThenLeastRan LevelsThenLeastRan h k is = refl
same_order (Rank expression) other h k is = absurd (true≢false (sym h))
same_order one (Rank expression) h k is = absurd (true≢false (sym k))
same_order one other h k is = absurd (true≢false (ap (λ word. bytes_eq (order_text one) word) is))

-- an order whose text is a word has one
pub has_word : (order : OrderName) → is_order (order_text order) ≡ true → is_built_in order ≡ true
has_word Levels is = refl
has_word Fifo is = refl
has_word LeastRan is = refl
has_word LevelsThenLeastRan is = refl
has_word (Rank expression) is = is

-- and its text is read again
pub built_in_again : (order : OrderName) → is_built_in order ≡ true → IsReadAgain order
built_in_again Levels has = tt
built_in_again Fifo has = tt
built_in_again LeastRan has = tt
built_in_again LevelsThenLeastRan has = tt
built_in_again (Rank expression) has = absurd (true≢false (sym has))

-- the usual policy has the usual rules
pub usual_rules : (policy : PolicyName) → is_usual policy ≡ true → rules_named policy ≡ usual
usual_rules policy is = by_case policy.order policy.exact is
  where
    by_case : (order : OrderName) (exact : Bool) → is_usual (record { order = order; exact = exact }) ≡ true
        → rules_named (record { order = order; exact = exact }) ≡ usual
    by_case Levels false is = refl
    by_case Levels true is = absurd (true≢false (sym is))
    by_case Fifo exact is = absurd (true≢false (sym is))
    by_case LeastRan exact is = absurd (true≢false (sym is))
    by_case LevelsThenLeastRan exact is = absurd (true≢false (sym is))
    by_case (Rank expression) exact is = absurd (true≢false (sym is))
