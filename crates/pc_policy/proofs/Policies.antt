-- Texts of policies: each is of one policy, and what is written of one is a text of it.
use Rattle.std.proofs.Common.{ℕ, ◌+◌, ◌≡◌, ◌<◌, ◌≤◌, ◌++◌, ◌∙◌, ap, sym, subst, refl, true, false, true≢false, Bool, List, [], ◌∷◌, drop, take, length, codes, arith, Result, Ok, Err, Option, None, Some, option_map, if◌then◌else◌, eqb}
use Rattle.pc_messages.proofs.States.{last_or_push}
use Rattle.std.specs.List.{last_or}
use Rattle.std.specs.Result.{IfErr}
use Rattle.pc_policy.specs.declared.named.OrderFault.{OrderFault}
use Rattle.std.specs.Prelude.{bytes_eq}
use Rattle.std.proofs.lemmas.Bool.{eq-eqb}
use Rattle.std.proofs.lemmas.List.{append_assoc, append_cancel_right, append-nil, length-append}
use Rattle.pc_policy.specs.Names.{Ends, IsOrder, IsOrderBefore, IsPolicy, IsRank, IsReadAgain, NamesNoOrder, NamesNoPolicy, exact_ending, order_of, order_text, policy_text}
use Rattle.pc_policy.specs.declared.named.OrderName.{OrderName}
use Rattle.pc_policy.specs.declared.named.OrderName.TheVariants.{Levels, Fifo, LeastRan, LevelsThenLeastRan, Rank}
use Rattle.pc_policy.specs.declared.named.PolicyName.{PolicyName}
use Rattle.pc_rank.specs.Expressions.{Tree}
use Rattle.pc_rank.specs.Reading.{IsReadable, IsText, expression_of}
use Rattle.pc_rank.specs.Texts.{text_of}
use Rattle.pc_rank.proofs.Neat.{Ended, Neat, ended, ends, neat, parted, spaced, word}
use Rattle.pc_rank.proofs.Spelling.{text_is_small}
use Rattle.pc_rank.proofs.Texts.{is_read_as, one_tree}

-- what stands in front of ` exact` is of no order
pub none_before : (text front : List ℕ) → text ≡ front ++ codes " exact" → ((any : OrderName) → IsOrder front any → ⊥) → (any : PolicyName)
    → IsPolicy text any → ⊥
none_before text front is none any = by_ending any.exact
  where
    by_ending : (exact : Bool) → IsOrderBefore exact text any.order → ⊥
    by_ending true h =
        let same : h.0 ≡ front = append_cancel_right h.0 front (codes " exact") (sym h.2 ∙ is) in
        none any.order (subst (λ f. IsOrder f any.order) same h.1)
    by_ending false h = h.1 (front, is)

-- where its order is named by none, no policy is named
pub none_named : (text front : List ℕ) (exact : Bool) → text ≡ front ++ exact_ending exact → (exact ≡ false → Ends (codes " exact") text → ⊥)
    → {fault : OrderFault} → NamesNoOrder front fault → NamesNoPolicy text fault
none_named text front exact is whole order = record { front = front; exact = exact; is = is; whole = whole; order = order }

-- what is refused is refused for this
pub refused_so : {X : Type 0} (result : Result X OrderFault) {P : Type 0} → P → IfErr result (λ fault. P)
refused_so (Ok x) p = tt
refused_so (Err fault) p = p

-- ---- a text is of one order

same_rank : (text : List ℕ) (a b : Tree) → IsRank text a → IsRank text b → a ≡ b
same_rank text a b h k =
    let same : h.rest ≡ k.rest = sym (ap (drop 5) h.is) ∙ ap (drop 5) k.is in
    one_tree h.rest a b h.spelled (subst (λ r. IsText r b) (sym same) k.spelled)

no_word : (word text : List ℕ) (a : Tree) → bytes_eq (codes "rank ") (take 5 word) ≡ false → text ≡ word → IsRank text a → ⊥
no_word word text a other is h =
    let front : take 5 word ≡ codes "rank " = ap (take 5) (sym is ∙ h.is) in
    true≢false (sym (ap (bytes_eq (codes "rank ")) front) ∙ other)

pub one_order : (text : List ℕ) (a b : OrderName) → IsOrder text a → IsOrder text b → a ≡ b
one_order text (Rank a) (Rank b) h k = ap Rank (same_rank text a b h k)
one_order text (Rank a) Levels h k = absurd (no_word (codes "levels") text a refl k h)
one_order text (Rank a) Fifo h k = absurd (no_word (codes "fifo") text a refl k h)
one_order text (Rank a) LeastRan h k = absurd (no_word (codes "least-ran") text a refl k h)
one_order text (Rank a) LevelsThenLeastRan h k = absurd (no_word (codes "levels-then-least-ran") text a refl k h)
one_order text Levels (Rank b) h k = absurd (no_word (codes "levels") text b refl h k)
one_order text Fifo (Rank b) h k = absurd (no_word (codes "fifo") text b refl h k)
one_order text LeastRan (Rank b) h k = absurd (no_word (codes "least-ran") text b refl h k)
one_order text LevelsThenLeastRan (Rank b) h k = absurd (no_word (codes "levels-then-least-ran") text b refl h k)
one_order text Levels Levels h k = refl
one_order text Fifo Fifo h k = refl
one_order text LeastRan LeastRan h k = refl
one_order text LevelsThenLeastRan LevelsThenLeastRan h k = refl
one_order text Levels Fifo h k = absurd (true≢false (ap (bytes_eq (codes "levels")) (sym h ∙ k)))
one_order text Levels LeastRan h k = absurd (true≢false (ap (bytes_eq (codes "levels")) (sym h ∙ k)))
one_order text Levels LevelsThenLeastRan h k = absurd (true≢false (ap (bytes_eq (codes "levels")) (sym h ∙ k)))
one_order text Fifo Levels h k = absurd (true≢false (ap (bytes_eq (codes "fifo")) (sym h ∙ k)))
one_order text Fifo LeastRan h k = absurd (true≢false (ap (bytes_eq (codes "fifo")) (sym h ∙ k)))
one_order text Fifo LevelsThenLeastRan h k = absurd (true≢false (ap (bytes_eq (codes "fifo")) (sym h ∙ k)))
one_order text LeastRan Levels h k = absurd (true≢false (ap (bytes_eq (codes "least-ran")) (sym h ∙ k)))
one_order text LeastRan Fifo h k = absurd (true≢false (ap (bytes_eq (codes "least-ran")) (sym h ∙ k)))
one_order text LeastRan LevelsThenLeastRan h k = absurd (true≢false (ap (bytes_eq (codes "least-ran")) (sym h ∙ k)))
one_order text LevelsThenLeastRan Levels h k = absurd (true≢false (ap (bytes_eq (codes "levels-then-least-ran")) (sym h ∙ k)))
one_order text LevelsThenLeastRan Fifo h k = absurd (true≢false (ap (bytes_eq (codes "levels-then-least-ran")) (sym h ∙ k)))
one_order text LevelsThenLeastRan LeastRan h k = absurd (true≢false (ap (bytes_eq (codes "levels-then-least-ran")) (sym h ∙ k)))

-- ---- and of one policy

abbrev policy_of : OrderName → Bool → PolicyName
policy_of order exact = record { order = order; exact = exact }

pub one_policy : (text : List ℕ) (a b : PolicyName) → IsPolicy text a → IsPolicy text b → a ≡ b
one_policy text a b h k = by_ending a.exact b.exact h k
  where
    by_ending : (e f : Bool) → IsOrderBefore e text a.order → IsOrderBefore f text b.order
        → policy_of a.order e ≡ policy_of b.order f
    by_ending true true h k =
        let same : k.0 ≡ h.0 = append_cancel_right k.0 h.0 (codes " exact") (sym k.2 ∙ h.2) in
        ap (λ o. policy_of o true) (one_order h.0 a.order b.order h.1 (subst (λ f. IsOrder f b.order) same k.1))
    by_ending false false h k = ap (λ o. policy_of o false) (one_order text a.order b.order h.0 k.0)
    by_ending true false h k = absurd (k.1 (h.0, h.2))
    by_ending false true h k = absurd (h.1 (k.0, k.2))

-- ---- what is written of a policy is a text of it

append_last : (xs ys : List ℕ) (x y : ℕ) → xs ++ x ∷ [] ≡ ys ++ y ∷ [] → x ≡ y
append_last xs ys x y is = the_same (sym (last_or_push None xs x) ∙ ap (last_or None) is ∙ last_or_push None ys y)
  where
    the_same : Some x ≡ Some y → x ≡ y
    the_same is = cc

-- a text whose last byte is no `t` does not end in ` exact`
no_exact : (text : List ℕ) → Ended text → Ends (codes " exact") text → ⊥
no_exact text h ends =
    let front : List ℕ = ends.0 ++ codes " exac" in
    let one : h.front ++ h.last ∷ [] ≡ front ++ 116 ∷ [] = sym h.is ∙ ends.1 ∙ sym (append_assoc ends.0 (codes " exac") (116 ∷ [])) in
    let last : h.last ≡ 116 = append_last h.front front h.last 116 one in
    true≢false (sym (eq-eqb h.last 116 last) ∙ h.other)

order_ended : (order : OrderName) → IsReadAgain order → Ended (order_text order)
order_ended Levels h = record { front = codes "level"; last = 115; is = refl; other = refl }
order_ended Fifo h = record { front = codes "fif"; last = 111; is = refl; other = refl }
order_ended LeastRan h = record { front = codes "least-ra"; last = 110; is = refl; other = refl }
order_ended LevelsThenLeastRan h = record { front = codes "levels-then-least-ra"; last = 110; is = refl; other = refl }
order_ended (Rank a) h = ends (codes "rank ") (text_of a) (ended a (text_is_small (text_of a) a h.text))

pub written_order : (order : OrderName) → IsReadAgain order → IsOrder (order_text order) order
written_order Levels h = refl
written_order Fifo h = refl
written_order LeastRan h = refl
written_order LevelsThenLeastRan h = refl
written_order (Rank a) h = record { rest = text_of a; is = refl; short = h.short; spelled = h.text; readable = h }

pub written_policy : (policy : PolicyName) → IsReadAgain policy.order → IsPolicy (policy_text policy) policy
written_policy policy h = by_ending policy.exact
  where
    by_ending : (exact : Bool) → IsOrderBefore exact (order_text policy.order ++ exact_ending exact) policy.order
    by_ending true = (order_text policy.order, written_order policy.order h, refl)
    by_ending false =
        subst (λ text. IsOrderBefore false text policy.order) (sym (append-nil (order_text policy.order)))
        (written_order policy.order h, no_exact (order_text policy.order) (order_ended policy.order h))

-- its words have one space between each two
order_neat : (order : OrderName) → IsReadAgain order → Neat (order_text order)
order_neat Levels h = word 108 (codes "evels") refl
order_neat Fifo h = word 102 (codes "ifo") refl
order_neat LeastRan h = word 108 (codes "east-ran") refl
order_neat LevelsThenLeastRan h = word 108 (codes "evels-then-least-ran") refl
order_neat (Rank a) h = spaced (word 114 (codes "ank") refl) (neat a (text_is_small (text_of a) a h.text))

pub policy_neat : (policy : PolicyName) → IsReadAgain policy.order → Neat (policy_text policy)
policy_neat policy h = by_ending policy.exact
  where
    by_ending : (exact : Bool) → Neat (order_text policy.order ++ exact_ending exact)
    by_ending true = parted (order_neat policy.order h) (word 101 (codes "xact") refl)
    by_ending false = subst Neat (sym (append-nil (order_text policy.order))) (order_neat policy.order h)

-- ---- how long the texts of policies are

within : (text : List ℕ) (front more : List ℕ) (n m : ℕ) → text ≡ front ++ more → length front ≤ n → length more ≤ m → length text ≤ n + m
within text front more n m is low few = omega (arith, ap length is ∙ length-append front more, low, few)

order_short : (text : List ℕ) (order : OrderName) → IsOrder text order → length text ≤ 517
order_short text Levels h = omega (arith, ap length h)
order_short text Fifo h = omega (arith, ap length h)
order_short text LeastRan h = omega (arith, ap length h)
order_short text LevelsThenLeastRan h = omega (arith, ap length h)
order_short text (Rank a) h = omega (arith, ap length h.is, h.short)

pub policy_short : (text : List ℕ) (policy : PolicyName) → IsPolicy text policy → length text ≤ 523
policy_short text policy h = by_ending policy.exact h
  where
    by_ending : (exact : Bool) → IsOrderBefore exact text policy.order → length text ≤ 523
    by_ending true h = within text h.0 (codes " exact") 517 6 h.2 (order_short h.0 policy.order h.1) (omega arith)
    by_ending false h = let low = order_short text policy.order h.0 in omega (arith, low)

-- ---- the order that a text names

pub named_again : (text : List ℕ) (order : OrderName) → order_of text ≡ Some order → IsReadAgain order
named_again text order named = by_words (bytes_eq text (order_text Levels)) (bytes_eq text (order_text Fifo)) (bytes_eq text (order_text LeastRan))
    (bytes_eq text (order_text LevelsThenLeastRan)) (bytes_eq (take 5 text) (codes "rank ")) named
  where
    built_in : (word : OrderName) → IsReadAgain word → Some word ≡ Some order → IsReadAgain order
    built_in word again is = let same : word ≡ order = cc in subst IsReadAgain same again

    by_rank : (found : Option Tree) → expression_of (drop 5 text) ≡ found → option_map Rank found ≡ Some order → IsReadAgain order
    by_rank None is named = cc
    by_rank (Some a) is named = built_in (Rank a) ((is_read_as (drop 5 text) a).0 is).2 named

    by_words : (levels fifo least both rank : Bool)
        → (if levels then Some Levels else if fifo then Some Fifo else if least then Some LeastRan else if both then Some LevelsThenLeastRan
        else if rank then option_map Rank (expression_of (drop 5 text)) else None) ≡ Some order → IsReadAgain order
    by_words true fifo least both rank is = built_in Levels tt is
    by_words false true least both rank is = built_in Fifo tt is
    by_words false false true both rank is = built_in LeastRan tt is
    by_words false false false true rank is = built_in LevelsThenLeastRan tt is
    by_words false false false false true is = by_rank (expression_of (drop 5 text)) refl is
    by_words false false false false false is = cc
