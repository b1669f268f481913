-- The count of one thread changes, and no other.
use Rattle.std.proofs.Common.{◌≡◌, ℕ, ◌+◌, ◌-◌, ◌<◌, ◌==◌, Bool, true, false, cond, List, [], ◌∷◌, ◌++◌, Option, Some, None, is_some, count_by, drop, slice_get, ◌||◌, ⊎_elim, refl, arith, unwrap_or, ◌∙◌, ap, sym, subst}
use Rattle.std.proofs.lemmas.Bool.Decides.{nat_tests}
use Rattle.std.specs.BTreeMap.{BTreeMap, get, is_at}
use Rattle.std.specs.Ordering.{nat_cmp}
use Rattle.std.specs.List.{list_any}
use Rattle.std.proofs.lemmas.Bool.{cases_eq}
use Rattle.std.proofs.lemmas.List.{drop_more}
use Rattle.std.proofs.lemmas.Option.{slice_get_within, get_or_from_slice_get}
use Rattle.std.proofs.lemmas.List.Sums.{sum_by_push, sum_by-cons}
use Rattle.pc_messages.specs.declared.message.Item.{Item}
use Rattle.pc_messages.specs.declared.message.Item.TheVariants.{Thread}
use Rattle.pc_messages.specs.declared.message.Message.{Message}
use Rattle.pc_messages.specs.Items.{is_of}
use Rattle.pc_queue.specs.Queue.{some_count, count_of}
use Rattle.pc_queue.specs.Inner.Counts.{SetsCount, Counts}

is_at-eqb : (k q : ℕ) → is_at (nat_cmp k) q ≡ (q == k)
is_at-eqb k q = grind (arith, nat_tests)

-- std's words for the change of one key, as `SetsCount`
pub sets_count : (old new : BTreeMap ℕ ℕ) (t : ℕ) (count : Option ℕ) → ((q : ℕ) → get nat_cmp new q ≡ cond (is_at (nat_cmp t) q) count (get nat_cmp old q)) → SetsCount old new t count
sets_count old new t count h q = rw (← is_at-eqb t q) (h q)

-- a count of more than 1, written one less
pub lowered : (old new : BTreeMap ℕ ℕ) (t n : ℕ) → 1 < n → get nat_cmp old t ≡ Some n
    → ((q : ℕ) → get nat_cmp new q ≡ cond (is_at (nat_cmp t) q) (Some (n - 1)) (get nat_cmp old q)) → SetsCount old new t (some_count (unwrap_or (get nat_cmp old t) 0 - 1))
lowered old new t n more e h =
    let some : some_count (n - 1) ≡ Some (n - 1) = grind (arith, nat_tests) in
    rw (e, some) (sets_count old new t (Some (n - 1)) h)

-- a count of 1 or less, taken away after a look at it
pub removed : (old seen new : BTreeMap ℕ ℕ) (t n : ℕ) (w : Option ℕ) → (1 < n → ⊥) → get nat_cmp old t ≡ Some n
    → ((q : ℕ) → get nat_cmp seen q ≡ cond (is_at (nat_cmp t) q) w (get nat_cmp old q))
    → ((q : ℕ) → get nat_cmp new q ≡ cond (is_at (nat_cmp t) q) None (get nat_cmp seen q)) → SetsCount old new t (some_count (unwrap_or (get nat_cmp old t) 0 - 1))
removed old seen new t n w few e h g =
    let none : some_count (n - 1) ≡ None = grind (arith, nat_tests) in
    rw (e, none) (sets_count old new t None (λ q. elim (is_at (nat_cmp t) q) as (λ b. get nat_cmp new q ≡ cond b None (get nat_cmp seen q) → get nat_cmp seen q ≡ cond b w (get nat_cmp old q) → get nat_cmp new q ≡ cond b None (get nat_cmp old q)) [ true ↦ λ x y. x | false ↦ λ x y. x ∙ y ] (g q) (h q)))

-- the number that a count stands for
unwrap_or-some_count : (n : ℕ) → unwrap_or (some_count n) 0 ≡ n
unwrap_or-some_count n = grind (arith, nat_tests)

-- one key's count and its list's, after one more of thread s
one_more : (t s n m : ℕ) (o : Option ℕ) → o ≡ cond (t == s) (Some (n + 1)) (some_count m) → (t ≡ s → n ≡ m) → o ≡ some_count (m + cond (s == t) 1 0)
one_more t s n m o e same =
    ⊎_elim (λ h. let k = same h in grind (arith, nat_tests)) (λ h. grind (arith, nat_tests)) (cases_eq t s)

-- a thread's message at the end is counted for its thread
pub counts_push : (old new : BTreeMap ℕ ℕ) (message : Message) (items : List Item)
    → SetsCount old new message.thread (Some (unwrap_or (get nat_cmp old message.thread) 0 + 1)) → Counts old items → Counts new (items ++ Thread message ∷ [])
counts_push old new message items sets counts = record {
  each = λ t.
      let s = message.thread in
      let n : ℕ = unwrap_or (get nat_cmp old s) 0 in
      let before : n ≡ count_of s items = ap (λ o. unwrap_or o 0) (counts.each s) ∙ unwrap_or-some_count (count_of s items) in
      let after : count_of t (items ++ Thread message ∷ []) ≡ count_of t items + cond (s == t) 1 0 = sum_by_push (λ x. cond (is_of t x) 1 0) items (Thread message) in
      rw after (one_more t s n (count_of t items) (get nat_cmp new t) (sets t ∙ ap (cond (t == s) (Some (n + 1))) (counts.each t)) (λ e. before ∙ ap (λ k. count_of k items) (sym e)));
}

-- the item at a place goes out of the counts of those from there on
pub discounted : (old new : BTreeMap ℕ ℕ) (items : List Item) (place : ℕ) (item : Item) → slice_get items place ≡ Some item
    → ((rest : List Item) → Counts old (item ∷ rest) → Counts new rest) → Counts old (drop place items) → Counts new (drop (place + 1) items)
discounted old new items place item there goes counts =
    let first : drop place items ≡ item ∷ drop (place + 1) items =
    drop_more items place item (slice_get_within items place item there) ∙ ap (λ x. x ∷ drop (place + 1) items) (get_or_from_slice_get items place item item there) in
    goes (drop (place + 1) items) (subst (λ (items : List Item). Counts old items) first counts)

some_more : (b : Bool) (n : ℕ) → (b || is_some (some_count n)) ≡ is_some (some_count (cond b 1 0 + n))
some_more true n = grind (arith, nat_tests)
some_more false n = grind (arith, nat_tests)

-- a list has one that passes where the count of those is not 0
pub any_is_some : {X : Type 0} (p : X → Bool) (xs : List X) → list_any p xs ≡ is_some (some_count (count_by p xs))
any_is_some p [] = refl
any_is_some p (x ∷ xs) = rw (sum_by-cons (λ y. cond (p y) 1 0) x xs, any_is_some p xs) (some_more (p x) (count_by p xs))
