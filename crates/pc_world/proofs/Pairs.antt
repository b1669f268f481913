-- Pairs of items, of parts of lists and of numbered messages.
use Rattle.std.proofs.Common.{◌≡◌, ℕ, zero, suc, ◌+◌, ◌≤◌, ◌<◌, ◌==◌, ◌&&◌, ◌⊎◌, true, false, List, [], ◌∷◌, ◌++◌, length, take, drop, Some, Contains, slice_get, refl, sym, ◌∙◌, ap, subst, inl, inr, arith}
use Rattle.std.proofs.lemmas.Bool.Decides.{eqb_tells}
use Rattle.std.proofs.lemmas.List.Folds.{list_any-append}
use Rattle.std.proofs.lemmas.Option.{same_Some, slice_get_within, slice_get-get_or, get_or_from_slice_get}
use Rattle.pc_messages.specs.declared.kind.Kind.{Kind}
use Rattle.pc_messages.specs.declared.message.Message.{Message}
use Rattle.pc_messages.specs.declared.message.Item.{Item}
use Rattle.pc_messages.specs.declared.message.Item.TheVariants.{Thread, Tick}
use Rattle.pc_messages.specs.Items.{pairs_in}
use Rattle.pc_join.specs.Sets.{has}
use Rattle.pc_kernel.specs.Facts.{numbered}
use Rattle.pc_agent.specs.PlainAgent.{Set}
use Rattle.pc_messages.proofs.Bools.{or_cases, or_left, or_right}

-- pairs of a list of pairs
is_pair : (a b t n : ℕ) → ((a == t) && (b == n)) ≡ true → (a ≡ t) × (b ≡ n)
is_pair a b t n e = elim (eqb_tells a t) [
  | inl s ↦ elim (eqb_tells b n) [
    | inl s' ↦ (s.1, s'.1)
    | inr o ↦ let bad : false ≡ true = sym (ap (λ x. (a == t) && x) o.0 ∙ ap (λ x. x && false) s.0) ∙ e in cc
  ]
  | inr o ↦ let bad : false ≡ true = sym (ap (λ x. x && (b == n)) o.0) ∙ e in cc
]

same_pair : (t n : ℕ) → ((t == t) && (n == n)) ≡ true
same_pair t n = elim (eqb_tells t t) [
  | inl s ↦ elim (eqb_tells n n) [ inl s' ↦ rw (s.0, s'.0) refl | inr o ↦ absurd (o.1 refl) ]
  | inr o ↦ absurd (o.1 refl)
]

pub has_first : (t n : ℕ) (set : Set) → has ((t, n) ∷ set) t n ≡ true
has_first t n set = or_left ((t == t) && (n == n)) (has set t n) (same_pair t n)

pub has_next : (p : ℕ × ℕ) (set : Set) (t n : ℕ) → has set t n ≡ true → has (p ∷ set) t n ≡ true
has_next p set t n e = or_right ((p.0 == t) && (p.1 == n)) (has set t n) e

pub has_cons : (p : ℕ × ℕ) (set : Set) (t n : ℕ) → has (p ∷ set) t n ≡ true → ((p.0 ≡ t) × (p.1 ≡ n)) ⊎ (has set t n ≡ true)
has_cons p set t n e = elim (or_cases ((p.0 == t) && (p.1 == n)) (has set t n) e) [
  | inl s ↦ inl (is_pair p.0 p.1 t n s)
  | inr s ↦ inr s
]

pub has_append : (a b : Set) (t n : ℕ) → has (a ++ b) t n ≡ true → (has a t n ≡ true) ⊎ (has b t n ≡ true)
has_append a b t n e = or_cases (has a t n) (has b t n) (sym (list_any-append (λ p. (p.0 == t) && (p.1 == n)) a b) ∙ e)

-- a place of a list, and that the list contains what stands there
pub place_of : {X : Type 0} (xs : List X) (x : X) → Contains xs x → (i : ℕ) × (slice_get xs i ≡ Some x)
place_of xs x (i, low, e) = (i, slice_get-get_or xs i x low ∙ ap Some e)

pub contained : {X : Type 0} (xs : List X) (i : ℕ) (x : X) → slice_get xs i ≡ Some x → Contains xs x
contained xs i x e = (i, slice_get_within xs i x e, get_or_from_slice_get xs i x x e)

pub get_dropped : {X : Type 0} (k : ℕ) (xs : List X) (i : ℕ) → slice_get (drop k xs) i ≡ slice_get xs (k + i)
get_dropped zero xs i = let e : 0 + i ≡ i = omega arith in sym (ap (slice_get xs) e)
get_dropped (suc k) [] i = refl
get_dropped (suc k) (x ∷ xs) i =
    let e : suc k + i ≡ suc (k + i) = omega arith in get_dropped k xs i ∙ sym (ap (slice_get (x ∷ xs)) e)

pub get_taken : {X : Type 0} (k : ℕ) (xs : List X) (i : ℕ) (x : X) → slice_get (take k xs) i ≡ Some x → (i < k) × (slice_get xs i ≡ Some x)
get_taken zero xs i x e = cc
get_taken (suc k) [] i x e = cc
get_taken (suc k) (y ∷ xs) zero x e = (omega arith, e)
get_taken (suc k) (y ∷ xs) (suc i) x e = let r = get_taken k xs i x e in let low = r.0 in (omega arith, r.1)

pub get_appended : {X : Type 0} (xs ys : List X) (i : ℕ) → i < length xs → slice_get (xs ++ ys) i ≡ slice_get xs i
get_appended [] ys i low = absurd (omega arith)
get_appended (x ∷ xs) ys zero low = refl
get_appended (x ∷ xs) ys (suc i) low = get_appended xs ys i (omega arith)

-- where a pair of items stands
pub record StandsAt (items : List Item) (t n : ℕ) : Type 0 where
  pub place : ℕ
  pub message : Message
  pub there : slice_get items place ≡ Some (Thread message)
  pub thread : message.thread ≡ t
  pub number : message.number ≡ n

pub stands_at : (items : List Item) (t n : ℕ) → has (pairs_in items) t n ≡ true → StandsAt items t n
stands_at [] t n e = cc
stands_at (Tick cpu ∷ items) t n e =
    let r = stands_at items t n e in record { place = suc r.place; message = r.message; there = r.there; thread = r.thread; number = r.number }
stands_at (Thread m ∷ items) t n e = elim (has_cons (m.thread, m.number) (pairs_in items) t n e) [
  | inl s ↦ record { place = 0; message = m; there = refl; thread = s.0; number = s.1 }
  | inr s ↦ let r = stands_at items t n s in record { place = suc r.place; message = r.message; there = r.there; thread = r.thread; number = r.number }
]

pub told_at : (items : List Item) (i : ℕ) (m : Message) → slice_get items i ≡ Some (Thread m) → has (pairs_in items) m.thread m.number ≡ true
told_at [] i m e = cc
told_at (it ∷ items) zero m e =
    subst (λ (x : Item). has (pairs_in (x ∷ items)) m.thread m.number ≡ true) (sym (same_Some it (Thread m) e)) (has_first m.thread m.number (pairs_in items))
told_at (Tick cpu ∷ items) (suc i) m e = told_at items i m e
told_at (Thread m' ∷ items) (suc i) m e = has_next (m'.thread, m'.number) (pairs_in items) m.thread m.number (told_at items i m e)

-- numbered messages
pub record IsNumbered (t from : ℕ) (ks : List Kind) (m : Message) : Type 0 where
  pub thread : m.thread ≡ t
  pub low : from ≤ m.number
  pub high : m.number < from + length ks

pub is_numbered : (t from : ℕ) (ks : List Kind) (i : ℕ) (m : Message) → slice_get (numbered t from ks) i ≡ Some m → IsNumbered t from ks m
is_numbered t from [] i m e = cc
is_numbered t from (k ∷ ks) zero m e =
    let first : Message = record { thread = t; number = from; kind = k } in
    subst (IsNumbered t from (k ∷ ks)) (same_Some first m e) record { thread = refl; low = omega arith; high = omega arith }
is_numbered t from (k ∷ ks) (suc i) m e =
    let r = is_numbered t (from + 1) ks i m e in
    let low = r.low in
    let high = r.high in
    record { thread = r.thread; low = omega arith; high = omega arith }

pub numbered_at : (t from : ℕ) (ks : List Kind) (n : ℕ) → from ≤ n → n < from + length ks → (i : ℕ) × (m : Message) × (slice_get (numbered t from ks) i ≡ Some m) × (m.thread ≡ t) × (m.number ≡ n)
numbered_at t from [] n low high = absurd (omega arith)
numbered_at t from (k ∷ ks) n low high = elim (eqb_tells from n) [
  | inl s ↦ (0, record { thread = t; number = from; kind = k }, refl, refl, s.1)
  | inr o ↦
      let apart = o.1 in
      let r = numbered_at t (from + 1) ks n (omega arith) (omega arith) in (suc r.0, r.1, r.2, r.3, r.4)
]
