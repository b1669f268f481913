-- A prefix that grows, and the early messages that it reaches.
use Rattle.std.proofs.Common.{ℕ, ◌+◌, ◌<◌, ◌≤◌, ◌≡◌, ◌==◌, ◌||◌, Bool, true, false, List, [], ◌∷◌, ◌++◌, length, drop, Option, refl, sym, ap, ◌∙◌, subst, arith, Some}
use Rattle.std.proofs.lemmas.Bool.{false≢true}
use Rattle.std.proofs.lemmas.Bool.Decides.{nat_tests}
use Rattle.std.proofs.lemmas.List.{length-append}
use Rattle.pc_join.proofs.Joins.{or_assoc}
use Rattle.pc_messages.specs.declared.kind.Kind.{Kind}
use Rattle.pc_messages.specs.declared.reported.Reported.{Reported}
use Rattle.pc_messages.specs.State.{state_of}
use Rattle.pc_messages.specs.Run.{IsWellFormed}
use Rattle.pc_join.specs.Sets.{Source}
use Rattle.pc_join.specs.Inner.Ranges.{IsEither}
use Rattle.pc_thread_view.specs.Told.{Told, IsSound, IsOfThread, IsPrefix, RiseAbove, IsStateOfSome, tells, is_early}
use Rattle.pc_thread_view.specs.Inner.Taking.{IsLoose, IsLooselyOf, IsAbsorbed, IsSettled, Gains}
use Rattle.pc_join.specs.Ranges.{one_to}
use Rattle.pc_thread_view.specs.Inner.ToldLaws.{prefix_yes}
use Rattle.pc_thread_view.proofs.Gaining.{eq_sym, kinds_push}
use Rattle.pc_thread_view.proofs.Taking.{early_told, told_rest}

prefix_next : (upto n : ℕ) → one_to (upto + 1) n ≡ (one_to upto n || (upto + 1 == n))
prefix_next upto n = grind (arith, nat_tests)

or_swap : (a b c : Bool) → ((a || b) || c) ≡ ((a || c) || b)
or_swap true b c = refl
or_swap false true true = refl
or_swap false true false = refl
or_swap false false true = refl
or_swap false false false = refl

-- one more kind at the end of a prefix
pub prefix_push : (s : Source) (upto : ℕ) (state next : Option Reported) (kind : Kind) → IsPrefix s upto state → s ((upto + 1) ∷ []) ≡ Some kind
    → ((kinds : List Kind) → length kinds ≡ upto → state ≡ state_of kinds → next ≡ state_of (kinds ++ kind ∷ [])) → IsPrefix s (upto + 1) next
prefix_push s upto state next kind h g folded = record {
  kinds = h.kinds ++ kind ∷ [];
  count = length-append h.kinds (kind ∷ []) ∙ ap (λ n. n + 1) h.count;
  of_source = kinds_push s 0 h.kinds kind h.of_source (subst (λ n. s (n ∷ []) ≡ Some kind) (place (length h.kinds) upto h.count) g);
  folded = folded h.kinds h.count h.folded;
}
  where
    place : (l u : ℕ) → l ≡ u → u + 1 ≡ 0 + l + 1
    place l u h = omega arith

module _ (upto : ℕ) (state : Option Reported) (first : ℕ × Kind) (rest : List (ℕ × Kind)) (loose : IsLoose (record { upto = upto; state = state; early = first ∷ rest })) where
  abbrev before : Told
  before = record { upto = upto; state = state; early = first ∷ rest }

  absorb_next : (next : Option Reported) → first.0 ≡ upto + 1 → IsStateOfSome (upto + 1) next → ((kinds : List Kind) → length kinds ≡ upto → state ≡ state_of kinds → next ≡ state_of (kinds ++ first.1 ∷ []))
      → IsAbsorbed before (record { upto = first.0; state = next; early = rest })
  absorb_next next e some folded = record {
    loose = record {
      state = subst (λ n. IsStateOfSome n next) (sym e) some;
      some = omega arith;
      upto_fits = loose.early.later.0;
      early = told_rest first rest loose.early;
    };
    same = λ n.
        ap (λ m. one_to m n || is_early rest n) e ∙ ap (λ b. b || is_early rest n) (prefix_next upto n)
        ∙ or_assoc (one_to upto n) (upto + 1 == n) (is_early rest n)
        ∙ ap (λ m. one_to upto n || ((m == n) || is_early rest n)) (sym e);
    of_source = λ s h. record {
      prefix = subst (λ m. IsPrefix s m next) (sym e) (prefix_push s upto state next first.1 h.prefix (subst (λ m. s (m ∷ []) ≡ Some first.1) e h.early.0) folded);
      early = h.early.1;
    };
    fewer = omega arith;
  }

  absorb_known : first.0 ≤ upto → IsAbsorbed before (record { upto = upto; state = state; early = rest })
  absorb_known le = record {
    loose = record { state = loose.state; some = loose.some; upto_fits = loose.upto_fits; early = told_rest first rest loose.early };
    same = λ n. known n (first.0 == n) refl;
    of_source = λ s h. record { prefix = h.prefix; early = h.early.1 };
    fewer = omega arith;
  }
    where
      eq_true : (a b : ℕ) → (a == b) ≡ true → a ≡ b
      eq_true a b e = grind (arith, nat_tests)

      absorbed : (a b : Bool) → a ≡ true → (a || b) ≡ (a || (true || b))
      absorbed true b e = refl
      absorbed false b e = absurd (false≢true e)

      known : (n : ℕ) (b : Bool) → (first.0 == n) ≡ b → (one_to upto n || is_early rest n) ≡ (one_to upto n || (b || is_early rest n))
      known n true e = absorbed (one_to upto n) (is_early rest n) (subst (λ m. one_to upto m ≡ true) (eq_true first.0 n e) (prefix_yes upto first.0 (let k = loose.early.rise.0 in omega arith) le))
      known n false e = refl

pub absorbs_next : (upto u : ℕ) (state next : Option Reported) (early rest after : List (ℕ × Kind)) (first : ℕ × Kind) → IsLoose (record { upto = upto; state = state; early = early }) → early ≡ first ∷ rest → after ≡ drop 1 early → first.0 ≡ upto + 1 → u ≡ upto + 1
    → IsStateOfSome (upto + 1) next → ((kinds : List Kind) → length kinds ≡ upto → state ≡ state_of kinds → next ≡ state_of (kinds ++ first.1 ∷ []))
    → IsAbsorbed (record { upto = upto; state = state; early = early }) (record { upto = u; state = next; early = after })
absorbs_next upto u state next early rest after first loose e f n un some folded =
    let on : IsLoose (record { upto = upto; state = state; early = first ∷ rest }) = subst (λ es. IsLoose (record { upto = upto; state = state; early = es })) e loose in
    let left : after ≡ rest = f ∙ ap (drop 1) e in
    subst (λ m. IsAbsorbed (record { upto = upto; state = state; early = early }) (record { upto = m; state = next; early = after })) (n ∙ sym un)
    (subst (λ es. IsAbsorbed (record { upto = upto; state = state; early = es }) (record { upto = first.0; state = next; early = after })) (sym e)
    (subst (λ es. IsAbsorbed (record { upto = upto; state = state; early = first ∷ rest }) (record { upto = first.0; state = next; early = es })) (sym left)
    (absorb_next upto state first rest on next n some folded)))

pub absorbs_known : (upto : ℕ) (state : Option Reported) (early rest after : List (ℕ × Kind)) (first : ℕ × Kind) → IsLoose (record { upto = upto; state = state; early = early }) → early ≡ first ∷ rest → after ≡ drop 1 early → first.0 ≤ upto
    → IsAbsorbed (record { upto = upto; state = state; early = early }) (record { upto = upto; state = state; early = after })
absorbs_known upto state early rest after first loose e f n =
    let on : IsLoose (record { upto = upto; state = state; early = first ∷ rest }) = subst (λ es. IsLoose (record { upto = upto; state = state; early = es })) e loose in
    let left : after ≡ rest = f ∙ ap (drop 1) e in
    subst (λ es. IsAbsorbed (record { upto = upto; state = state; early = es }) (record { upto = upto; state = state; early = after })) (sym e)
    (subst (λ es. IsAbsorbed (record { upto = upto; state = state; early = first ∷ rest }) (record { upto = upto; state = state; early = es })) (sym left)
    (absorb_known upto state first rest on n))

-- no early message, or one past the gap
pub past_gap : (n : ℕ) (early rest : List (ℕ × Kind)) (first : ℕ × Kind) → early ≡ first ∷ rest → RiseAbove 1 early → n < first.0 → RiseAbove n early
past_gap n early rest first e h lt =
    let on : RiseAbove 1 (first ∷ rest) = subst (RiseAbove 1) e h in
    subst (RiseAbove n) (sym e) (lt, on.1)

pub no_gap : (n : ℕ) (early : List (ℕ × Kind)) → early ≡ [] → RiseAbove n early
no_gap n early e = subst (RiseAbove n) (sym e) tt

-- on the way
pub record IsSettling (old now : Told) : Type 0 where
  pub loose : IsLoose now
  pub same : (n : ℕ) → tells now n ≡ tells old n
  pub of_source : (s : Source) → IsLooselyOf old s → IsLooselyOf now s

pub settling_start : (v : Told) → IsLoose v → IsSettling v v
settling_start v loose = record { loose = loose; same = λ n. refl; of_source = λ s h. h }

pub settling_on : (old now new : Told) → IsSettling old now → IsAbsorbed now new → IsSettling old new
settling_on old now new h a = record { loose = a.loose; same = λ n. a.same n ∙ h.same n; of_source = λ s g. a.of_source s (h.of_source s g) }

pub settled : (old now new : Told) → IsSettling old now → new ≡ now → RiseAbove (now.upto + 1) now.early → IsSettled old new
settled old now new h e gap = subst (λ v. IsSettled old v) (sym e) (record {
  sound = record { state = h.loose.state; upto_fits = h.loose.upto_fits; gap = gap; early = h.loose.early.later };
  same = h.same;
  of_source = λ s g. let k = h.of_source s g in record { prefix = k.prefix; gap = gap; early = k.early };
})

-- the prefix of another
pub advance_loose : (v w : Told) → IsSound v → IsSound w → v.upto < w.upto → IsLoose (record { upto = w.upto; state = w.state; early = v.early })
advance_loose v w a b lt = record { state = b.state; some = omega arith; upto_fits = b.upto_fits; early = early_told v a }

pub advance_union : (v w new : Told) → v.upto < w.upto → IsSettled (record { upto = w.upto; state = w.state; early = v.early }) new → IsEither (tells v) (one_to w.upto) (tells new)
advance_union v w new lt h n = h.same n ∙ wider (one_to v.upto n) (one_to w.upto n) (is_early v.early n) (longer v.upto w.upto n lt)
  where
    longer : (t u n : ℕ) → t < u → one_to t n ≡ true → one_to u n ≡ true
    longer t u n h e = grind (arith, nat_tests)

    wider : (p q a : Bool) → (p ≡ true → q ≡ true) → (q || a) ≡ ((p || a) || q)
    wider p true true h = or_true p
      where
        or_true : (p : Bool) → true ≡ ((p || true) || true)
        or_true true = refl
        or_true false = refl
    wider true true false h = refl
    wider false true false h = refl
    wider true false a h = absurd (false≢true (h refl))
    wider false false true h = refl
    wider false false false h = refl

pub advance_source : (v w new : Told) → IsSettled (record { upto = w.upto; state = w.state; early = v.early }) new → (s : Source) → IsOfThread v s → IsOfThread w s → IsOfThread new s
advance_source v w new h s a b = h.of_source s (record { prefix = b.prefix; early = a.early })

-- the next message of the prefix
module _ (upto number u : ℕ) (state next : Option Reported) (early : List (ℕ × Kind)) (kind : Kind) (sound : IsSound (record { upto = upto; state = state; early = early })) (well : IsWellFormed number kind) (e : number ≡ upto + 1) (un : u ≡ upto + 1) (some : IsStateOfSome (upto + 1) next) where
  pub next_loose : IsLoose (record { upto = u; state = next; early = early })
  next_loose = record {
    state = subst (λ n. IsStateOfSome n next) (sym un) some;
    some = omega arith;
    upto_fits = let k = well.greatest in omega arith;
    early = early_told (record { upto = upto; state = state; early = early }) sound;
  }

  pub next_gains : (new : Told) → ((kinds : List Kind) → length kinds ≡ upto → state ≡ state_of kinds → next ≡ state_of (kinds ++ kind ∷ [])) → IsSettled (record { upto = u; state = next; early = early }) new
      → Gains (record { upto = upto; state = state; early = early }) number kind new
  next_gains new folded h = record {
    sound = h.sound;
    union = λ n.
        h.same n ∙ ap (λ m. one_to m n || is_early early n) un ∙ ap (λ b. b || is_early early n) (prefix_next upto n)
        ∙ or_swap (one_to upto n) (upto + 1 == n) (is_early early n)
        ∙ ap (λ b. (one_to upto n || is_early early n) || b) (ap (λ m. m == n) (sym e) ∙ eq_sym number n);
    of_source = λ s a g. h.of_source s (record {
      prefix = subst (λ m. IsPrefix s m next) (sym un) (prefix_push s upto state next kind a.prefix (subst (λ m. s (m ∷ []) ≡ Some kind) e g) folded);
      early = a.early;
    });
  }
