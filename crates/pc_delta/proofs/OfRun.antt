-- Parts of one run, and of runs that go on from it.
use Rattle.std.proofs.Common.{ℕ, suc, zero, ◌-◌, ◌≤◌, ◌≡◌, length, take, arith, ◌==◌, cond, Bool, true, false, List, [], ◌∷◌, ◌++◌, Option, Some, None, sym, ap, subst, ◌∙◌}
use Rattle.std.specs.List.{slice_get}
use Rattle.std.proofs.lemmas.Bool.{false≢true}
use Rattle.std.proofs.lemmas.List.Elements.{All-weaker}
use Rattle.pc_messages.specs.declared.kind.Kind.{Kind}
use Rattle.pc_messages.specs.declared.reported.Reported.{Reported}
use Rattle.pc_messages.specs.Run.{Run, Extends, kind_at}
use Rattle.pc_messages.specs.State.{state_of}
use Rattle.std.proofs.lemmas.List.{length-append, take-append-le}
use Rattle.pc_view.specs.Views.{IsPrefixOfRun}
use Rattle.pc_delta.specs.declared.part.Part.{Part}
use Rattle.pc_delta.specs.declared.part.Part.TheVariants.{One, Folded}
use Rattle.pc_delta.specs.Parts.{IsPartOfRun, AreOfRun}
use Rattle.pc_delta.specs.Faults.{place_of, HasNoConflict}
use Rattle.pc_delta.proofs.Lists.{all_at}

-- two states of one prefix of a run
same_state : (run : Run) (t upto : ℕ) (a b : Reported) → IsPrefixOfRun run t upto (Some a) → IsPrefixOfRun run t upto (Some b) → a ≡ b
same_state run t upto a b p q = inside (p.1 ∙ sym q.1)
  where
    inside : {a b : Reported} → ◌≡◌ {A = Option Reported} (Some a) (Some b) → a ≡ b
    inside e = cc

same_kind_at : (o : Option Kind) (a b : Kind) → o ≡ Some a → o ≡ Some b → a ≡ b
same_kind_at o a b e f = cc

pub same_part : (run : Run) (a b : Part) → IsPartOfRun run a → IsPartOfRun run b → place_of a ≡ place_of b → a ≡ b
same_part run (One m) (One k) of_a of_b e =
    let thread : m.thread ≡ k.thread = ap (λ p. p.0) e in
    let number : m.number ≡ k.number = ap (λ p. p.1) e in
    let kind : m.kind ≡ k.kind = same_kind_at (kind_at (run k.thread) k.number) m.kind k.kind (sym (λ i. kind_at (run (thread i)) (number i)) ∙ of_a) of_b in
    λ i. One (record { thread = thread i; number = number i; kind = kind i })
same_part run (One m) (Folded t u r) of_a of_b e = absurd (false≢true (ap (λ p. p.2) e))
same_part run (Folded t u r) (One k) of_a of_b e = absurd (false≢true (sym (ap (λ p. p.2) e)))
same_part run (Folded t u r) (Folded t' u' r') of_a of_b e =
    let thread : t ≡ t' = ap (λ p. p.0) e in
    let upto : u ≡ u' = ap (λ p. p.1) e in
    let there : IsPrefixOfRun run t' u' (Some r) = subst (λ x. IsPrefixOfRun run t' x (Some r)) upto (subst (λ x. IsPrefixOfRun run x u (Some r)) thread of_a) in
    let state : r ≡ r' = same_state run t' u' r r' there of_b in
    λ i. Folded (thread i) (upto i) (state i)

pub no_conflict : (run : Run) (parts : List Part) → AreOfRun run parts → HasNoConflict parts
no_conflict run parts of_run t n c =
    c.differ (same_part run c.one c.other (all_at (IsPartOfRun run) parts c.one of_run c.has_one) (all_at (IsPartOfRun run) parts c.other of_run c.has_other) c.same_place)

-- a run that goes on
got_append : {A : Type 0} (xs ys : List A) (i : ℕ) (x : A) → slice_get xs i ≡ Some x → slice_get (xs ++ ys) i ≡ Some x
got_append [] ys i x h = cc
got_append (y ∷ xs) ys zero x h = h
got_append (y ∷ xs) ys (suc i) x h = got_append xs ys i x h

kind_on : (xs ys : List Kind) (n : ℕ) (kind : Kind) → kind_at xs n ≡ Some kind → kind_at (xs ++ ys) n ≡ Some kind
kind_on xs ys n kind h = by_test (n == 0) h
  where
    by_test : (b : Bool) → cond b None (slice_get xs (n - 1)) ≡ Some kind → cond b None (slice_get (xs ++ ys) (n - 1)) ≡ Some kind
    by_test true h = h
    by_test false h = got_append xs ys (n - 1) kind h

pub part_stays : (longer shorter : Run) → Extends longer shorter → (part : Part) → IsPartOfRun shorter part → IsPartOfRun longer part
part_stays longer shorter extends (One m) of_run =
    let more = extends m.thread in
    ap (λ kinds. kind_at kinds m.number) more.1 ∙ kind_on (shorter m.thread) more.0 m.number m.kind of_run
part_stays longer shorter extends (Folded t u r) of_run =
    let more = extends t in
    (subst (λ kinds. u ≤ length kinds) (sym more.1) (longer_yet (shorter t) more.0 u of_run.0), of_run.1 ∙ ap state_of (sym (ap (take u) more.1 ∙ take-append-le u (shorter t) more.0 of_run.0)))
  where
    longer_yet : (xs ys : List Kind) (n : ℕ) → n ≤ length xs → n ≤ length (xs ++ ys)
    longer_yet xs ys n h = let both = length-append xs ys in omega arith

pub parts_stay : (longer shorter : Run) → Extends longer shorter → (parts : List Part) → AreOfRun shorter parts → AreOfRun longer parts
parts_stay longer shorter extends parts of_run = All-weaker (IsPartOfRun shorter) (IsPartOfRun longer) (part_stays longer shorter extends) parts of_run
