-- Views and the runs that they are of.
use Rattle.std.proofs.Common.{ℕ, suc, zero, ◌+◌, ◌-◌, ◌<◌, ◌≤◌, ◌≡◌, ◌==◌, ◌⊎◌, cond, Bool, true, false, ◌↔◌, List, [], ◌∷◌, ◌++◌, ◌||◌, ◌&&◌, length, take, Option, Some, None, refl, sym, ap, ◌∙◌, arith, inl, inr}
use Rattle.std.specs.List.{slice_get}
use Rattle.std.specs.Ordering.{nat_cmp}
use Rattle.std.specs.FinMap as map
use Rattle.std.proofs.lemmas.Bool.Decides.{nat_tests}
use Rattle.std.proofs.lemmas.Bool.{false≢true}
use Rattle.pc_messages.specs.State.{state_of}
use Rattle.pc_thread_view.specs.Inner.ToldLaws.{lacks_next}
use Rattle.pc_thread_view.specs.Histories.{IsOfHistory}
use Rattle.pc_thread_view.proofs.Histories.{of_history, prefix_from, to_history}
use Rattle.pc_messages.specs.declared.kind.Kind.{Kind}
use Rattle.pc_messages.specs.declared.reported.Reported.{Reported}
use Rattle.pc_messages.specs.Run.{Run, Extends, kind_at}
use Rattle.pc_join.specs.Sets.{Source, IsVoid, source_at, members_at}
use Rattle.pc_messages.proofs.Bools.{or_none}
use Rattle.pc_join.specs.ByName.{members_by_name, known_in, IsOfByName}
use Rattle.pc_thread_view.specs.Told.{Told, IsOfThread, TellsSome, numbers_of, is_early, tells, told_by_message}
use Rattle.pc_thread_view.proofs.Alone.{one_same}
use Rattle.pc_join.specs.Ranges.{one_to}
use Rattle.pc_view.specs.declared.view.View.{View}
use Rattle.pc_view.specs.Views.{source_of, IsOfRun, IsPrefixOfRun, TellsOfRun, thread_of, pair, pairs_of, prefix_pairs}

-- a run that goes on gives what it gave
got_append : {A : Type 0} (xs ys : List A) (i : ℕ) → ¬ (slice_get xs i ≡ None) → slice_get (xs ++ ys) i ≡ slice_get xs i
got_append [] ys i h = absurd (h refl)
got_append (x ∷ xs) ys zero h = refl
got_append (x ∷ xs) ys (suc i) h = got_append xs ys i h

kind_on : (xs ys : List Kind) (n : ℕ) → ¬ (kind_at xs n ≡ None) → kind_at (xs ++ ys) n ≡ kind_at xs n
kind_on xs ys n h = by_test (n == 0) h
  where
    by_test : (b : Bool) → ¬ (cond b None (slice_get xs (n - 1)) ≡ None) → cond b None (slice_get (xs ++ ys) (n - 1)) ≡ cond b None (slice_get xs (n - 1))
    by_test true h = refl
    by_test false h = got_append xs ys (n - 1) h

pub goes_on : (longer shorter : Run) → Extends longer shorter → (m : List ℕ) → ¬ (source_of shorter m ≡ None) → source_of longer m ≡ source_of shorter m
goes_on longer shorter extends [] h = refl
goes_on longer shorter extends (t ∷ []) h = refl
goes_on longer shorter extends (t ∷ n ∷ []) h =
    let more = extends t in
    ap (λ kinds. kind_at kinds n) more.1 ∙ kind_on (shorter t) more.0 n h
goes_on longer shorter extends (t ∷ n ∷ k ∷ m) h = refl

-- one message tells its number alone
pub message_members : (thread number : ℕ) (kind : Kind) (m : List ℕ) → members_at thread (numbers_of (told_by_message number kind)) m ≡ pair thread number m
message_members thread number kind [] = refl
message_members thread number kind (t ∷ m) = ap (λ b. (t == thread) && b) (one_same number kind m)

-- a folded prefix
pub folded_of : (run : Run) (thread upto : ℕ) (reported : Reported) → IsPrefixOfRun run thread upto (Some reported) → IsOfThread (record { upto = upto; state = Some reported; early = [] }) (source_at (source_of run) thread)
folded_of run thread upto reported p = record { prefix = prefix_from (run thread) upto (Some reported) p.0 p.1; gap = tt; early = tt }

-- a folded prefix tells its numbers alone
pub folded_members : (thread upto : ℕ) (reported : Reported) (m : List ℕ) → members_at thread (numbers_of (record { upto = upto; state = Some reported; early = [] })) m ≡ prefix_pairs thread upto m
folded_members thread upto reported [] = refl
folded_members thread upto reported (t ∷ []) = refl
folded_members thread upto reported (t ∷ n ∷ []) = ap (λ b. (t == thread) && b) (or_none (one_to upto n))
folded_members thread upto reported (t ∷ n ∷ k ∷ m) = refl

-- no names
none_at : (x : map.FinMap nat_cmp Told) → x ≡ map.empty → (q : ℕ) → map.get x q ≡ None
none_at x e q = ap (λ y. map.get y q) e ∙ map.get-empty nat_cmp q

pub nothing_known : (x : map.FinMap nat_cmp Told) → x ≡ map.empty → IsVoid (members_by_name numbers_of x)
nothing_known x e [] = refl
nothing_known x e (t ∷ m) = ap (λ o. known_in numbers_of o m) (none_at x e t)

pub nothing_of : (x : map.FinMap nat_cmp Told) → x ≡ map.empty → (s : Source) → IsOfByName numbers_of IsOfThread x s
nothing_of x e s = record { kept = λ q v some. absurd (clash (map.get x q) v (none_at x e q) some); each = λ q v some. absurd (clash (map.get x q) v (none_at x e q) some) }
  where
    clash : (o : Option Told) (v : Told) → o ≡ None → o ≡ Some v → ⊥
    clash o v e f = cc

pub cases : (a b : ℕ) → (a < b) ⊎ (b ≤ a)
cases a b = grind arith

-- what a view of a run tells of a thread
module _ (run : Run) (view : View) (thread : ℕ) (told : Told) (of_run : IsOfRun run view) (there : thread_of view thread ≡ Some told) where
  pub history_of_run : IsOfHistory (run thread) told
  history_of_run = to_history (run thread) told (of_run.each thread told there)

  pub state_of_run : told.state ≡ state_of (take told.upto (run thread))
  state_of_run = history_of_run.prefix.state

  pub within_run : told.upto ≤ length (run thread)
  within_run = history_of_run.prefix.within

  pub missing_next : pairs_of view (thread ∷ (told.upto + 1) ∷ []) ≡ false
  missing_next = ap (λ o. known_in numbers_of o ((told.upto + 1) ∷ [])) there ∙ lacks_next told (of_run.each thread told there).gap

pub has_prefix : (view : View) (thread n : ℕ) (told : Told) → thread_of view thread ≡ Some told → 1 ≤ n → n ≤ told.upto → pairs_of view (thread ∷ n ∷ []) ≡ true
has_prefix view thread n told there h e = ap (λ o. known_in numbers_of o (n ∷ [])) there ∙ ap (λ b. b || is_early told.early n) (yes told.upto n h e)
  where
    yes : (u n : ℕ) → 1 ≤ n → n ≤ u → one_to u n ≡ true
    yes u n h e = grind (arith, nat_tests)

-- of a run, in plain words
void_none : (told : Told) → ((n : ℕ) → tells told n ≡ false) → IsVoid (numbers_of told)
void_none told none [] = refl
void_none told none (n ∷ []) = none n
void_none told none (n ∷ k ∷ m) = refl

first_early : (told : Told) (early : List (ℕ × Kind)) → told.early ≡ early → told.upto ≡ 0 → ¬ IsVoid (numbers_of told) → TellsSome told
first_early told [] e low some = absurd (some (void_none told (λ n. ap (λ u. one_to u n || is_early told.early n) low ∙ ap (λ es. one_to 0 n || is_early es n) e ∙ or_false n)))
  where
    or_false : (n : ℕ) → (one_to 0 n || false) ≡ false
    or_false n = grind (arith, nat_tests)
first_early told (d ∷ ds) e low some = (d.0, ap (λ es. one_to told.upto d.0 || is_early es d.0) e ∙ here (one_to told.upto d.0) (d.0 == d.0) (is_early ds d.0) (itself d.0))
  where
    here : (a b c : Bool) → b ≡ true → (a || (b || c)) ≡ true
    here true b c h = refl
    here false true c h = refl
    here false false c h = absurd (false≢true h)

    itself : (n : ℕ) → (n == n) ≡ true
    itself n = grind (arith, nat_tests)

tells_some : (told : Told) → ¬ IsVoid (numbers_of told) → TellsSome told
tells_some told some = by_upto (cases 0 told.upto)
  where
    by_upto : (0 < told.upto) ⊎ (told.upto ≤ 0) → TellsSome told
    by_upto (inl prefix) = (1, yes told.upto (is_early told.early 1) prefix)
      where
        yes : (u : ℕ) (b : Bool) → 0 < u → (one_to u 1 || b) ≡ true
        yes u b h = ap (λ a. a || b) (one_in u h)
          where
            one_in : (u : ℕ) → 0 < u → one_to u 1 ≡ true
            one_in u h = grind (arith, nat_tests)
    by_upto (inr empty) = first_early told told.early refl (omega arith) some

not_void : (told : Told) → TellsSome told → ¬ IsVoid (numbers_of told)
not_void told some void = false≢true (sym (void (some.0 ∷ [])) ∙ some.1)

pub in_plain_words : (run : Run) (view : View) → IsOfRun run view ↔ TellsOfRun run view
in_plain_words run view = (
  λ of_run t told there. record { history = history_of_run run view t told of_run there; gap = (of_run.each t told there).gap; some = tells_some told (of_run.kept t told there) },
  λ plain. record { kept = λ t told there. not_void told (plain t told there).some; each = λ t told there. of_history (run t) told (plain t told there).history (plain t told there).gap },
)
