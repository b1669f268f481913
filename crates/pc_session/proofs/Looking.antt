-- What is told of an agent that sleeps, of two views, and of one.
use Rattle.std.proofs.Common.{◌≡◌, ℕ, ◌+◌, ◌≤◌, ◌<◌, ◌&&◌, ◌↔◌, Bool, true, false, IsTrue, List, [], ◌∷◌, take, Option, Some, None, MatchBool, nat_lt, refl, sym, ◌∙◌, ap, subst, inl, inr, arith}
use Rattle.std.specs.FinMap as map
use Rattle.std.proofs.lemmas.Bool.{false≢true, cases_lt, lt-ltb}
use Rattle.std.proofs.lemmas.Bool.Decides.{nat_tests}
use Rattle.pc_messages.specs.Run.{Run}
use Rattle.pc_messages.specs.State.{state_of}
use Rattle.pc_calls.specs.declared.refusal.Refusal.TheVariants as refusal
use Rattle.pc_join.specs.ByName.{known_in}
use Rattle.pc_join.specs.Sets.{as_members, IsSameSet}
use Rattle.pc_kernel.specs.Answers.{Shows}
use Rattle.pc_kernel.specs.PlainKernel.{kinds}
use Rattle.pc_kernel.specs.Reads.{Reads, seen, shown, is_cpu, is_asleep, number_read}
use Rattle.pc_kernel.specs.Rows.{KernelRows}
use Rattle.pc_thread_view.specs.Told.{Told, numbers_of}
use Rattle.pc_view.specs.declared.view.View.{View}
use Rattle.pc_view.specs.Audit.{IsComplete}
use Rattle.pc_view.specs.Prefixes.{upto_of, upto_told}
use Rattle.pc_view.specs.Views.{pairs_of, thread_of, source_of, IsOfRun}
use Rattle.pc_script.specs.declared.lists.ShownThread.{ShownThread}
use Rattle.pc_script.specs.declared.response.Response.TheVariants as response
use Rattle.pc_agent.specs.PlainAgent.{Set}
use Rattle.pc_world.specs.PlainWorld.{PlainWorld}
use Rattle.pc_world.specs.Shows.{IsViewAt}
use Rattle.pc_world.specs.Steps.{are_cpus}
use Rattle.pc_session.specs.Inner.Showing.{rows_told, ShowsAll}
use Rattle.pc_session.specs.Reads.{HasAll, IsAsleep, IsComparing, IsCompleting, IsShowing}
use Rattle.pc_messages.proofs.Bools.{both}
use Rattle.pc_session.proofs.Showing.{shows_all}
use Rattle.pc_session.proofs.Shown.{rows_shown}

match_true : (b : Bool) (P Q : Type 0) → b ≡ true → P → MatchBool b P Q
match_true b P Q e p = subst (λ c. MatchBool c P Q) (sym e) p

match_false : (b : Bool) (P Q : Type 0) → b ≡ false → Q → MatchBool b P Q
match_false b P Q e q = subst (λ c. MatchBool c P Q) (sym e) q

first_missing : (a b : Bool) → a ≡ false → (a && b) ≡ false
first_missing a b e = ap (λ x. x && b) e

second_missing : (a b : Bool) → b ≡ false → (a && b) ≡ false
second_missing true b e = e
second_missing false b e = refl

-- whether an agent sleeps
pub asleep_told : (k : KernelRows) (c : ℕ) → c < k.limits.cpus → (w : PlainWorld) → Shows k w.kernel → IsAsleep w c (response.Truth (is_asleep (seen k) c))
asleep_told k c low w h =
    match_true (is_cpu (shown w.kernel) c) _ _ (ap (λ r. is_cpu r c) (sym h.reads) ∙ lt-ltb c k.limits.cpus low) (ap (λ r. response.Truth (is_asleep r c)) h.reads)

pub asleep_nowhere : (k : KernelRows) (c : ℕ) → ¬ (c < k.limits.cpus) → (w : PlainWorld) → Shows k w.kernel → IsAsleep w c (response.Refused refusal.BadCpu)
asleep_nowhere k c high w h =
    match_false (is_cpu (shown w.kernel) c) _ _ (ap (λ r. is_cpu r c) (sym h.reads) ∙ not_below c k.limits.cpus high) refl
  where
    not_below : (c n : ℕ) → ¬ (c < n) → nat_lt c n ≡ false
    not_below c n le = grind (arith, nat_tests)

-- a view is shown
pub show_told : (w : PlainWorld) (c : ℕ) (view : View) (rows : List ShownThread)
    → ((run : Run) (view : View) (thread : ℕ) (told : Told) → IsOfRun run view → thread_of view thread ≡ Some told → told.state ≡ state_of (take told.upto (run thread)))
    → IsViewAt w c (Some view) → rows ≡ rows_told (map.entries view.threads) → IsShowing w c (response.View rows)
show_told w c view rows reported here all =
    match_true (is_cpu (shown w.kernel) c) _ _ here.0 record {
      rows = rows;
      tells = refl;
      shown = rows_shown view.threads (kinds w.kernel) (source_of (kinds w.kernel)) (w.agents c).known (λ t told known. reported (kinds w.kernel) view t told here.1.of_run known) here.1.of_run here.1.known rows
          (subst (ShowsAll (map.get view.threads)) (sym all) (shows_all view.threads));
    }

pub show_nowhere : (w : PlainWorld) (c : ℕ) → IsViewAt w c None → IsShowing w c (response.Refused refusal.BadCpu)
show_nowhere w c none = match_false (is_cpu (shown w.kernel) c) _ _ none refl

-- two views are told equal exactly where the same was taken in
pub same_told : (w : PlainWorld) (c other : ℕ) (view their : View) (truth : Bool) → IsViewAt w c (Some view) → IsViewAt w other (Some their)
    → IsTrue truth ↔ (view ≡ their) → ((run : Run) (a b : View) → IsOfRun run a → IsOfRun run b → IsSameSet (pairs_of a) (pairs_of b) → a ≡ b)
    → IsComparing w c other (response.Sameness truth)
same_told w c other view their truth here there exact unique =
    match_true (are_cpus w c other) _ _ (both (is_cpu (shown w.kernel) c) (is_cpu (shown w.kernel) other) here.0 there.0) record {
      truth = truth;
      same = (
        λ t m. sym (here.1.known m) ∙ ap (λ v. pairs_of v m) (exact.0 t) ∙ there.1.known m,
        λ s. exact.1 (unique (kinds w.kernel) view their here.1.of_run there.1.of_run (λ m. here.1.known m ∙ s m ∙ sym (there.1.known m))),
      );
      tells = refl;
    }

pub same_nowhere : (w : PlainWorld) (c other : ℕ) → IsViewAt w c None → IsComparing w c other (response.Refused refusal.BadCpu)
same_nowhere w c other none =
    match_false (are_cpus w c other) _ _ (first_missing (is_cpu (shown w.kernel) c) (is_cpu (shown w.kernel) other) none) refl

pub same_with_nobody : (w : PlainWorld) (c other : ℕ) → IsViewAt w other None → IsComparing w c other (response.Refused refusal.BadCpu)
same_with_nobody w c other none =
    match_false (are_cpus w c other) _ _ (second_missing (is_cpu (shown w.kernel) c) (is_cpu (shown w.kernel) other) none) refl

-- a view is complete exactly where the set has all of the thread
module _ (prefix : (view : View) (thread n : ℕ) (told : Told) → thread_of view thread ≡ Some told → 1 ≤ n → n ≤ told.upto → pairs_of view (thread ∷ n ∷ []) ≡ true)
    (missing : (run : Run) (view : View) (thread : ℕ) (told : Told) → IsOfRun run view → thread_of view thread ≡ Some told → pairs_of view (thread ∷ (told.upto + 1) ∷ []) ≡ false) where
  told_upto : (view : View) (thread n : ℕ) (o : Option Told) → thread_of view thread ≡ o → 1 ≤ n → n ≤ upto_told o → pairs_of view (thread ∷ n ∷ []) ≡ true
  told_upto view thread n None e low high = absurd (let no_room : ⊥ = omega arith in no_room)
  told_upto view thread n (Some told) e low high = prefix view thread n told e low high

  next_missing : (run : Run) (view : View) (thread : ℕ) (o : Option Told) → IsOfRun run view → thread_of view thread ≡ o → pairs_of view (thread ∷ (upto_told o + 1) ∷ []) ≡ false
  next_missing run view thread None of_run e = ap (λ o. known_in numbers_of o (1 ∷ [])) e
  next_missing run view thread (Some told) of_run e = missing run view thread told of_run e

  has_all : (run : Run) (reads : Reads) (view : View) (set : Set) (thread : ℕ) → IsOfRun run view → IsSameSet (pairs_of view) (as_members set) → IsComplete view reads thread ↔ HasAll reads set thread
  has_all run reads view set thread of_run same = (
    λ h. record {
      known = h.known;
      all = λ n low high. let reached : number_read reads thread ≤ upto_of view thread = h.reached in
          sym (same (thread ∷ n ∷ [])) ∙ told_upto view thread n (thread_of view thread) refl low (let le : n ≤ upto_of view thread = omega arith in le);
    },
    λ h. record {
      known = h.known;
      reached = elim (cases_lt (upto_of view thread) (number_read reads thread)) [
        | inl short ↦
            absurd (false≢true (sym (next_missing run view thread (thread_of view thread) of_run refl) ∙ same (thread ∷ (upto_of view thread + 1) ∷ [])
            ∙ h.all (upto_of view thread + 1) (omega arith) (omega arith)))
        | inr long ↦ long
      ];
    },
  )

  pub complete_told : (w : PlainWorld) (k : KernelRows) (c thread : ℕ) (view : View) (truth : Bool) → Shows k w.kernel → IsViewAt w c (Some view)
      → IsTrue truth ↔ IsComplete view (seen k) thread → IsCompleting w c thread (response.Truth truth)
  complete_told w k c thread view truth shows here exact =
      let same : IsTrue truth ↔ IsComplete view (shown w.kernel) thread = subst (λ r. IsTrue truth ↔ IsComplete view r thread) shows.reads exact in
      let all = has_all (kinds w.kernel) (shown w.kernel) view (w.agents c).known thread here.1.of_run here.1.known in
      match_true (is_cpu (shown w.kernel) c) _ _ here.0 record { truth = truth; complete = (λ t. all.0 (same.0 t), λ g. same.1 (all.1 g)); tells = refl }

pub complete_nowhere : (w : PlainWorld) (c thread : ℕ) → IsViewAt w c None → IsCompleting w c thread (response.Refused refusal.BadCpu)
complete_nowhere w c thread none = match_false (is_cpu (shown w.kernel) c) _ _ none refl
