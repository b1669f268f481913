-- The names of a run list that the kernel would commit, and a pick of the first.
use Rattle.std.proofs.Common.{ℕ, ◌≡◌, ◌==◌, not, Bool, true, false, List, [], ◌∷◌, Option, Some, None, Result, Ok, Err, IfOk, IfErr, OnErr, is_some, refl, sym, ap, ◌∙◌, subst}
use Rattle.pc_messages.specs.Run.{Run}
use Rattle.pc_calls.specs.AgentCalls.{commits}
use Rattle.pc_calls.specs.Conditions.{first_of, refusal_in}
use Rattle.pc_calls.specs.declared.call.Answer.{Answer}
use Rattle.pc_calls.specs.declared.call.Answer.TheVariants.{Done}
use Rattle.pc_calls.specs.declared.call.Call.{Call}
use Rattle.pc_calls.specs.declared.refusal.Refusal.{Refusal}
use Rattle.pc_calls.specs.declared.refusal.Refusal.TheVariants.{Stale, Busy, NothingReady}
use Rattle.pc_kernel.specs.Answers.{Accepts, Replies, Shows, Steps, done}
use Rattle.pc_kernel.specs.PlainKernel.{PlainKernel}
use Rattle.pc_kernel.specs.Reads.{Reads, seen, shown, aseq_read, on}
use Rattle.pc_kernel.specs.Rows.{KernelRows}
use Rattle.pc_kernel.specs.Steps.{accepted, after, refused, reply, reply_of}
use Rattle.pc_agent.specs.declared.agent.Agent.{Agent}
use Rattle.pc_agent.specs.Counts.{pick_counted}
use Rattle.pc_agent.specs.Own.{PicksAsSeen}
use Rattle.pc_agent.specs.PlainAgent.{PlainAgent, is_empty_list, pick_refused, ready_list}
use Rattle.pc_agent.specs.Running.{IsPicked, left_by}
use Rattle.pc_agent.specs.Shows.{ShowsAgent, ShowsView, rules_in}
use Rattle.pc_agent.specs.Inner.Picks.{CommitsFirst, Picks, unready_for}

-- a call that the code made was accepted by every plain kernel too
was_accepted : (r : Result Answer Refusal) (old new : KernelRows) (Q : PlainKernel) → Replies done (Ok tt) old new r Q → (r ≡ Ok Done) × Shows new Q
was_accepted (Ok answer) old new Q h = (ap Ok (sym h.0), h.1)
was_accepted (Err why) old new Q h = absurd h

pub accepts : (made : Call) (old new : KernelRows) → Steps done made (Ok tt) old new → Accepts made Done old new
accepts made old new steps P shows = was_accepted (reply P made) old new (after P made) (steps P shows)

-- what is answered was not refused
no_refusal : (o : Option Refusal) (answer : Answer) → reply_of o answer ≡ Ok Done → o ≡ None
no_refusal None answer e = refl
no_refusal (Some why) answer e = absurd (let none : ⊥ = cc in none)

pub not_refused : (P : PlainKernel) (made : Call) → reply P made ≡ Ok Done → refused (shown P) made ≡ None
not_refused P made e = no_refusal (refused (shown P) made) (accepted P made) e

module _ (r : Reads) (cpu n : ℕ) (names : List ℕ) where
  abbrev first_two : Bool → Bool → Option Refusal
  first_two stale busy = first_of ((stale, Stale (aseq_read r cpu)) ∷ (busy, Busy) ∷ [])

  abbrev all_three : Bool → Bool → Option Refusal
  all_three stale busy = first_of ((stale, Stale (aseq_read r cpu)) ∷ (busy, Busy) ∷ (is_empty_list (ready_list r cpu n names), NothingReady) ∷ [])

  -- a pick that did not look at its list
  pub unready_refused : (refusal : Refusal) → unready_for r cpu n ≡ Some refusal → (pick_refused r cpu n names ≡ Some refusal) × (names ≡ left_by refusal names)
  unready_refused refusal e = by_tests (not (n == aseq_read r cpu)) (is_some (on r cpu)) e
    where
      by_tests : (stale busy : Bool) → first_two stale busy ≡ Some refusal → (all_three stale busy ≡ Some refusal) × (names ≡ left_by refusal names)
      by_tests true busy e = (e, let is : Stale (aseq_read r cpu) ≡ refusal = cc in ap (λ why. left_by why names) is)
      by_tests false true e = (e, let is : Busy ≡ refusal = cc in ap (λ why. left_by why names) is)
      by_tests false false e = absurd (let none : ⊥ = cc in none)

  -- a pick that did
  looked_at : unready_for r cpu n ≡ None → pick_refused r cpu n names ≡ first_of ((is_empty_list (ready_list r cpu n names), NothingReady) ∷ [])
  looked_at e = by_tests (not (n == aseq_read r cpu)) (is_some (on r cpu)) e
    where
      by_tests : (stale busy : Bool) → first_two stale busy ≡ None → all_three stale busy ≡ first_of ((is_empty_list (ready_list r cpu n names), NothingReady) ∷ [])
      by_tests true busy e = absurd (let none : ⊥ = cc in none)
      by_tests false true e = absurd (let none : ⊥ = cc in none)
      by_tests false false e = refl

pub looked : (cpu n : ℕ) (result : Result ℕ Refusal) (names left : List ℕ) (old new : KernelRows) → unready_for (seen old) cpu n ≡ None → CommitsFirst cpu n result names left old new → Picks cpu n result names left old new
looked cpu n (Ok t) names left old new ready first =
    (looked_at (seen old) cpu n names ready ∙ ap (λ l. first_of ((is_empty_list l, NothingReady) ∷ [])) first.0, first.0, accepts (commits cpu t n) old new first.1)
looked cpu n (Err refusal) names left old new ready first =
    (looked_at (seen old) cpu n names ready ∙ ap (λ l. first_of ((is_empty_list l, NothingReady) ∷ [])) first.1 ∙ ap Some (sym first.0), first.2 ∙ ap (λ why. left_by why names) (sym first.0))

-- what a pick says, fact by fact
module _ (cpu n : ℕ) (names left : List ℕ) (old new : KernelRows) where
  pub pick_refusal : (result : Result ℕ Refusal) → Picks cpu n result names left old new → refusal_in result ≡ pick_refused (seen old) cpu n names
  pick_refusal (Ok t) picks = sym picks.0
  pick_refusal (Err refusal) picks = sym picks.0

  pub pick_first : (result : Result ℕ Refusal) → Picks cpu n result names left old new → IfOk result (λ t. ready_list (seen old) cpu n names ≡ t ∷ left)
  pick_first (Ok t) picks = picks.1
  pick_first (Err refusal) picks = tt

  pub pick_left : (result : Result ℕ Refusal) → Picks cpu n result names left old new → IfErr result (λ refusal. left ≡ left_by refusal names)
  pick_left (Ok t) picks = tt
  pick_left (Err refusal) picks = picks.1

  pub pick_accepted : (result : Result ℕ Refusal) → Picks cpu n result names left old new → IfOk result (λ t. Accepts (commits cpu t n) Done old new)
  pick_accepted (Ok t) picks = picks.2
  pick_accepted (Err refusal) picks = tt

-- a pick, by the agent's run list and what is read of the kernel
pub picked_as_seen : (n : ℕ) (result : Result ℕ Refusal) (old new : Agent) (k k2 : KernelRows) → Picks old.cpu n result old.list new.list k k2 → OnErr result (k2 ≡ k)
    → new.view ≡ old.view → new.sent_items ≡ old.sent_items → new.cpu ≡ old.cpu → rules_in new ≡ rules_in old → new.counts ≡ pick_counted result old.counts → PicksAsSeen n old k result new k2
picked_as_seen n (Ok t) old new k k2 picks err view count cpu ranks counts =
    (picks.0, record { kernel = picks.2; list = picks.1; sent_items = count; same = record { view = view; cpu = cpu; rules = ranks; counts = counts } })
picked_as_seen n (Err refusal) old new k k2 picks err view count cpu ranks counts =
    (picks.0, record { kernel = err; list = picks.1; sent_items = count; same = record { view = view; cpu = cpu; rules = ranks; counts = counts } })

-- a pick, in the words of the plain agent
pub picked : (P : PlainKernel) (run : Run) (p : PlainAgent) (n : ℕ) (result : Result ℕ Refusal) (old new : Agent) (k k2 : KernelRows) → Shows k P → ShowsAgent run p old
    → Picks old.cpu n result old.list new.list k k2 → new.view ≡ old.view → new.sent_items ≡ old.sent_items → rules_in new ≡ rules_in old → IsPicked n P run p result old.cpu new k2
picked P run p n (Ok t) old new k k2 shows h picks view count ranks =
    let took = picks.2 P shows in (
      sym (λ i. pick_refused (shows.reads i) old.cpu n (h.list i)) ∙ picks.0,
      record {
        rest = new.list;
        first = sym (λ i. ready_list (shows.reads i) old.cpu n (h.list i)) ∙ picks.1;
        accepted = not_refused P (commits old.cpu t n) took.0;
        after = took.1;
        agent = record { view = subst (λ v. ShowsView run p.known v) (sym view) h.view; list = refl; sent_items = count ∙ h.sent_items; rules = ranks ∙ h.rules };
      },
    )
picked P run p n (Err refusal) old new k k2 shows h picks view count ranks = (
  sym (λ i. pick_refused (shows.reads i) old.cpu n (h.list i)) ∙ picks.0,
  record { view = subst (λ v. ShowsView run p.known v) (sym view) h.view; list = picks.1 ∙ ap (λ l. left_by refusal l) h.list; sent_items = count ∙ h.sent_items; rules = ranks ∙ h.rules },
)
