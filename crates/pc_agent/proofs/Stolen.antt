-- What a steal did, in the words of the plain agent.
use Rattle.std.proofs.Common.{ℕ, ◌≡◌, Bool, true, false, List, [], ◌∷◌, ◌++◌, length, take, Option, Some, None, Result, Ok, Err, IfOk, MatchBool, MatchOption, is_some, refl, sym, ap, ◌∙◌, subst}
use Rattle.std.proofs.Math.Seq.{take-append_seam}
use Rattle.pc_messages.specs.Run.{Run}
use Rattle.pc_messages.specs.State.{state_of}
use Rattle.pc_calls.specs.AgentCalls.{associates}
use Rattle.pc_calls.specs.declared.call.Call.{Call}
use Rattle.pc_calls.specs.declared.call.Answer.TheVariants.{Done}
use Rattle.pc_calls.specs.declared.refusal.Refusal.{Refusal}
use Rattle.pc_calls.specs.declared.refusal.Refusal.TheVariants.{Busy, NothingToSteal}
use Rattle.pc_calls.specs.declared.refusal.CallFault.{CallFault}
use Rattle.pc_calls.specs.declared.refusal.CallFault.TheVariants.{Refused, OutOfMemory}
use Rattle.pc_kernel.specs.Answers.{Accepts, Shows, Steps, done}
use Rattle.pc_kernel.specs.Exact.{AcceptedAssociatesAreExact}
use Rattle.pc_kernel.specs.PlainKernel.{PlainKernel, kinds}
use Rattle.pc_kernel.specs.Reads.{Reads, seen, shown, on}
use Rattle.pc_kernel.specs.Rows.{KernelRows}
use Rattle.pc_kernel.specs.Steps.{after, refused}
use Rattle.pc_view.specs.declared.view.View.{View}
use Rattle.pc_view.specs.Prefixes.{upto, upto_of}
use Rattle.pc_policy.specs.Rules.{Rules}
use Rattle.pc_agent.specs.declared.agent.Agent.{Agent}
use Rattle.pc_agent.specs.Own.{HasTakenOver, StealsAsSeen}
use Rattle.pc_agent.specs.PlainAgent.{PlainAgent, candidates, known_by, known_in, stealing}
use Rattle.pc_agent.specs.Publishing.{WhateverShown}
use Rattle.pc_agent.specs.Running.{FindsFirst, IsSeenExactly, IsTakenOver, Steals, StealsBy, TriesFirst, takes_over, takes_up_to}
use Rattle.pc_agent.specs.Shows.{ShowsAgent, ShowsView, rules_in}
use Rattle.pc_agent.proofs.Delivered.{ReportsAreTold, UptosAreTold}
use Rattle.pc_agent.proofs.Ready.{accepts, not_refused}

-- what is left of a list whose last name was put there
pub put_back : (result : Option ℕ) (old pushed new : List ℕ) (x : ℕ) → MatchOption result ((pushed ≡ []) × (new ≡ [])) (λ y. pushed ≡ new ++ y ∷ [])
    → pushed ≡ old ++ x ∷ [] → new ≡ old
put_back None [] pushed new x h e = cc
put_back None (a ∷ old) pushed new x h e = cc
put_back (Some y) old pushed new x h e = shed new old y x (sym h ∙ e)
  where
    shed : (xs ys : List ℕ) (x y : ℕ) → xs ++ x ∷ [] ≡ ys ++ y ∷ [] → xs ≡ ys
    shed [] [] x y e = refl
    shed [] (b ∷ []) x y e = cc
    shed [] (b ∷ c ∷ ys) x y e = cc
    shed (a ∷ []) [] x y e = cc
    shed (a ∷ c ∷ xs) [] x y e = cc
    shed (a ∷ xs) (b ∷ ys) x y e =
        let heads : a ≡ b = cc in
        let tails : xs ++ x ∷ [] ≡ ys ++ y ∷ [] = cc in
        let fronts : xs ≡ ys = shed xs ys x y tails in
        cc

-- a steal for a busy CPU, and for an idle one
module _ (rules : Rules) (view : View) (cpu : ℕ) (result : Result ℕ CallFault) (old new : List ℕ) (before after : KernelRows) where
  abbrev Tries : Type 0
  Tries = TriesFirst (seen before) (candidates rules (seen before) (known_in view) cpu old) (takes_up_to (upto_of view) cpu) (λ t. HasTakenOver (takes_up_to (upto_of view) cpu t) t old new before after) result

  pub for_busy : is_some (on (seen before) cpu) ≡ true → result ≡ Err (Refused Busy) → StealsAsSeen rules view cpu result old new before after
  for_busy busy e = subst (λ b. MatchBool b (result ≡ Err (Refused Busy)) Tries) (sym busy) e

  pub for_idle : is_some (on (seen before) cpu) ≡ false → Tries → StealsAsSeen rules view cpu result old new before after
  for_idle idle tries = subst (λ b. MatchBool b (result ≡ Err (Refused Busy)) Tries) (sym idle) tries

-- the least thread that may be taken over was found, and tried
module _ (rules : Rules) (view : View) (cpu : ℕ) (old : List ℕ) (before : KernelRows) (idle : is_some (on (seen before) cpu) ≡ false) where
  abbrev Found : Option ℕ → Type 0
  Found o = FindsFirst (candidates rules (seen before) (known_in view) cpu old) o

  pub none_found : Found None → StealsAsSeen rules view cpu (Err (Refused NothingToSteal)) old old before before
  none_found none = for_idle rules view cpu (Err (Refused NothingToSteal)) old old before before idle (None, none, refl)

  module _ (t : ℕ) (found : Found (Some t)) where
    pub none_left : (new : List ℕ) → StealsAsSeen rules view cpu (Err OutOfMemory) old new before before
    none_left new = for_idle rules view cpu (Err OutOfMemory) old new before before idle (t, found)

    module _ (n : ℕ) (is : n ≡ upto_of view t) (new : List ℕ) (after : KernelRows) where
      pub was_taken : None ≡ refused (seen before) (associates t cpu n) → Steps done (associates t cpu n) (Ok tt) before after → new ≡ old ++ t ∷ [] → StealsAsSeen rules view cpu (Ok t) old new before after
      was_taken accepted steps list =
          let same : associates t cpu n ≡ takes_up_to (upto_of view) cpu t = ap (λ m. associates t cpu m) is in
          for_idle rules view cpu (Ok t) old new before after idle (
            found,
            ap (λ takes. refused (seen before) takes) (sym same) ∙ sym accepted,
            record { kernel = subst (λ takes. Accepts takes Done before after) same (accepts (associates t cpu n) before after steps); list = list },
          )

      pub was_not_taken : (refusal : Refusal) → Some refusal ≡ refused (seen before) (associates t cpu n) → StealsAsSeen rules view cpu (Err (Refused refusal)) old new before after
      was_not_taken refusal why =
          for_idle rules view cpu (Err (Refused refusal)) old new before after idle (Some t, found, ap (λ m. refused (seen before) (associates t cpu m)) (sym is) ∙ sym why)

-- what follows of a thread that was taken over
also : (r : Reads) (cpu : ℕ) (test : ℕ → Option ℕ) (takes : ℕ → Call) (Taken More : ℕ → Type 0) (result : Result ℕ CallFault) → ((t : ℕ) → Taken t → More t) → StealsBy r cpu test takes Taken result → StealsBy r cpu test takes More result
also r cpu test takes Taken More result more = by_test (is_some (on r cpu)) result
  where
    by_test : (b : Bool) (result : Result ℕ CallFault) → MatchBool b (result ≡ Err (Refused Busy)) (TriesFirst r test takes Taken result) → MatchBool b (result ≡ Err (Refused Busy)) (TriesFirst r test takes More result)
    by_test true result h = h
    by_test false (Ok t) h = (h.0, h.1, more t h.2)
    by_test false (Err (Refused refusal)) h = h
    by_test false (Err OutOfMemory) h = h

-- what holds of a thread that was taken over
had : (r : Reads) (cpu : ℕ) (test : ℕ → Option ℕ) (takes : ℕ → Call) (Taken : ℕ → Type 0) (t : ℕ) → StealsBy r cpu test takes Taken (Ok t) → Taken t
had r cpu test takes Taken t = by_test (is_some (on r cpu))
  where
    by_test : (b : Bool) → MatchBool b (◌≡◌ {A = Result ℕ CallFault} (Ok t) (Err (Refused Busy))) (TriesFirst r test takes Taken (Ok t)) → Taken t
    by_test true e = absurd (let none : ⊥ = cc in none)
    by_test false h = h.2

-- what a steal says of a thread that was taken over, fact by fact
module _ (rules : Rules) (view : View) (cpu : ℕ) (list left : List ℕ) (before after : KernelRows) where
  taken_over : (t : ℕ) → StealsAsSeen rules view cpu (Ok t) list left before after → HasTakenOver (takes_up_to (upto_of view) cpu t) t list left before after
  taken_over t steals = had (seen before) cpu (candidates rules (seen before) (known_in view) cpu list) (takes_up_to (upto_of view) cpu) (λ u. HasTakenOver (takes_up_to (upto_of view) cpu u) u list left before after) t steals

  pub steal_accepted : (result : Result ℕ CallFault) → StealsAsSeen rules view cpu result list left before after → IfOk result (λ t. Accepts (takes_up_to (upto_of view) cpu t) Done before after)
  steal_accepted (Ok t) steals = (taken_over t steals).kernel
  steal_accepted (Err fault) steals = tt

  pub steal_listed : (result : Result ℕ CallFault) → StealsAsSeen rules view cpu result list left before after → IfOk result (λ t. left ≡ list ++ t ∷ [])
  steal_listed (Ok t) steals = (taken_over t steals).list
  steal_listed (Err fault) steals = tt

module _ (reported : ReportsAreTold) (known : UptosAreTold) (old : Agent) (k : KernelRows) where
  module _ (P : PlainKernel) (run : Run) (p : PlainAgent) (shows : Shows k P) (h : ShowsAgent run p old) where
    same_known : known_in old.view ≡ known_by run p.known
    same_known = λ i. record { upto = λ t. known run p.known old.view t h.view.of_run h.view.known i; reported = λ t. reported run p.known old.view t h.view.of_run h.view.known i }

    test_same : candidates (rules_in old) (seen k) (known_in old.view) old.cpu old.list ≡ stealing (shown P) run old.cpu p
    test_same = λ i. candidates (h.rules i) (shows.reads i) (same_known i) old.cpu (h.list i)

    takes_same : takes_up_to (upto_of old.view) old.cpu ≡ takes_over old.cpu p
    takes_same = λ i t. associates t old.cpu (known run p.known old.view t h.view.of_run h.view.known i)

    pub stolen : (result : Result ℕ CallFault) (new : Agent) (k2 : KernelRows) → StealsAsSeen (rules_in old) old.view old.cpu result old.list new.list k k2 → new.view ≡ old.view → new.sent_items ≡ old.sent_items → rules_in new ≡ rules_in old → Steals P run p result old.cpu new k2
    stolen result new k2 steals view count ranks =
        let Taken : ℕ → Type 0 = λ t. IsTakenOver P run p old.cpu t new k2 in
        let here = also (seen k) old.cpu (candidates (rules_in old) (seen k) (known_in old.view) old.cpu old.list) (takes_up_to (upto_of old.view) old.cpu) (λ t. HasTakenOver (takes_up_to (upto_of old.view) old.cpu t) t old.list new.list k k2) Taken result taken steals in
        let by_reads = subst (λ r. StealsBy r old.cpu (candidates (rules_in old) (seen k) (known_in old.view) old.cpu old.list) (takes_up_to (upto_of old.view) old.cpu) Taken result) shows.reads here in
        let by_test = subst (λ test. StealsBy (shown P) old.cpu test (takes_up_to (upto_of old.view) old.cpu) Taken result) test_same by_reads in
        subst (λ takes. StealsBy (shown P) old.cpu (stealing (shown P) run old.cpu p) takes Taken result) takes_same by_test
      where
        taken : (t : ℕ) → HasTakenOver (takes_up_to (upto_of old.view) old.cpu t) t old.list new.list k k2 → IsTakenOver P run p old.cpu t new k2
        taken t took = record {
          after = subst (λ takes. Shows k2 (after P (takes t))) takes_same (took.kernel P shows).1;
          agent = record { view = subst (λ v. ShowsView run p.known v) (sym view) h.view; list = took.list ∙ ap (λ l. l ++ t ∷ []) h.list; sent_items = count ∙ h.sent_items; rules = ranks ∙ h.rules };
        }

  pub exactly : AcceptedAssociatesAreExact → (result : Result ℕ CallFault) (left : List ℕ) (k2 : KernelRows) → StealsAsSeen (rules_in old) old.view old.cpu result old.list left k k2
      → IfOk result (λ t. WhateverShown k old (λ P run p. IsSeenExactly P run p t))
  exactly law (Err fault) left k2 steals = tt
  exactly law (Ok t) left k2 steals = λ P run p shows extends h.
      let took = taken_over (rules_in old) old.view old.cpu old.list left k k2 t steals in
      let exact = law P t old.cpu (upto_of old.view t) (not_refused P (takes_up_to (upto_of old.view) old.cpu t) (took.kernel P shows).0) in
      let whole : upto p.known t ≡ length (kinds P t) = sym (known run p.known old.view t h.view.of_run h.view.known) ∙ exact.current in
      record {
        whole = whole;
        state = ap (λ m. state_of (take m (run t))) whole ∙ ap (λ l. state_of (take (length (kinds P t)) l)) (extends t).1 ∙ ap state_of (take-append_seam (kinds P t) (extends t).0);
        nothing_waits = exact.nothing_waits;
      }
