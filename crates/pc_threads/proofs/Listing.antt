-- One more accepted call at the end of a book's list.
use Rattle.std.proofs.Common.{◌≡◌, ◌↔◌, IfSome, List, [], ◌∷◌, ◌++◌, Option, Some, Result, Ok, Err, refl, sym, ◌∙◌, ap, subst}
use Rattle.pc_calls.specs.declared.call.Call.{Call}
use Rattle.pc_calls.specs.declared.call.Answer.{Answer}
use Rattle.pc_calls.specs.Conditions.{refusal_in}
use Rattle.pc_calls.specs.declared.limits.Limits.{Limits}
use Rattle.pc_calls.specs.declared.refusal.Refusal.{Refusal}
use Rattle.pc_calls.specs.declared.refusal.CallFault.{CallFault}
use Rattle.pc_calls.specs.declared.refusal.CallFault.TheVariants.{Refused, OutOfMemory}
use Rattle.pc_kernel.specs.Answers.{Accepts, RepliesInMemory, Shows, StepsInMemory, itself}
use Rattle.pc_kernel.specs.PlainKernel.{PlainKernel, start}
use Rattle.pc_kernel.specs.Rows.{KernelRows}
use Rattle.pc_kernel.specs.Steps.{after, replay, reply}
use Rattle.pc_threads.specs.Pages.{AreAccepted, IsReplay, Lists, Pages, answered, calls_of}

-- a call that a kernel answered is accepted with the answer
accepted_reply : (answer : Answer) (old new : KernelRows) (r : Result Answer Refusal) (Q : PlainKernel) → RepliesInMemory itself (Ok answer) old new r Q
    → (r ≡ Ok answer) × Shows new Q
accepted_reply answer old new (Ok a) Q h = (ap Ok (sym h.0), h.1)
accepted_reply answer old new (Err refusal) Q h = absurd h

pub accepts : (call : Call) (answer : Answer) (old new : KernelRows) → StepsInMemory itself call (Ok answer) old new → Accepts call answer old new
accepts call answer old new steps P shows = accepted_reply answer old new (reply P call) (after P call) (steps P shows)

-- a list of calls with one call more
calls_more : (listed : List (Call × Answer)) (entry : Call × Answer) → calls_of (listed ++ entry ∷ []) ≡ calls_of listed ++ entry.0 ∷ []
calls_more [] entry = refl
calls_more (first ∷ listed) entry = ap (λ calls. first.0 ∷ calls) (calls_more listed entry)

replay_more : (P : PlainKernel) (calls : List Call) (call : Call) → replay P (calls ++ call ∷ []) ≡ after (replay P calls) call
replay_more P [] call = refl
replay_more P (first ∷ calls) call = replay_more (after P first) calls call

accepted_more : (P : PlainKernel) (listed : List (Call × Answer)) (entry : Call × Answer) → AreAccepted P listed
    → reply (replay P (calls_of listed)) entry.0 ≡ Ok entry.1 → AreAccepted P (listed ++ entry ∷ [])
accepted_more P [] entry are is = (is, tt)
accepted_more P (first ∷ listed) entry are is = (are.0, accepted_more (after P first.0) listed entry are.1 is)

replayed_more : (limits : Limits) (k : KernelRows) (listed : List (Call × Answer)) (entry : Call × Answer)
    → Shows k (after (replay (start limits) (calls_of listed)) entry.0) → Shows k (replay (start limits) (calls_of (listed ++ entry ∷ [])))
replayed_more limits k listed entry shows =
    subst (Shows k) (sym (ap (replay (start limits)) (calls_more listed entry) ∙ replay_more (start limits) (calls_of listed) entry.0)) shows

more : (limits : Limits) (old new : KernelRows) (listed : List (Call × Answer)) (call : Call) (answer : Answer) → old.limits ≡ limits → new.limits ≡ limits
    → IsReplay record { kernel = old; calls = listed } → Accepts call answer old new → IsReplay record { kernel = new; calls = listed ++ (call, answer) ∷ [] }
more limits old new listed call answer was is h does =
    let did = does (replay (start old.limits) (calls_of listed)) h.shown in
    let same : old.limits ≡ new.limits = was ∙ sym is in
    record {
      accepted = subst (λ l. AreAccepted (start l) (listed ++ (call, answer) ∷ [])) same (accepted_more (start old.limits) listed (call, answer) h.accepted did.0);
      shown = subst (λ l. Shows new (replay (start l) (calls_of (listed ++ (call, answer) ∷ [])))) same (replayed_more old.limits new listed (call, answer) did.1);
    }

-- a book that lists an accepted call is a replay again
pub listed_again : (old new : Pages) (call : Call) (answer : Answer) → new.kernel.limits ≡ old.kernel.limits → IsReplay old → Lists call answer old new → IsReplay new
listed_again old new call answer limits h lists =
    subst (λ calls. IsReplay record { kernel = new.kernel; calls = calls }) (sym lists.listed)
    (more old.kernel.limits old.kernel new.kernel old.calls call answer refl limits h lists.accepted)

-- what is listed, from the clauses of the calls that listed it: the list had room, and the entry was put at its end
pub entry_listed : (old grown new : List (Call × Answer)) (entry : Call × Answer) → grown ≡ old → new ≡ grown ++ entry ∷ [] → new ≡ old ++ entry ∷ []
entry_listed old grown new entry same put = put ∙ ap (λ calls. calls ++ entry ∷ []) same

-- the same from what an agent says: the call that was listed is the one that the kernel accepted
pub put : (old new : KernelRows) (calls grown later : List (Call × Answer)) (call made : Call) (answer : Answer) → call ≡ made → grown ≡ calls
    → later ≡ grown ++ (made, answer) ∷ [] → new.limits ≡ old.limits → Accepts call answer old new → IsReplay record { kernel = old; calls = calls }
    → IsReplay record { kernel = new; calls = later }
put old new calls grown later call made answer same kept at limits accepted h =
    listed_again (record { kernel = old; calls = calls }) (record { kernel = new; calls = later }) made answer limits h
    (record { accepted = subst (λ d. Accepts d answer old new) same accepted; listed = entry_listed calls grown later (made, answer) kept at })

abbrev failed : CallFault → Result Answer CallFault
failed fault = Err fault

-- what is read of a call's fault is its refusal, where memory did not run out
pub fault_again : (A : Type 0) (why : Option Refusal) (fault : CallFault)
    → ((refusal : Refusal) → (failed fault ≡ failed (Refused refusal)) ↔ (why ≡ Some refusal))
    → IfSome (answered {A = A} (Err fault)) (λ answer. refusal_in answer ≡ why)
fault_again A why (Refused refusal) is = sym ((is refusal).0 refl)
fault_again A why OutOfMemory is = tt
