-- From what a call of the code says, that the step accepts the call or refuses it; and whole lists of calls.
use Rattle.std.proofs.Common.{◌≡◌, ◌≢◌, ◌↔◌, List, [], ◌∷◌, ◌++◌, Option, Some, None, Result, Ok, Err, IfOk, refl, sym, ap}
use Rattle.std.specs.Result.{result_map_both}
use Rattle.pc_calls.specs.Conditions.{refusal_in}
use Rattle.pc_calls.specs.declared.call.Call.{Call}
use Rattle.pc_calls.specs.declared.call.Posted.{Posted}
use Rattle.pc_calls.specs.declared.call.Answer.{Answer}
use Rattle.pc_calls.specs.declared.call.Answer.TheVariants as answer
use Rattle.pc_calls.specs.declared.refusal.Refusal.{Refusal}
use Rattle.pc_calls.specs.declared.refusal.CallFault.{CallFault}
use Rattle.pc_calls.specs.declared.refusal.CallFault.TheVariants.{Refused, OutOfMemory}
use Rattle.pc_kernel.specs.PlainKernel.{PlainKernel}
use Rattle.pc_kernel.specs.Rows.{KernelRows}
use Rattle.pc_kernel.specs.Reads.{shown}
use Rattle.pc_kernel.specs.Answers.{Shows, Replies, RepliesInMemory, Steps, StepsInMemory, done, itself, Accepts, Refuses, Replays}
use Rattle.pc_kernel.specs.Steps.{reply, reply_of, after, after_of, refused, replay, changed, accepted}

accepted_reply : {A : Type 0} (tell : A → Answer) (a : A) (old new : KernelRows) (r : Result Answer Refusal) (Q : PlainKernel) → RepliesInMemory tell (Ok a) old new r Q → (r ≡ Ok (tell a)) × Shows new Q
accepted_reply tell a old new (Ok answer) Q h = (ap (λ (a : Answer). Ok a) (sym h.0), h.1)
accepted_reply tell a old new (Err refusal) Q h = absurd h

-- an Ok: the step accepts
pub accepts : {A : Type 0} (tell : A → Answer) (call : Call) (a : A) (old new : KernelRows) → StepsInMemory tell call (Ok a) old new → Accepts call (tell a) old new
accepts tell call a old new h P shows = accepted_reply tell a old new (reply P call) (after P call) (h P shows)

refused_reply : {A : Type 0} (tell : A → Answer) (e : Refusal) (old new : KernelRows) (r : Result Answer Refusal) (Q : PlainKernel) → Replies tell (Err e) old new r Q → (r ≡ Err e) × (new ≡ old)
refused_reply tell e old new (Ok answer) Q h = absurd h
refused_reply tell e old new (Err refusal) Q h = (ap (λ (e : Refusal). Err e) (sym h.0), h.1)

refused_in_memory : {A : Type 0} (tell : A → Answer) (e : Refusal) (old new : KernelRows) (r : Result Answer Refusal) (Q : PlainKernel) → RepliesInMemory tell (Err (Refused e)) old new r Q → (r ≡ Err e) × (new ≡ old)
refused_in_memory tell e old new (Ok answer) Q h = absurd h
refused_in_memory tell e old new (Err refusal) Q h = (ap (λ (e : Refusal). Err e) (sym h.0), h.1)

-- an Err that is not want of memory: the step refuses with it
pub refuses : {A : Type 0} (tell : A → Answer) (call : Call) (e : Refusal) (old new : KernelRows) → StepsInMemory tell call (Err (Refused e)) old new → Refuses call e old new
refuses tell call e old new h P shows = refused_in_memory tell e old new (reply P call) (after P call) (h P shows)

-- the same of a call that takes no memory
pub accepts_plainly : {A : Type 0} (tell : A → Answer) (call : Call) (a : A) (old new : KernelRows) → Steps tell call (Ok a) old new → Accepts call (tell a) old new
accepts_plainly tell call a old new h P shows = plainly (reply P call) (after P call) (h P shows)
  where
    plainly : (r : Result Answer Refusal) (Q : PlainKernel) → Replies tell (Ok a) old new r Q → (r ≡ Ok (tell a)) × Shows new Q
    plainly (Ok answer) Q h = (ap (λ (a : Answer). Ok a) (sym h.0), h.1)
    plainly (Err refusal) Q h = absurd h

pub refuses_plainly : {A : Type 0} (tell : A → Answer) (call : Call) (e : Refusal) (old new : KernelRows) → Steps tell call (Err e) old new → Refuses call e old new
refuses_plainly tell call e old new h P shows = refused_reply tell e old new (reply P call) (after P call) (h P shows)

-- a post's answer as the answer of a call
pub told : (call : Call) (r : Result Posted CallFault) (old new : KernelRows) → StepsInMemory answer.Posted call r old new → StepsInMemory itself call (result_map_both answer.Posted (λ fault. fault) r) old new
told call r old new h P shows = retold r (reply P call) (after P call) (h P shows)
  where
    retold : (r : Result Posted CallFault) (o : Result Answer Refusal) (Q : PlainKernel) → RepliesInMemory answer.Posted r old new o Q → RepliesInMemory itself (result_map_both answer.Posted (λ fault. fault) r) old new o Q
    retold (Ok posted) (Ok answer) Q h = h
    retold (Ok posted) (Err refusal) Q h = h
    retold (Err OutOfMemory) (Ok answer) Q h = h
    retold (Err OutOfMemory) (Err refusal) Q h = h
    retold (Err (Refused e)) (Ok answer) Q h = h
    retold (Err (Refused e)) (Err refusal) Q h = h

-- an agent's answer as the answer of a call
pub told_plainly : (call : Call) (r : Result (Unit {0}) Refusal) (old new : KernelRows) → Steps done call r old new → StepsInMemory itself call (result_map_both (λ _. answer.Done) Refused r) old new
told_plainly call r old new h P shows = retold r (reply P call) (after P call) (h P shows)
  where
    retold : (r : Result (Unit {0}) Refusal) (o : Result Answer Refusal) (Q : PlainKernel) → Replies done r old new o Q → RepliesInMemory itself (result_map_both (λ _. answer.Done) Refused r) old new o Q
    retold (Ok unit) (Ok answer) Q h = h
    retold (Ok unit) (Err refusal) Q h = h
    retold (Err e) (Ok answer) Q h = h
    retold (Err e) (Err refusal) Q h = h

-- nor is it want of memory
pub plainly : (r : Result (Unit {0}) Refusal) → result_map_both (λ _. answer.Done) Refused r ≢ Err OutOfMemory
plainly (Ok unit) e = cc
plainly (Err refusal) e = cc

-- it is refused as the post or the agent's call is
pub fault_told : (o : Option Refusal) (r : Result Posted CallFault) → ((refusal : Refusal) → (r ≡ Err (Refused refusal)) ↔ (o ≡ Some refusal))
    → (refusal : Refusal) → (result_map_both answer.Posted (λ fault. fault) r ≡ Err (Refused refusal)) ↔ (o ≡ Some refusal)
fault_told o (Ok posted) h refusal = (λ e. cc, λ e. let no = (h refusal).1 e in cc)
fault_told o (Err fault) h refusal = (λ e. (h refusal).0 (let same : fault ≡ Refused refusal = cc in cc), λ e. let is = (h refusal).1 e in cc)

pub fault_told_plainly : (o : Option Refusal) (r : Result (Unit {0}) Refusal) → refusal_in r ≡ o
    → (refusal : Refusal) → (result_map_both (λ _. answer.Done) Refused r ≡ Err (Refused refusal)) ↔ (o ≡ Some refusal)
fault_told_plainly o (Ok unit) h refusal = (λ e. cc, λ e. cc)
fault_told_plainly o (Err why) h refusal = (λ e. cc, λ e. cc)

-- lists of calls: none, one that is accepted, one that is refused, and one list after another
pub replays_none : (k : KernelRows) → Replays [] k k
replays_none k P shows = shows

pub replays_accepted : (call : Call) (answer : Answer) (old new : KernelRows) → Accepts call answer old new → Replays (call ∷ []) old new
replays_accepted call answer old new h P shows = (h P shows).1

pub replays_refused : (call : Call) (e : Refusal) (old new : KernelRows) → Refuses call e old new → Replays (call ∷ []) old new
replays_refused call e old new h P shows =
    let r = h P shows in
    let same : after P call ≡ P = stays (refused (shown P) call) (accepted P call) (changed P call) P r.0 in
    rw (same, r.1) shows
  where
    stays : (o : Option Refusal) (answer : Answer) (Q P : PlainKernel) → reply_of o answer ≡ Err e → after_of o Q P ≡ P
    stays None answer Q P h = cc
    stays (Some refusal) answer Q P h = refl

pub replay_then : (P : PlainKernel) (first then' : List Call) → replay P (first ++ then') ≡ replay (replay P first) then'
replay_then P [] then' = refl
replay_then P (call ∷ first) then' = replay_then (after P call) first then'

pub replays_then : (first then' : List Call) (old middle new : KernelRows) → Replays first old middle → Replays then' middle new → Replays (first ++ then') old new
replays_then first then' old middle new h g P shows = rw (replay_then P first then') (g (replay P first) (h P shows))

-- the one call, where it was accepted
pub replays_ok : {A : Type 0} (tell : A → Answer) (call : Call) (r : Result A CallFault) (old new : KernelRows) → StepsInMemory tell call r old new → IfOk r (λ _. Replays (call ∷ []) old new)
replays_ok tell call (Ok a) old new h = replays_accepted call (tell a) old new (accepts tell call a old new h)
replays_ok tell call (Err e) old new h = tt

-- the last of several calls, where it was accepted
pub replays_last : {A : Type 0} (first : List Call) (call : Call) (r : Result A CallFault) (old middle new : KernelRows) → Replays first old middle → IfOk r (λ _. Replays (call ∷ []) middle new) → IfOk r (λ _. Replays (first ++ call ∷ []) old new)
replays_last first call (Ok a) old middle new h g = replays_then first (call ∷ []) old middle new h g
replays_last first call (Err e) old middle new h g = tt
