-- A kernel that calls lead to is still one after a further call.
use Rattle.std.proofs.Common.{◌≡◌, ◌⊎◌, [], ◌∷◌, ◌++◌, None, Result, Ok, Err, IfOk, OnErr, sym, subst, inl, inr}
use Rattle.pc_calls.specs.declared.call.Call.{Call}
use Rattle.pc_calls.specs.declared.call.Call.TheVariants.{Env}
use Rattle.pc_calls.specs.declared.call.EnvCall.{EnvCall}
use Rattle.pc_calls.specs.declared.call.Posted.{Posted}
use Rattle.pc_calls.specs.declared.call.Answer.{Answer}
use Rattle.pc_calls.specs.declared.call.Answer.TheVariants as answer
use Rattle.pc_calls.specs.declared.refusal.Refusal.{Refusal}
use Rattle.pc_calls.specs.declared.refusal.CallFault.{CallFault}
use Rattle.pc_calls.specs.declared.refusal.CallFault.TheVariants.{Refused, OutOfMemory}
use Rattle.pc_calls.specs.declared.limits.Limits.{Limits}
use Rattle.pc_kernel.specs.PlainKernel.{PlainKernel, start}
use Rattle.pc_kernel.specs.Rows.{KernelRows}
use Rattle.pc_kernel.specs.Answers.{Shows, IsReached, Replies, RepliesInMemory, Steps, StepsInMemory, done}
use Rattle.pc_kernel.specs.Inner.Sends.{Sends, Becomes}
use Rattle.pc_kernel.specs.Reads.{seen}
use Rattle.pc_kernel.specs.Steps.{refused, posting, changed, accepted, reply, after, replay}
use Rattle.pc_kernel.proofs.Answered.{replay_then}
use Rattle.pc_kernel.proofs.Stepped.{does, posts_steps}

-- the call was made, or nothing changed
abbrev pub WentOn : KernelRows → KernelRows → PlainKernel → Type 0
WentOn old new Q = Shows new Q ⊎ (new ≡ old)

went_on : {A : Type 0} (tell : A → Answer) (r : Result A Refusal) (old new : KernelRows) (o : Result Answer Refusal) (Q : PlainKernel) → Replies tell r old new o Q → WentOn old new Q
went_on tell (Ok a) old new (Ok answer) Q h = inl h.1
went_on tell (Err e) old new (Err refusal) Q h = inr h.1
went_on tell (Ok a) old new (Err refusal) Q h = absurd h
went_on tell (Err e) old new (Ok answer) Q h = absurd h

went_on_in_memory : {A : Type 0} (tell : A → Answer) (r : Result A CallFault) (old new : KernelRows) (o : Result Answer Refusal) (Q : PlainKernel) → RepliesInMemory tell r old new o Q → WentOn old new Q
went_on_in_memory tell (Ok a) old new (Ok answer) Q h = inl h.1
went_on_in_memory tell (Err (Refused e)) old new (Err refusal) Q h = inr h.1
went_on_in_memory tell (Err OutOfMemory) old new (Ok answer) Q h = inr h
went_on_in_memory tell (Ok a) old new (Err refusal) Q h = absurd h
went_on_in_memory tell (Err (Refused e)) old new (Ok answer) Q h = absurd h
went_on_in_memory tell (Err OutOfMemory) old new (Err refusal) Q h = absurd h

reached_on : (call : Call) (old new : KernelRows) (h : IsReached old) → new.limits ≡ old.limits → WentOn old new (after (replay (start old.limits) h.calls) call) → IsReached new
reached_on call old new h same (inr unchanged) = subst IsReached (sym unchanged) h
reached_on call old new h same (inl shows) =
    record {
      calls = h.calls ++ call ∷ [];
      shows = subst (λ (limits : Limits). Shows new (replay (start limits) (h.calls ++ call ∷ []))) (sym same)
          (subst (λ (P : PlainKernel). Shows new P) (sym (replay_then (start old.limits) h.calls (call ∷ []))) shows);
    }

-- an agent's call, and one that takes memory
pub reached : {A : Type 0} (tell : A → Answer) (call : Call) (r : Result A Refusal) (old new : KernelRows) → Steps tell call r old new → new.limits ≡ old.limits → IsReached old → IsReached new
reached tell call r old new steps same h =
    let P : PlainKernel = replay (start old.limits) h.calls in
    reached_on call old new h same (went_on tell r old new (reply P call) (after P call) (steps P h.shows))

pub reached_in_memory : {A : Type 0} (tell : A → Answer) (call : Call) (r : Result A CallFault) (old new : KernelRows) → StepsInMemory tell call r old new → new.limits ≡ old.limits → IsReached old → IsReached new
reached_in_memory tell call r old new steps same h =
    let P : PlainKernel = replay (start old.limits) h.calls in
    reached_on call old new h same (went_on_in_memory tell r old new (reply P call) (after P call) (steps P h.shows))

-- an agent's call that did something, and a post
pub does_reached : (call : Call) (old new : KernelRows) → refused (seen old) call ≡ None → ((P : PlainKernel) → accepted P call ≡ answer.Done) → Becomes (λ P. changed P call) old new → new.limits ≡ old.limits → IsReached old → IsReached new
does_reached call old new h answers becomes same k = reached done call (Ok tt) old new (does call tt old new h answers becomes) same k

pub posts_reached : {E : Type 0} (call : EnvCall) (r : Result Posted E) (old new : KernelRows) → refused (seen old) (Env call) ≡ None → IfOk r (λ posted. Sends (λ P. posting P call) posted old new) → OnErr r (new ≡ old)
    → new.limits ≡ old.limits → IsReached old → IsReached new
posts_reached call r old new h sends same limits k = reached_in_memory answer.Posted (Env call) _ old new (posts_steps call r old new h sends same) limits k

-- at the start no call was made
pub reached_start : (k : KernelRows) → Shows k (start k.limits) → IsReached k
reached_start k shows = record { calls = []; shows = shows }
