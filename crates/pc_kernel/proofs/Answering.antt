-- That a call of the code is answered as its step is, from the first refusal that it met and what it did.
use Rattle.std.proofs.Common.{◌≡◌, ◌∙◌, ◌↔◌, ℕ, [], Option, Some, None, Result, Ok, Err, IfOk, OnErr, refl, sym}
use Rattle.std.proofs.lemmas.List.{append-nil}
use Rattle.std.specs.Result.{result_map_both}
use Rattle.pc_messages.specs.Run.{Run, Extends}
use Rattle.pc_calls.specs.declared.call.Call.{Call}
use Rattle.pc_calls.specs.declared.call.Call.TheVariants.{Env}
use Rattle.pc_calls.specs.declared.call.EnvCall.{EnvCall}
use Rattle.pc_calls.specs.declared.call.Posted.{Posted}
use Rattle.pc_calls.specs.declared.call.Answer.{Answer}
use Rattle.pc_calls.specs.declared.call.Answer.TheVariants as answer
use Rattle.pc_calls.specs.declared.refusal.Refusal.{Refusal}
use Rattle.pc_calls.specs.declared.refusal.CallFault.{CallFault}
use Rattle.pc_calls.specs.declared.refusal.CallFault.TheVariants.{Refused, OutOfMemory}
use Rattle.pc_kernel.specs.PlainKernel.{PlainKernel}
use Rattle.pc_kernel.specs.Rows.{KernelRows}
use Rattle.pc_kernel.specs.Reads.{seen, kinds_read}
use Rattle.pc_kernel.specs.Answers.{Answered, AnsweredInMemory, done, itself}
use Rattle.pc_kernel.specs.Inner.Sends.{Sends, Becomes}
use Rattle.pc_kernel.specs.Steps.{refused, posting, changed, accepted}
use Rattle.pc_kernel.proofs.Answered.{told, told_plainly, fault_told, fault_told_plainly}
use Rattle.pc_kernel.proofs.Stepped.{refuses, does, refused_steps, posts_steps}

-- a run goes on from the same one
same_run : (new old : Run) → ((t : ℕ) → new t ≡ old t) → Extends new old
same_run new old same t = ([], same t ∙ sym (append-nil (old t)))

-- a call of an agent that the reads refuse, and one that they accept
pub answers_refusal : (call : Call) (why : Refusal) (old : KernelRows) → refused (seen old) call ≡ Some why → Answered done call (Err why) old old
answers_refusal call why old h =
    record { step = refuses call why old h; fault = sym h; limits = refl; extends = same_run _ _ (λ t. refl); err = refl }

pub answers_change : (call : Call) (unit : Unit {0}) (old new : KernelRows) → refused (seen old) call ≡ None → ((P : PlainKernel) → accepted P call ≡ answer.Done) → Becomes (λ P. changed P call) old new
    → ((t : ℕ) → kinds_read (seen new) t ≡ kinds_read (seen old) t) → new.limits ≡ old.limits → Answered done call (Ok unit) old new
answers_change call unit old new h answers becomes kinds limits =
    record { step = does call unit old new h answers becomes; fault = sym h; limits = limits; extends = same_run _ _ kinds; err = tt }

-- what touches no thread leaves all kinds
pub same_kinds : (old new : KernelRows) → new.threads ≡ old.threads → (t : ℕ) → kinds_read (seen new) t ≡ kinds_read (seen old) t
same_kinds old new same t = rw same refl

-- a call that takes memory and that the reads refuse, and one that they accept and that posts, if it has memory
pub answers_refusal_in_memory : {A : Type 0} (tell : A → Answer) (call : Call) (why : Refusal) (old : KernelRows) → refused (seen old) call ≡ Some why → AnsweredInMemory tell call (Err (Refused why)) old old
answers_refusal_in_memory tell call why old h =
    record {
      step = refused_steps tell call why old h;
      fault = λ refusal. (λ e. let same : why ≡ refusal = cc in cc, λ e. let same : why ≡ refusal = cc in cc);
      limits = refl;
      extends = same_run _ _ (λ t. refl);
      err = refl;
    }

posts_fault : {E : Type 0} (o : Option Refusal) (r : Result Posted E) → o ≡ None
    → (refusal : Refusal) → (result_map_both (λ posted. posted) (λ _. OutOfMemory) r ≡ Err (Refused refusal)) ↔ (o ≡ Some refusal)
posts_fault o (Ok posted) h refusal = (λ e. cc, λ e. cc)
posts_fault o (Err e) h refusal = (λ e. cc, λ e. cc)

posts_err : {E : Type 0} (r : Result Posted E) (old new : KernelRows) → OnErr r (new ≡ old) → OnErr (result_map_both (λ posted. posted) (λ (_ : E). OutOfMemory) r) (new ≡ old)
posts_err (Ok posted) old new h = tt
posts_err (Err e) old new h = h

pub answers_post : {E : Type 0} (call : EnvCall) (r : Result Posted E) (old new : KernelRows) → refused (seen old) (Env call) ≡ None → IfOk r (λ posted. Sends (λ P. posting P call) posted old new) → OnErr r (new ≡ old)
    → new.limits ≡ old.limits → Extends (kinds_read (seen new)) (kinds_read (seen old))
    → AnsweredInMemory answer.Posted (Env call) (result_map_both (λ posted. posted) (λ _. OutOfMemory) r) old new
answers_post call r old new h sends same limits extends =
    record {
      step = posts_steps call r old new h sends same;
      fault = posts_fault (refused (seen old) (Env call)) r h;
      limits = limits;
      extends = extends;
      err = posts_err r old new same;
    }

-- a post's answer, or an agent's, as the answer of a call
told_err : (r : Result Posted CallFault) (old new : KernelRows) → OnErr r (new ≡ old) → OnErr (result_map_both answer.Posted (λ fault. fault) r) (new ≡ old)
told_err (Ok posted) old new h = tt
told_err (Err fault) old new h = h

pub answers_told : (call : Call) (r : Result Posted CallFault) (old new : KernelRows) → AnsweredInMemory answer.Posted call r old new → AnsweredInMemory itself call (result_map_both answer.Posted (λ fault. fault) r) old new
answers_told call r old new h =
    record {
      step = told call r old new h.step;
      fault = fault_told (refused (seen old) call) r h.fault;
      limits = h.limits;
      extends = h.extends;
      err = told_err r old new h.err;
    }

told_plainly_err : (r : Result (Unit {0}) Refusal) (old new : KernelRows) → OnErr r (new ≡ old) → OnErr (result_map_both (λ _. answer.Done) Refused r) (new ≡ old)
told_plainly_err (Ok unit) old new h = tt
told_plainly_err (Err refusal) old new h = h

pub answers_told_plainly : (call : Call) (r : Result (Unit {0}) Refusal) (old new : KernelRows) → Answered done call r old new → AnsweredInMemory itself call (result_map_both (λ _. answer.Done) Refused r) old new
answers_told_plainly call r old new h =
    record {
      step = told_plainly call r old new h.step;
      fault = fault_told_plainly (refused (seen old) call) r h.fault;
      limits = h.limits;
      extends = h.extends;
      err = told_plainly_err r old new h.err;
    }
