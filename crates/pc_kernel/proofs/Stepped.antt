-- That a call of the code is its step, from the first refusal that it met and what it did.
use Rattle.std.proofs.Common.{◌≡◌, ◌∙◌, ℕ, Bool, true, false, not, List, ◌∷◌, Option, Some, None, Result, Ok, Err, IfOk, OnErr, is_none, unwrap_or, refl, sym, ap, subst}
use Rattle.std.specs.Result.{IsErrAnd, result_map_both}
use Rattle.pc_messages.specs.declared.kind.Kind.{Kind}
use Rattle.pc_calls.specs.declared.call.Call.{Call}
use Rattle.pc_calls.specs.declared.call.Call.TheVariants.{Env}
use Rattle.pc_calls.specs.declared.call.EnvCall.{EnvCall}
use Rattle.pc_calls.specs.declared.call.Posted.{Posted}
use Rattle.pc_calls.specs.declared.call.Answer.{Answer}
use Rattle.pc_calls.specs.declared.call.Answer.TheVariants as answer
use Rattle.pc_calls.specs.declared.refusal.Refusal.{Refusal}
use Rattle.pc_calls.specs.declared.refusal.Refusal.TheVariants as refusal
use Rattle.pc_calls.specs.declared.refusal.CallFault.{CallFault}
use Rattle.pc_calls.specs.declared.refusal.CallFault.TheVariants.{Refused, OutOfMemory}
use Rattle.pc_kernel.specs.PlainKernel.{PlainKernel}
use Rattle.pc_kernel.specs.Rows.{KernelRows}
use Rattle.pc_kernel.specs.Reads.{Reads, seen, shown, on, is_cpu}
use Rattle.pc_kernel.specs.Answers.{Shows, Replies, RepliesInMemory, Steps, StepsInMemory, done}
use Rattle.pc_calls.specs.Conditions.{first_of}
use Rattle.pc_kernel.specs.Inner.Sends.{Sends, Becomes, Leaves}
use Rattle.pc_kernel.specs.Steps.{Condition, refused, posting, telling, receipt, at, post_refusals, leave_refusals, changed, accepted}
use Rattle.pc_kernel.specs.Steps.{posted as after_post}
use Rattle.pc_kernel.proofs.ShownReads.{shown-on}

refused_reply : {A : Type 0} (tell : A → Answer) (e : Refusal) (k : KernelRows) (P : PlainKernel) → RepliesInMemory tell (Err (Refused e)) k k (Err e) P
refused_reply tell e k P = (refl, refl)

-- a call that the reads refuse
pub refused_steps : {A : Type 0} (tell : A → Answer) (call : Call) (why : Refusal) (old : KernelRows) → refused (seen old) call ≡ Some why → StepsInMemory tell call (Err (Refused why)) old old
refused_steps tell call why old h P shows =
    let e : refused (shown P) call ≡ Some why = subst (λ (r : Reads). refused r call ≡ Some why) shows.reads h in
    rw e (refused_reply tell why old P)

-- a call of the environment that the reads accept, for which there was no memory
pub out_of_memory_steps : (call : EnvCall) (old new : KernelRows) → refused (seen old) (Env call) ≡ None → new ≡ old → StepsInMemory answer.Posted (Env call) (Err OutOfMemory) old new
out_of_memory_steps call old new h same P shows =
    let e : refused (shown P) (Env call) ≡ None = subst (λ (r : Reads). refused r (Env call) ≡ None) shows.reads h in
    rw e same

-- a call of the environment that the reads accept, and that posted
pub sent_steps : (call : EnvCall) (posted : Posted) (old new : KernelRows) → refused (seen old) (Env call) ≡ None → Sends (λ P. posting P call) posted old new → StepsInMemory answer.Posted (Env call) (Ok posted) old new
sent_steps call posted old new h sends P shows =
    let e : refused (shown P) (Env call) ≡ None = subst (λ (r : Reads). refused r (Env call) ≡ None) shows.reads h in
    let s = sends P shows in
    rw e (ap answer.Posted s.0, s.1)

-- either of the two
pub posts_steps : {E : Type 0} (call : EnvCall) (r : Result Posted E) (old new : KernelRows) → refused (seen old) (Env call) ≡ None → IfOk r (λ posted. Sends (λ P. posting P call) posted old new) → OnErr r (new ≡ old)
    → StepsInMemory answer.Posted (Env call) (result_map_both (λ posted. posted) (λ _. OutOfMemory) r) old new
posts_steps call (Ok posted) old new h sends same = sent_steps call posted old new h sends
posts_steps call (Err e) old new h sends same = out_of_memory_steps call old new h same

-- the thread on a CPU leaves it, or not
pub stays : (cpu : ℕ) (kind : Kind) (why : Refusal) (s : Result Posted CallFault) (old : KernelRows) → first_of (leave_refusals (seen old) cpu) ≡ Some why → IsErrAnd s (λ d. d ≡ Refused why) → Leaves cpu kind s old old
stays cpu kind why (Ok posted) old h passes P shows = absurd passes
stays cpu kind why (Err d) old h passes P shows =
    let e : first_of (leave_refusals (shown P) cpu) ≡ Some why = subst (λ (r : Reads). first_of (leave_refusals r cpu) ≡ Some why) shows.reads h in
    rw (passes, e) (refused_reply answer.Posted why old P)

pub out_of_memory_leaves : (cpu : ℕ) (kind : Kind) (old new : KernelRows) → first_of (leave_refusals (seen old) cpu) ≡ None → new ≡ old → Leaves cpu kind (Err OutOfMemory) old new
out_of_memory_leaves cpu kind old new h same P shows =
    let e : first_of (leave_refusals (shown P) cpu) ≡ None = subst (λ (r : Reads). first_of (leave_refusals r cpu) ≡ None) shows.reads h in
    rw e same

first_holds : (b : Bool) (why : Refusal) (cs : List Condition) → first_of ((not b, why) ∷ cs) ≡ None → b ≡ true
first_holds true why cs e = refl
first_holds false why cs e = cc

-- it told of it and then left
pub left : (cpu t : ℕ) (kind : Kind) (posted : Posted) (old told new : KernelRows) → first_of (leave_refusals (seen old) cpu) ≡ None → on (seen old) cpu ≡ Some t
    → Sends (λ P. telling P t kind) posted old told → Becomes (λ P. record P { on = at P.on cpu None }) told new → Leaves cpu kind (Ok posted) old new
left cpu t kind posted old told new h runs sends leaves P shows =
    let e : first_of (leave_refusals (shown P) cpu) ≡ None = subst (λ (r : Reads). first_of (leave_refusals r cpu) ≡ None) shows.reads h in
    let there : is_cpu (shown P) cpu ≡ true = first_holds (is_cpu (shown P) cpu) refusal.BadCpu ((is_none (on (shown P) cpu), refusal.IdleCpu) ∷ post_refusals (shown P) (unwrap_or (on (shown P) cpu) 0)) e in
    let on_it : P.on cpu ≡ Some t = sym (shown-on P cpu there) ∙ subst (λ (r : Reads). on r cpu ≡ Some t) shows.reads runs in
    let s = sends P shows in
    let M : PlainKernel = record P { on = at P.on cpu None } in
    let F : ℕ → Type 0 = λ n. let p = telling M n kind in (answer.Posted posted ≡ answer.Posted (receipt p)) × Shows new (after_post p.before p.queue p.item) in
    let base : F t = (ap answer.Posted s.0, leaves (let p = telling P t kind in after_post p.before p.queue p.item) s.1) in
    rw e (subst F (sym (ap (λ (o : Option ℕ). unwrap_or o 0) on_it)) base)

-- a call of an agent that the reads refuse, and one that they accept
refused_plainly : {A : Type 0} (tell : A → Answer) (e : Refusal) (k : KernelRows) (P : PlainKernel) → Replies tell (Err e) k k (Err e) P
refused_plainly tell e k P = (refl, refl)

pub refuses : (call : Call) (why : Refusal) (old : KernelRows) → refused (seen old) call ≡ Some why → Steps done call (Err why) old old
refuses call why old h P shows =
    let e : refused (shown P) call ≡ Some why = subst (λ (r : Reads). refused r call ≡ Some why) shows.reads h in
    rw e (refused_plainly done why old P)

pub does : (call : Call) (unit : Unit {0}) (old new : KernelRows) → refused (seen old) call ≡ None → ((P : PlainKernel) → accepted P call ≡ answer.Done) → Becomes (λ P. changed P call) old new → Steps done call (Ok unit) old new
does call unit old new h answers becomes P shows =
    let e : refused (shown P) call ≡ None = subst (λ (r : Reads). refused r call ≡ None) shows.reads h in
    rw e (sym (answers P), becomes P shows)
