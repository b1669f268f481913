-- What a kernel shows, and that a call answers as the step does.
use Rattle.std.specs.Prelude.{ℕ, ◌≤◌, ◌≡◌, ◌↔◌, List, Some, Result, Ok, Err, OnErr}
use Rattle.pc_messages.specs.Run.{Extends}
use Rattle.pc_calls.specs.Conditions.{refusal_in}
use Rattle.pc_calls.specs.declared.call.Call.{Call}
use Rattle.pc_calls.specs.declared.call.Answer.{Answer}
use Rattle.pc_calls.specs.declared.call.Answer.TheVariants.{Done}
use Rattle.pc_calls.specs.declared.refusal.Refusal.{Refusal}
use Rattle.pc_calls.specs.declared.refusal.CallFault.{CallFault}
use Rattle.pc_calls.specs.declared.refusal.CallFault.TheVariants.{Refused, OutOfMemory}
use Rattle.pc_kernel.specs.PlainKernel.{PlainKernel, start, aseq}
use Rattle.pc_kernel.specs.Rows.{KernelRows}
use Rattle.pc_kernel.specs.Reads.{seen, shown, kinds_read}
use Rattle.pc_kernel.specs.Steps.{refused, reply, after, replay}

-- the kernel's reads are those of the plain kernel, in which no queue has lost more than it was given
pub record Shows (k : KernelRows) (P : PlainKernel) : Type 0 where
  pub reads : seen k ≡ shown P
  pub eaten : (q : ℕ) → P.eaten q ≤ aseq P q

-- the call answers this reply, and shows this plain kernel after it; refused, it changes nothing
abbrev pub Replies :
    {A : Type 0} → (A → Answer) → Result A Refusal → KernelRows → KernelRows → Result Answer Refusal → PlainKernel
    → Type 0
Replies tell (Ok a) old new (Ok answer) Q = (tell a ≡ answer) × Shows new Q
Replies tell (Err e) old new (Err refusal) Q = (e ≡ refusal) × (new ≡ old)
Replies tell (Ok a) old new (Err refusal) Q = ⊥
Replies tell (Err e) old new (Ok answer) Q = ⊥

-- for every plain kernel that the kernel shows, the call is its step
abbrev pub Steps : {A : Type 0} → (A → Answer) → Call → Result A Refusal → KernelRows → KernelRows → Type 0
Steps tell call result old new =
    (P : PlainKernel) → Shows old P → Replies tell result old new (reply P call) (after P call)

-- the same of a call that takes memory; where none was left, the reply accepts, and nothing changed
abbrev pub RepliesInMemory :
    {A : Type 0} → (A → Answer) → Result A CallFault → KernelRows → KernelRows → Result Answer Refusal → PlainKernel
    → Type 0
RepliesInMemory tell (Ok a) old new (Ok answer) Q = (tell a ≡ answer) × Shows new Q
RepliesInMemory tell (Err (Refused e)) old new (Err refusal) Q = (e ≡ refusal) × (new ≡ old)
RepliesInMemory tell (Err OutOfMemory) old new (Ok answer) Q = new ≡ old
RepliesInMemory tell (Ok a) old new (Err refusal) Q = ⊥
RepliesInMemory tell (Err (Refused e)) old new (Ok answer) Q = ⊥
RepliesInMemory tell (Err OutOfMemory) old new (Err refusal) Q = ⊥

-- a call that takes memory answers as the step does, for every plain kernel that is shown
abbrev pub StepsInMemory : {A : Type 0} → (A → Answer) → Call → Result A CallFault → KernelRows → KernelRows → Type 0
StepsInMemory tell call result old new =
    (P : PlainKernel) → Shows old P → RepliesInMemory tell result old new (reply P call) (after P call)

-- what a call of an agent does: it is the step of every plain kernel that is shown; it is refused exactly where the
-- reads refuse it, and with that refusal; the limits stay, and the run goes on; refused, it changes nothing
pub record Answered {A : Type 0} (tell : A → Answer) (call : Call) (result : Result A Refusal)
    (old new : KernelRows) : Type 0 where
  pub step : Steps tell call result old new
  pub fault : refusal_in result ≡ refused (seen old) call
  pub limits : new.limits ≡ old.limits
  pub extends : Extends (kinds_read (seen new)) (kinds_read (seen old))
  pub err : OnErr result (new ≡ old)

-- the same of a call that takes memory: where none was left, it changes nothing either, and the reads do not refuse it
pub record AnsweredInMemory {A : Type 0} (tell : A → Answer) (call : Call) (result : Result A CallFault)
    (old new : KernelRows) : Type 0 where
  pub step : StepsInMemory tell call result old new
  pub fault : (refusal : Refusal) → (result ≡ Err (Refused refusal)) ↔ (refused (seen old) call ≡ Some refusal)
  pub limits : new.limits ≡ old.limits
  pub extends : Extends (kinds_read (seen new)) (kinds_read (seen old))
  pub err : OnErr result (new ≡ old)

-- a list of calls leads from the start of the kernel's limits to a plain kernel that it shows
pub record IsReached (k : KernelRows) : Type 0 where
  pub calls : List Call
  pub shows : Shows k (replay (start k.limits) calls)

-- every call without an answer of its own answers this
abbrev pub done : Unit {0} → Answer
done _ = Done

-- the answer itself
abbrev pub itself : Answer → Answer
itself answer = answer

-- every plain kernel that the kernel shows accepts the call with this answer, and the kernel then shows what it is
-- after it
abbrev pub Accepts : Call → Answer → KernelRows → KernelRows → Type 0
Accepts call answer old new = (P : PlainKernel) → Shows old P → (reply P call ≡ Ok answer) × Shows new (after P call)

-- every plain kernel that the kernel shows refuses the call like this, and the kernel is as it was
abbrev pub Refuses : Call → Refusal → KernelRows → KernelRows → Type 0
Refuses call refusal old new = (P : PlainKernel) → Shows old P → (reply P call ≡ Err refusal) × (new ≡ old)

-- the calls, one after another, lead from what the one kernel shows to what the other shows
abbrev pub Replays : List Call → KernelRows → KernelRows → Type 0
Replays calls old new = (P : PlainKernel) → Shows old P → Shows new (replay P calls)
