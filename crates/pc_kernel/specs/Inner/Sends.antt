-- That a kernel has posted something, and answers for it; or that it has changed without a post.
use Rattle.std.specs.Prelude.{ℕ, ◌≡◌, Result}
use Rattle.pc_messages.specs.declared.kind.Kind.{Kind}
use Rattle.pc_calls.specs.declared.call.EnvCall.TheVariants.{Tick}
use Rattle.pc_calls.specs.declared.call.Posted.{Posted}
use Rattle.pc_calls.specs.declared.call.Answer.TheVariants as answer
use Rattle.pc_calls.specs.declared.refusal.CallFault.{CallFault}
use Rattle.pc_kernel.specs.PlainKernel.{PlainKernel, threads}
use Rattle.pc_kernel.specs.Rows.{KernelRows}
use Rattle.pc_calls.specs.Conditions.{first_of}
use Rattle.pc_kernel.specs.Reads.{shown}
use Rattle.pc_kernel.specs.Steps.{Posting, posting, at, telling, leaving, posted, receipt, leave_refusals, reply_of}
use Rattle.pc_kernel.specs.Steps.{after_of}
use Rattle.pc_kernel.specs.Answers.{Shows, RepliesInMemory}

-- the first message of the next thread, whose home is this queue
abbrev pub adding : PlainKernel → ℕ → Kind → Posting
adding P queue kind = telling (record P { home = at P.home (threads P) queue }) (threads P) kind

-- a CPU's tick
abbrev pub ticking : PlainKernel → ℕ → Posting
ticking P cpu = posting P (Tick cpu)

-- of every plain kernel that the kernel shows: this was posted, and the answer is its receipt
abbrev pub Sends : (PlainKernel → Posting) → Posted → KernelRows → KernelRows → Type 0
Sends sent answer old new =
    (P : PlainKernel) → Shows old P → let p =
    sent P in (answer ≡ receipt p) × Shows new (posted p.before p.queue p.item)

-- of every plain kernel that the kernel shows: it shows this change of it
abbrev pub Becomes : (PlainKernel → PlainKernel) → KernelRows → KernelRows → Type 0
Becomes change old new = (P : PlainKernel) → Shows old P → Shows new (change P)

-- the thread on the CPU has left it with a message of this kind, or why not
abbrev pub Leaves : ℕ → Kind → Result Posted CallFault → KernelRows → KernelRows → Type 0
Leaves cpu kind result old new =
    (P : PlainKernel) → Shows old P →
    let p = leaving P cpu kind in
    let refusal = first_of (leave_refusals (shown P) cpu) in
    let replied = reply_of refusal (answer.Posted (receipt p)) in
    RepliesInMemory answer.Posted result old new replied (after_of refusal (posted p.before p.queue p.item) P)
