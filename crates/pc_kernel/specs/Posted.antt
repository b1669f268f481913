-- Which messages were posted, and what a call does to the queues.
use Rattle.std.specs.Prelude.{ℕ, ◌+◌, ◌≤◌, ◌≡◌, ◌==◌, true, List, ◌++◌, Option, Some, None, Contains, if◌then◌else◌}
use Rattle.pc_messages.specs.declared.message.Item.{Item}
use Rattle.pc_messages.specs.declared.message.Item.TheVariants.{Thread}
use Rattle.pc_messages.specs.declared.message.Message.{Message}
use Rattle.pc_calls.specs.declared.call.Call.{Call}
use Rattle.pc_calls.specs.declared.call.Call.TheVariants.{Consume}
use Rattle.pc_calls.specs.declared.limits.Limits.{Limits}
use Rattle.pc_calls.specs.declared.refusal.Refusal.{Refusal}
use Rattle.pc_kernel.specs.PlainKernel.{PlainKernel, start, is_known, items_to, aseq}
use Rattle.pc_kernel.specs.Reads.{shown, is_cpu}
use Rattle.pc_kernel.specs.Facts.{messages}
use Rattle.pc_kernel.specs.Steps.{refused, after, replay}

-- the message was posted to some queue
abbrev pub WasPosted : PlainKernel → Message → Type 0
WasPosted P message = (q : ℕ) × Contains (items_to P q) (Thread message)

-- how many items a call that is not refused takes from a queue
abbrev pub takes : Call → ℕ → ℕ
takes (Consume cpu count) q = if cpu == q then count else 0
takes call q = 0

-- a refused call takes none
abbrev pub taken : Option Refusal → ℕ → ℕ
taken None count = count
taken (Some why) count = 0

-- each message of a thread was posted, after every list of calls
abbrev pub MessagesArePosted : Type 0
MessagesArePosted =
    (limits : Limits) (calls : List Call) (t : ℕ) (message : Message) →
    Contains (messages (replay (start limits) calls) t) message → WasPosted (replay (start limits) calls) message

-- what was posted of a thread, to whatever queue, is a message of it
abbrev pub PostsAreMessages : Type 0
PostsAreMessages =
    (limits : Limits) (calls : List Call) (q : ℕ) (message : Message) →
    Contains (items_to (replay (start limits) calls) q) (Thread message) →
    Contains (messages (replay (start limits) calls) message.thread) message

-- no queue has lost more than was posted to it, after every list of calls
abbrev pub NoMoreIsEaten : Type 0
NoMoreIsEaten =
    (limits : Limits) (calls : List Call) (q : ℕ)
    → (replay (start limits) calls).eaten q ≤ aseq (replay (start limits) calls) q

-- the home of a known thread is a CPU that is there
abbrev pub HomesAreThere : Type 0
HomesAreThere =
    (limits : Limits) (calls : List Call) (t : ℕ) →
    is_known (replay (start limits) calls) t ≡ true →
    is_cpu (shown (replay (start limits) calls)) ((replay (start limits) calls).home t) ≡ true

-- a call adds items to the end of a queue, if any, whatever plain kernel it is called on
abbrev pub QueuesGoOn : Type 0
QueuesGoOn =
    (P : PlainKernel) (call : Call) (q : ℕ) → (more : List Item) × (items_to (after P call) q ≡ items_to P q ++ more)

-- only an accepted consume takes items, as many as it names
abbrev pub OnlyConsumesTake : Type 0
OnlyConsumesTake =
    (P : PlainKernel) (call : Call) (q : ℕ)
    → (after P call).eaten q ≡ P.eaten q + taken (refused (shown P) call) (takes call q)
