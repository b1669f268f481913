-- What an agent does with its own queue: it copies what it holds, sends that, and removes what it has sent.
use Rattle.std.specs.Prelude.{ℕ, ◌≡◌, ◌⊎◌, List, length, Result, Ok, Err}
use Rattle.pc_join.specs.declared.join.OutOfMemory.{OutOfMemory as NoMemory}
use Rattle.pc_messages.specs.Items.{AreItemsOf, pairs_in}
use Rattle.pc_messages.specs.Run.{Run, Extends}
use Rattle.pc_messages.specs.declared.message.Item.{Item}
use Rattle.pc_calls.specs.declared.call.Answer.TheVariants.{Done}
use Rattle.pc_calls.specs.declared.call.Call.TheVariants as call
use Rattle.pc_calls.specs.declared.refusal.Refusal.{Refusal}
use Rattle.pc_kernel.specs.Answers.{Shows}
use Rattle.pc_kernel.specs.PlainKernel.{PlainKernel, kinds}
use Rattle.pc_kernel.specs.Rows.{KernelRows}
use Rattle.pc_kernel.specs.Steps.{after, reply}
use Rattle.pc_delta.specs.declared.part.Part.{Part}
use Rattle.pc_delta.specs.Parts.{parts_in}
use Rattle.pc_agent.specs.declared.agent.Agent.{Agent}
use Rattle.pc_agent.specs.declared.wire.SendFault.{SendFault}
use Rattle.pc_agent.specs.declared.wire.SendFault.TheVariants.{OutOfMemory, WireFault}
use Rattle.pc_agent.specs.PlainAgent.{PlainAgent, copied}
use Rattle.pc_agent.specs.Shows.{ShowsAgent, ShowsDelta, ShowsPart, cpu_of}

-- for every plain kernel that the kernel shows, every run that goes on from its, and whatever the agent shows of it
abbrev pub WhateverShown : KernelRows → Agent → (PlainKernel → Run → PlainAgent → Type 0) → Type 0
WhateverShown kernel agent Says =
    (P : PlainKernel) (run : Run) (p : PlainAgent) → Shows kernel P → Extends run (kinds P) → ShowsAgent run p agent
    → Says P run p

-- the items are copied: the delta tells them, the view has them, the run list is refreshed; where memory ran out the
-- view has a part of them, and nothing else changed
abbrev pub IsCopied : Run → PlainAgent → List Item → Result (List Part) NoMemory → ℕ → Agent → Type 0
IsCopied run p items (Ok delta) cpu new =
    ShowsDelta run (pairs_in items) delta × ShowsAgent run (copied run cpu items p) new
IsCopied run p items (Err fault) cpu new = ShowsPart run p (pairs_in items) new

-- for every run that the items are of, and whatever the agent shows of it
abbrev pub Copies : List Item → Result (List Part) NoMemory → Agent → Agent → Type 0
Copies items result old new =
    (run : Run) (p : PlainAgent) → AreItemsOf run items → ShowsAgent run p old
    → IsCopied run p items result (cpu_of old) new

-- what a wire says of a send: the wire before, the delta, the answer, the wire after
abbrev pub Sending : Type 0 → Type 1
Sending W = W → List Part → Result (Unit {0}) SendFault → W → Type 0

-- the delta of the items, one part for each message, was handed to the wire, which answered so; it is of the run
pub record IsHandedOn {W : Type 0} (Sends : Sending W) (run : Run) (items : List Item)
    (answer : Result (Unit {0}) SendFault) (wire later : W) : Type 0 where
  pub shows : ShowsDelta run (pairs_in items) (parts_in items)
  pub sent : Sends wire (parts_in items) answer later

-- the agent, after it copied the items, and after it also sent them
abbrev pub sent_after : Run → ℕ → List Item → PlainAgent → PlainAgent
sent_after run cpu items p = record (copied run cpu items p) { sent_items = length items }

-- a publish of these items: what counts as sent is what the wire took; after a fault of the wire only the count of sent
-- items is as it was; memory may have run out before the send, or in it
abbrev pub IsPublished : {W : Type 0} → Sending W → List Item → Run → PlainAgent → Result ℕ SendFault → ℕ → Agent → W
    → W → Type 0
IsPublished Sends items run p (Ok count) cpu new wire later =
    (count ≡ length items)
    × IsHandedOn Sends run items (Ok tt) wire later
    × ShowsAgent run (sent_after run cpu items p) new
IsPublished Sends items run p (Err WireFault) cpu new wire later =
    IsHandedOn Sends run items (Err WireFault) wire later × ShowsAgent run (copied run cpu items p) new
IsPublished Sends items run p (Err OutOfMemory) cpu new wire later =
    (ShowsPart run p (pairs_in items) new × (later ≡ wire))
    ⊎ (IsHandedOn Sends run items (Err OutOfMemory) wire later × ShowsAgent run (copied run cpu items p) new)

-- the items that the agent has sent leave its queue, as the kernel answers
abbrev pub IsConsumed : PlainKernel → Run → PlainAgent → Result ℕ Refusal → ℕ → Agent → KernelRows → Type 0
IsConsumed P run p (Ok count) cpu new kernel =
    (count ≡ p.sent_items)
    × (reply P (call.Consume cpu p.sent_items) ≡ Ok Done)
    × Shows kernel (after P (call.Consume cpu p.sent_items))
    × ShowsAgent run (record p { sent_items = 0 }) new
IsConsumed P run p (Err refusal) cpu new kernel = reply P (call.Consume cpu p.sent_items) ≡ Err refusal
