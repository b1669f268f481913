-- What calls do by the agent's own view, run list and count of sent items, and by what is read of the kernel: this
-- holds of every agent, also of one whose view is of no run.
use Rattle.std.specs.Prelude.{ℕ, ◌≡◌, ◌⊎◌, List, [], ◌∷◌, ◌++◌, length, Some, None, Result, Ok, Err}
use Rattle.pc_messages.specs.declared.message.Item.{Item}
use Rattle.pc_calls.specs.AgentCalls.{commits}
use Rattle.pc_calls.specs.declared.call.Answer.TheVariants.{Done}
use Rattle.pc_calls.specs.declared.call.Call.{Call}
use Rattle.pc_calls.specs.declared.call.Call.TheVariants as call
use Rattle.pc_calls.specs.declared.refusal.CallFault.{CallFault}
use Rattle.pc_calls.specs.declared.refusal.Refusal.{Refusal}
use Rattle.pc_kernel.specs.Answers.{Accepts}
use Rattle.pc_kernel.specs.Reads.{seen}
use Rattle.pc_kernel.specs.Rows.{KernelRows}
use Rattle.pc_kernel.specs.Steps.{refused}
use Rattle.pc_view.specs.declared.view.View.{View}
use Rattle.pc_view.specs.Prefixes.{upto_of}
use Rattle.pc_delta.specs.Exchange.{IsTakenIn, IsPartlyTakenIn}
use Rattle.pc_delta.specs.Parts.{parts_in}
use Rattle.pc_policy.specs.Rules.{Rules}
use Rattle.pc_run_queue.specs.Runs.{refreshed}
use Rattle.pc_agent.specs.declared.agent.Agent.{Agent}
use Rattle.pc_agent.specs.declared.counts.Counts.{Counts}
use Rattle.pc_agent.specs.declared.wire.SendFault.{SendFault}
use Rattle.pc_agent.specs.declared.wire.SendFault.TheVariants.{OutOfMemory, WireFault}
use Rattle.pc_agent.specs.Counts.{consume_counted, pick_counted}
use Rattle.pc_agent.specs.PlainAgent.{candidates, known_in, pick_refused, ready_list, threads_in}
use Rattle.pc_agent.specs.Publishing.{Sending}
use Rattle.pc_agent.specs.Running.{StealsBy, left_by, takes_up_to}
use Rattle.pc_agent.specs.Shows.{cpu_of, ranking_of, rules_in}

-- the items' messages are taken in, the run list is refreshed with their threads, and so many items count as sent
pub record HasCopied (items : List Item) (old new : Agent) (count : ℕ) : Type 0 where
  pub view : IsTakenIn (parts_in items) old.view new.view
  pub list : new.list ≡ refreshed (ranking_of old) new.view (cpu_of old) old.list (threads_in items)
  pub sent_items : new.sent_items ≡ count
  pub rules : rules_in new ≡ rules_in old

-- a part of the messages may be taken in, and the agent is otherwise as it was
pub record HasPartlyCopied (items : List Item) (old new : Agent) : Type 0 where
  pub view : IsPartlyTakenIn (parts_in items) old.view new.view
  pub list : new.list ≡ old.list
  pub sent_items : new.sent_items ≡ old.sent_items
  pub rules : rules_in new ≡ rules_in old

-- a publish of these items: the wire was given one part for each message, in order; memory may have run out before
-- that, or in it
abbrev pub Publishes : {W : Type 0} → Sending W → List Item → Result ℕ SendFault → Agent → Agent → W → W → Type 0
Publishes Sends items (Ok count) old new wire later =
    (count ≡ length items) × Sends wire (parts_in items) (Ok tt) later × HasCopied items old new count
Publishes Sends items (Err WireFault) old new wire later =
    Sends wire (parts_in items) (Err WireFault) later × HasCopied items old new old.sent_items
Publishes Sends items (Err OutOfMemory) old new wire later =
    (HasPartlyCopied items old new × (later ≡ wire))
    ⊎ (Sends wire (parts_in items) (Err OutOfMemory) later × HasCopied items old new old.sent_items)

-- the agent knows what it knew, goes by the same rules, and has counted so much
pub record KnowsTheSame (counted : Counts) (old new : Agent) : Type 0 where
  pub view : new.view ≡ old.view
  pub cpu : cpu_of new ≡ cpu_of old
  pub rules : rules_in new ≡ rules_in old
  pub counts : new.counts ≡ counted

-- the call that removes from the agent's queue what it has sent
abbrev pub removes_sent : Agent → Call
removes_sent agent = call.Consume (cpu_of agent) agent.sent_items

-- the kernel accepted the call that removes what the agent has sent, and none of its queue counts as sent then
pub record HasConsumed (old new : Agent) (before after : KernelRows) : Type 0 where
  pub kernel : Accepts (removes_sent old) Done before after
  pub sent_items : new.sent_items ≡ 0
  pub list : new.list ≡ old.list
  pub same : KnowsTheSame (consume_counted (Ok old.sent_items) old.counts) old new

-- a consume, by what the agent has sent and what is read of the kernel: so many items are removed; refused,
-- nothing changes
abbrev pub ConsumesAsSeen : Agent → KernelRows → Result ℕ Refusal → Agent → KernelRows → Type 0
ConsumesAsSeen old before (Ok count) new after =
    (refused (seen before) (removes_sent old) ≡ None) × (count ≡ old.sent_items) × HasConsumed old new before after
ConsumesAsSeen old before (Err refusal) new after =
    (refused (seen before) (removes_sent old) ≡ Some refusal) × (after ≡ before) × (new ≡ old)

-- the kernel accepted the call that commits the thread, the first that it would commit, and what follows it is left
pub record HasCommitted (aseq thread : ℕ) (old new : Agent) (before after : KernelRows) : Type 0 where
  pub kernel : Accepts (commits (cpu_of old) thread aseq) Done before after
  pub list : ready_list (seen before) (cpu_of old) aseq old.list ≡ thread ∷ new.list
  pub sent_items : new.sent_items ≡ old.sent_items
  pub same : KnowsTheSame (pick_counted (Ok thread) old.counts) old new

-- no thread was committed: the kernel is as it was, and the run list, or nothing of it, is left
pub record HasCommittedNone (refusal : Refusal) (old new : Agent) (before after : KernelRows) : Type 0 where
  pub kernel : after ≡ before
  pub list : new.list ≡ left_by refusal old.list
  pub sent_items : new.sent_items ≡ old.sent_items
  pub same : KnowsTheSame (pick_counted (Err refusal) old.counts) old new

-- a pick under a count of posts, by the agent's run list and what is read of the kernel
abbrev pub PicksAsSeen : ℕ → Agent → KernelRows → Result ℕ Refusal → Agent → KernelRows → Type 0
PicksAsSeen aseq old before (Ok thread) new after =
    (pick_refused (seen before) (cpu_of old) aseq old.list ≡ None) × HasCommitted aseq thread old new before after
PicksAsSeen aseq old before (Err refusal) new after =
    (pick_refused (seen before) (cpu_of old) aseq old.list ≡ Some refusal)
    × HasCommittedNone refusal old new before after

-- the kernel accepted the call that takes the thread over, which goes to the end of the run list
pub record HasTakenOver (takes : Call) (t : ℕ) (old new : List ℕ) (before after : KernelRows) : Type 0 where
  pub kernel : Accepts takes Done before after
  pub list : new ≡ old ++ t ∷ []

-- a steal, by the agent's rules and what the view tells: rules, view, CPU, result, the run list before and after, and
-- the kernel
abbrev pub StealsAsSeen : Rules → View → ℕ → Result ℕ CallFault → List ℕ → List ℕ → KernelRows → KernelRows → Type 0
StealsAsSeen rules view cpu result old new before after =
    StealsBy (seen before) cpu (candidates rules (seen before) (known_in view) cpu old) (takes_up_to (upto_of view) cpu)
    (λ t. HasTakenOver (takes_up_to (upto_of view) cpu t) t old new before after) result
