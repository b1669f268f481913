-- What the calls of an agent do, whole: each names one of these. What is said of every run and plain agent that the
-- agent shows comes first, then what holds of every agent, also of one whose view is of no run.
use Rattle.std.specs.Prelude.{ℕ, ◌≡◌, ◌<◌, List, [], ◌∷◌, ◌++◌, Result, Err, IfOk, IfErr, OnOk, OnErr}
use Rattle.pc_join.specs.declared.join.OutOfMemory.{OutOfMemory as NoMemory}
use Rattle.pc_messages.specs.Run.{Run, Extends}
use Rattle.pc_messages.specs.declared.message.Item.{Item}
use Rattle.pc_calls.specs.AgentCalls.{commits}
use Rattle.pc_calls.specs.Conditions.{refusal_in}
use Rattle.pc_calls.specs.declared.call.Answer.TheVariants.{Done}
use Rattle.pc_calls.specs.declared.refusal.CallFault.{CallFault}
use Rattle.pc_calls.specs.declared.refusal.Refusal.{Refusal}
use Rattle.pc_kernel.specs.Answers.{Accepts}
use Rattle.pc_kernel.specs.PlainKernel as plain
use Rattle.pc_kernel.specs.Reads.{seen, kinds_read, content_read}
use Rattle.pc_kernel.specs.Rows.{KernelRows}
use Rattle.pc_kernel.specs.Steps as steps
use Rattle.pc_view.specs.Prefixes.{upto_of}
use Rattle.pc_delta.specs.declared.part.Part.{Part}
use Rattle.pc_delta.specs.Exchange.{IsTakenIn, IsPartlyTakenIn}
use Rattle.pc_delta.specs.Parts.{parts_in}
use Rattle.pc_run_queue.specs.Runs as runs
use Rattle.pc_agent.specs.declared.agent.Agent.{Agent}
use Rattle.pc_agent.specs.declared.wire.SendFault.{SendFault}
use Rattle.pc_agent.specs.declared.wire.SendFault.TheVariants.{WireFault}
use Rattle.pc_agent.specs.Counts.{consume_counted, pick_counted, steal_counted}
use Rattle.pc_agent.specs.Exchanging.{Delivers}
use Rattle.pc_agent.specs.Own.{Publishes, KnowsTheSame, ConsumesAsSeen, PicksAsSeen, StealsAsSeen, removes_sent}
use Rattle.pc_agent.specs.PlainAgent.{PlainAgent, threads_in, pick_refused, ready_list}
use Rattle.pc_agent.specs.Publishing.{Copies, Sending, WhateverShown, IsConsumed, IsPublished}
use Rattle.pc_agent.specs.Running.{IsPicked, IsSeenExactly, Steals, left_by, takes_up_to}
use Rattle.pc_agent.specs.Shows.{ShowsAgent, cpu_of, ranking_of, rules_in}

-- the kernel's limits are the same, its run is extended, and where the call failed nothing of it changed
pub record GoesOn {A E : Type 0} (result : Result A E) (old new : KernelRows) : Type 0 where
  pub limits : new.limits ≡ old.limits
  pub extends : Extends (kinds_read (seen new)) (kinds_read (seen old))
  pub err : OnErr result (new ≡ old)

-- a delta was taken in; where memory ran out, a part of it may have been
pub record DoesDeliver (delta : List Part) (result : Result (Unit {0}) NoMemory) (old new : Agent) : Type 0 where
  pub delivers : Delivers delta result old new
  pub done : OnOk result (IsTakenIn delta old.view new.view)
  pub partly : IsPartlyTakenIn delta old.view new.view
  pub list : new.list ≡ old.list
  pub sent : new.sent_items ≡ old.sent_items
  pub cpu : cpu_of new ≡ cpu_of old
  pub rules : rules_in new ≡ rules_in old
  pub counts : new.counts ≡ old.counts

-- items were taken in, which the delta tells; where memory ran out, a part of them may have been
pub record DoesCopy (items : List Item) (result : Result (List Part) NoMemory) (old new : Agent) : Type 0 where
  pub copies : Copies items result old new
  pub told : IfOk result (λ delta. delta ≡ parts_in items)
  pub taken : OnOk result (IsTakenIn (parts_in items) old.view new.view)
  pub partly : IsPartlyTakenIn (parts_in items) old.view new.view
  pub refreshed : OnOk result (new.list
      ≡ runs.refreshed (ranking_of old) new.view (cpu_of old) old.list (threads_in items))
  pub list_err : OnErr result (new.list ≡ old.list)
  pub sent : new.sent_items ≡ old.sent_items
  pub cpu : cpu_of new ≡ cpu_of old
  pub rules : rules_in new ≡ rules_in old
  pub counts : new.counts ≡ old.counts

-- so many items at the front of its queue count as sent
pub record CountsAsSent (items : ℕ) (old new : Agent) : Type 0 where
  pub shows : (run : Run) (p : PlainAgent) → ShowsAgent run p old → ShowsAgent run (record p { sent_items = items }) new
  pub count : new.sent_items ≡ items
  pub list : new.list ≡ old.list
  pub same : KnowsTheSame old.counts old new

-- all that the queue holds was taken in and handed to a wire, which counts its faults
pub record DoesPublish {W : Type 0} (Sends : Sending W) (faults : W → ℕ) (kernel : KernelRows)
    (result : Result ℕ SendFault) (old new : Agent) (wire later : W) : Type 0 where
  pub publishes : WhateverShown kernel old (λ P run p.
      IsPublished Sends (plain.content P (cpu_of old)) run p result (cpu_of old) new wire later)
  pub own : Publishes Sends (content_read (seen kernel) (cpu_of old)) result old new wire later
  pub fault : result ≡ Err WireFault → faults wire < faults later
  pub cpu : cpu_of new ≡ cpu_of old
  pub rules : rules_in new ≡ rules_in old
  pub counts : new.counts ≡ old.counts

-- what was sent is removed from the queue, as the kernel answers
pub record DoesConsume (result : Result ℕ Refusal) (old new : Agent) (before after : KernelRows) : Type 0 where
  pub consumes : WhateverShown before old (λ P run p. IsConsumed P run p result (cpu_of old) new after)
  pub own : ConsumesAsSeen old before result new after
  pub count : IfOk result (λ count. count ≡ old.sent_items)
  pub nothing_sent : OnOk result (new.sent_items ≡ 0)
  pub kernel : OnOk result (Accepts (removes_sent old) Done before after)
  pub list : new.list ≡ old.list
  pub fault : refusal_in result ≡ steps.refused (seen before) (removes_sent old)
  pub agent_err : OnErr result (new ≡ old)
  pub same : KnowsTheSame (consume_counted result old.counts) old new
  pub goes_on : GoesOn result before after

-- the first thread of the run list that the kernel commits is committed
pub record DoesPick (aseq : ℕ) (result : Result ℕ Refusal) (old new : Agent) (before after : KernelRows) : Type 0 where
  pub picks : WhateverShown before old (λ P run p. IsPicked aseq P run p result (cpu_of old) new after)
  pub own : PicksAsSeen aseq old before result new after
  pub refused : refusal_in result ≡ pick_refused (seen before) (cpu_of old) aseq old.list
  pub first : IfOk result (λ thread. ready_list (seen before) (cpu_of old) aseq old.list ≡ thread ∷ new.list)
  pub list_err : IfErr result (λ refusal. new.list ≡ left_by refusal old.list)
  pub kernel : IfOk result (λ thread. Accepts (commits (cpu_of old) thread aseq) Done before after)
  pub sent : new.sent_items ≡ old.sent_items
  pub same : KnowsTheSame (pick_counted result old.counts) old new
  pub goes_on : GoesOn result before after

-- the first thread of those that may be is taken over, and goes to the end of the run list
pub record DoesSteal (result : Result ℕ CallFault) (old new : Agent) (before after : KernelRows) : Type 0 where
  pub steals : WhateverShown before old (λ P run p. Steals P run p result (cpu_of old) new after)
  pub own : StealsAsSeen (rules_in old) old.view (cpu_of old) result old.list new.list before after
  pub exact : IfOk result (λ thread. WhateverShown before old (λ P run p. IsSeenExactly P run p thread))
  pub kernel : IfOk result (λ thread. Accepts (takes_up_to (upto_of old.view) (cpu_of old) thread) Done before after)
  pub taken : IfOk result (λ thread. new.list ≡ old.list ++ thread ∷ [])
  pub list_err : OnErr result (new.list ≡ old.list)
  pub sent : new.sent_items ≡ old.sent_items
  pub same : KnowsTheSame (steal_counted result old.counts) old new
  pub goes_on : GoesOn result before after
