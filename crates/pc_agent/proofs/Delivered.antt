-- What an agent shows that took messages in.
use Rattle.std.proofs.Common.{ℕ, ◌≡◌, ◌||◌, false, List, [], length, Result, Ok, Err, OnOk, IsErr, sym, ap, ◌∙◌, subst, inl, inr}
use Rattle.std.proofs.lemmas.Bool.{false≢true}
use Rattle.pc_messages.specs.Items.{pairs_in, AreItemsOf}
use Rattle.pc_messages.specs.Run.{Run}
use Rattle.pc_messages.specs.declared.message.Item.{Item}
use Rattle.pc_join.specs.Sets.{IsSameSet, IsVoid, as_members}
use Rattle.pc_join.specs.declared.join.OutOfMemory.{OutOfMemory}
use Rattle.pc_view.specs.declared.view.View.{View}
use Rattle.pc_view.specs.Prefixes.{reported_in, reports, upto, upto_of}
use Rattle.pc_view.specs.Views.{IsOfRun, pairs_of}
use Rattle.pc_delta.specs.declared.part.Part.{Part}
use Rattle.pc_delta.specs.Exchange.{IsPartlyTakenIn, IsTakenIn}
use Rattle.pc_delta.specs.Parts.{AreOfRun, parts_in, set_of}
use Rattle.pc_run_queue.specs.Runs.{may_run, refreshed_as, runs_in}
use Rattle.pc_agent.specs.declared.agent.Agent.{Agent}
use Rattle.pc_agent.specs.declared.wire.SendFault.{SendFault}
use Rattle.pc_agent.specs.declared.wire.SendFault.TheVariants as fault
use Rattle.pc_agent.specs.Calls.{DoesCopy}
use Rattle.pc_agent.specs.Exchanging.{IsDelivered}
use Rattle.pc_agent.specs.Own.{HasCopied, HasPartlyCopied, Publishes}
use Rattle.pc_agent.specs.PlainAgent.{PlainAgent, Set, copied, threads_in}
use Rattle.pc_agent.specs.Publishing.{Copies, IsCopied, IsPublished, Sending}
use Rattle.pc_agent.specs.Shows.{ShowsAgent, ShowsDelta, ShowsPart, cpu_of, rules_in}
use Rattle.pc_agent.proofs.Taking.{view_of_nothing, view_takes, view_takes_some}

-- a part of a delta
takes_some : (run : Run) (p : PlainAgent) (set : Set) (old new : Agent) (delta : List Part) → ShowsDelta run set delta → ShowsAgent run p old → IsPartlyTakenIn delta old.view new.view
    → new.list ≡ old.list → new.sent_items ≡ old.sent_items → rules_in new ≡ rules_in old → ShowsPart run p set new
takes_some run p set old new delta tells h partly list count ranks =
    let some = view_takes_some run p.known set old.view new.view delta h.view partly tells in
    (some.0, some.1, record { view = some.2; list = list ∙ h.list; sent_items = count ∙ h.sent_items; rules = ranks ∙ h.rules })

pub delivered : (run : Run) (p : PlainAgent) (set : Set) (result : Result (Unit {0}) OutOfMemory) (old new : Agent) (delta : List Part) → ShowsDelta run set delta → ShowsAgent run p old
    → OnOk result (IsTakenIn delta old.view new.view) → IsPartlyTakenIn delta old.view new.view → new.list ≡ old.list → new.sent_items ≡ old.sent_items → rules_in new ≡ rules_in old → IsDelivered run p set result new
delivered run p set (Ok done) old new delta tells h taken partly list count ranks =
    record { view = view_takes run p.known set old.view new.view delta h.view taken tells; list = list ∙ h.list; sent_items = count ∙ h.sent_items; rules = ranks ∙ h.rules }
delivered run p set (Err fault) old new delta tells h taken partly list count ranks = takes_some run p set old new delta tells h partly list count ranks

pub partly_delivered : (run : Run) (p : PlainAgent) (set : Set) (result : Result (Unit {0}) OutOfMemory) → IsErr result → (old new : Agent) (delta : List Part) → ShowsDelta run set delta → ShowsAgent run p old
    → IsPartlyTakenIn delta old.view new.view → new.list ≡ old.list → new.sent_items ≡ old.sent_items → rules_in new ≡ rules_in old → IsDelivered run p set result new
partly_delivered run p set (Ok done) e old new delta tells h partly list count ranks = absurd (false≢true e)
partly_delivered run p set (Err fault) e old new delta tells h partly list count ranks = takes_some run p set old new delta tells h partly list count ranks

-- nothing is a part of every delta
pub takes_none : (parts : List Part) (view : View) → IsPartlyTakenIn parts view view
takes_none parts view = record { between = record { at_least = λ m e. e; at_most = λ m e. ap (λ b. b || set_of parts m) e }; of_run = λ run of_run parts_of_run. of_run }

-- a copy for which there was no memory
pub copy_failed : (items : List Item) (result : Result (List Part) OutOfMemory) (old new : Agent) → IsErr result → Copies items result old new → IsPartlyTakenIn (parts_in items) old.view new.view
    → new.list ≡ old.list → new.sent_items ≡ old.sent_items → rules_in new ≡ rules_in old → cpu_of new ≡ cpu_of old → new.counts ≡ old.counts → DoesCopy items result old new
copy_failed items (Ok delta) old new e copies partly list sent ranks cpu counts = absurd (false≢true e)
copy_failed items (Err fault) old new e copies partly list sent ranks cpu counts =
    record { copies = copies; told = tt; taken = tt; partly = partly; refreshed = tt; list_err = list; sent = sent; cpu = cpu; rules = ranks; counts = counts }

-- the laws of views and of the parts of items
abbrev pub ReportsAreTold : Type 0
ReportsAreTold = (run : Run) (set : Set) (view : View) (t : ℕ) → IsOfRun run view → IsSameSet (pairs_of view) (as_members set) → reported_in view t ≡ reports run set t

abbrev pub UptosAreTold : Type 0
UptosAreTold = (run : Run) (set : Set) (view : View) (t : ℕ) → IsOfRun run view → IsSameSet (pairs_of view) (as_members set) → upto_of view t ≡ upto set t

abbrev pub ItemsAreTold : Type 0
ItemsAreTold = (items : List Item) → IsSameSet (set_of (parts_in items)) (as_members (pairs_in items))

abbrev pub ItemsAreOfRun : Type 0
ItemsAreOfRun = (run : Run) (items : List Item) → AreItemsOf run items → AreOfRun run (parts_in items)

module _ (reported : ReportsAreTold) (told : ItemsAreTold) (told_of_run : ItemsAreOfRun) (run : Run) (p : PlainAgent) (items : List Item) (old new : Agent) (are : AreItemsOf run items) (h : ShowsAgent run p old) where
  pub items_tell : ShowsDelta run (pairs_in items) (parts_in items)
  items_tell = record { of_run = told_of_run run items are; told = told items }

  pub some_copied : HasPartlyCopied items old new → ShowsPart run p (pairs_in items) new
  some_copied has = takes_some run p (pairs_in items) old new (parts_in items) items_tell h has.view has.list has.sent_items has.rules

  pub all_copied : (count : ℕ) → HasCopied items old new count → ShowsAgent run (record (copied run old.cpu items p) { sent_items = count }) new
  all_copied count has =
      let view = view_takes run p.known (pairs_in items) old.view new.view (parts_in items) h.view has.view items_tell in
      let state : (t : ℕ) → reported_in new.view t ≡ reports run (copied run old.cpu items p).known t = λ t. reported run (copied run old.cpu items p).known new.view t view.of_run view.known in
      record { view = view; list = has.list ∙ λ i. refreshed_as (h.rules i).ranks (λ t. state t i) old.cpu (h.list i) (threads_in items); sent_items = has.sent_items; rules = has.rules ∙ h.rules }

  -- what else is as it was
  counted : (count n : ℕ) → count ≡ n → ShowsAgent run (record (copied run old.cpu items p) { sent_items = count }) new → ShowsAgent run (record (copied run old.cpu items p) { sent_items = n }) new
  counted count n e a = record { view = a.view; list = a.list; sent_items = a.sent_items ∙ e; rules = a.rules }

  pub has_copied : (delta : List Part) → delta ≡ parts_in items → HasCopied items old new old.sent_items → IsCopied run p items (Ok delta) old.cpu new
  has_copied delta is has = (subst (ShowsDelta run (pairs_in items)) (sym is) items_tell, counted old.sent_items p.sent_items h.sent_items (all_copied old.sent_items has))

  pub has_partly_copied : (result : Result (List Part) OutOfMemory) → IsErr result → HasPartlyCopied items old new → IsCopied run p items result old.cpu new
  has_partly_copied (Ok delta) e has = absurd (false≢true e)
  has_partly_copied (Err fault) e has = some_copied has

  pub published : {W : Type 0} (Sends : Sending W) (result : Result ℕ SendFault) (wire later : W) → Publishes Sends items result old new wire later → IsPublished Sends items run p result old.cpu new wire later
  published Sends (Ok count) wire later has = (has.0, record { shows = items_tell; sent = has.1 }, counted count (length items) has.0 (all_copied count has.2))
  published Sends (Err fault.WireFault) wire later has = (record { shows = items_tell; sent = has.0 }, counted old.sent_items p.sent_items h.sent_items (all_copied old.sent_items has.1))
  published Sends (Err fault.OutOfMemory) wire later (inl some) = inl (some_copied some.0, some.1)
  published Sends (Err fault.OutOfMemory) wire later (inr all) = inr (record { shows = items_tell; sent = all.0 }, counted old.sent_items p.sent_items h.sent_items (all_copied old.sent_items all.1))

-- by a view of nothing no thread may run
pub none_runs : ReportsAreTold → (view : View) → IsVoid (pairs_of view) → ((run : Run) → IsOfRun run view) → (cpu t : ℕ) → runs_in view cpu t ≡ false
none_runs reported view nothing of_run cpu t =
    let none = view_of_nothing (λ thread. []) view nothing (of_run (λ thread. [])) in
    ap (λ state. may_run state cpu) (reported (λ thread. []) [] view t none.of_run none.known)
