use Rattle.std.proofs.Common.{subst, refl, ◌∙◌}
use Rattle.pc_delta.specs.Exchange.{IsPartlyTakenIn, IsTakenIn}
use Rattle.pc_delta.specs.Parts.{parts_in}
use Rattle.pc_run_queue.specs.Runs.{refreshed}
use Rattle.pc_agent.specs.PlainAgent.{threads_in}
use Rattle.pc_agent.proofs.Delivered.{copy_failed, has_copied, has_partly_copied, takes_none}
use Rattle.pc_agent.proofs.agent.Agent.copied.Goals as goal

pub returns-in_err-delta : goal.returns-in_err-delta
returns-in_err-delta c =
    let partly : IsPartlyTakenIn (parts_in c.args.items.now) c.args.self.now.view c.args.self.now.view = takes_none (parts_in c.args.items.now) c.args.self.now.view in
    copy_failed c.args.items.now c.from_residual.result c.args.self.now c.args.self.now c.from_residual.ensures.0
    (λ run p are h. has_partly_copied c.views_tell_what_their_sets_tell.ensures.reported c.parts_of_items_are_of_the_run.ensures.set c.parts_of_items_are_of_the_run.ensures.of_run run p c.args.items.now c.args.self.now _ are h
    c.from_residual.result c.from_residual.ensures.0 record { view = partly; list = refl; sent_items = refl; rules = refl })
    partly (refl) refl refl refl refl

pub returns-in_err-deliver : goal.returns-in_err-deliver
returns-in_err-deliver c =
    let partly : IsPartlyTakenIn (parts_in c.args.items.now) c.args.self.now.view c.deliver.new.self.view = subst (λ parts. IsPartlyTakenIn parts c.args.self.now.view c.deliver.new.self.view) c.in_ok-delta.ensures.told c.deliver.ensures.partly in
    copy_failed c.args.items.now c.from_residual-in_err-deliver.result c.args.self.now _ c.from_residual-in_err-deliver.ensures.0
    (λ run p are h. has_partly_copied c.views_tell_what_their_sets_tell.ensures.reported c.parts_of_items_are_of_the_run.ensures.set c.parts_of_items_are_of_the_run.ensures.of_run run p c.args.items.now c.args.self.now _ are h
    c.from_residual-in_err-deliver.result c.from_residual-in_err-deliver.ensures.0 record { view = partly; list = c.deliver.ensures.list; sent_items = c.deliver.ensures.sent; rules = c.deliver.ensures.rules })
    partly (c.deliver.ensures.list) c.deliver.ensures.sent c.deliver.ensures.rules c.deliver.ensures.cpu c.deliver.ensures.counts

pub returns-in_err-refresh : goal.returns-in_err-refresh
returns-in_err-refresh c =
    let partly : IsPartlyTakenIn (parts_in c.args.items.now) c.args.self.now.view c.deliver.new.self.view = subst (λ parts. IsPartlyTakenIn parts c.args.self.now.view c.deliver.new.self.view) c.in_ok-delta.ensures.told c.deliver.ensures.partly in
    copy_failed c.args.items.now c.from_residual-in_err-refresh.result c.args.self.now _ c.from_residual-in_err-refresh.ensures.0
    (λ run p are h. has_partly_copied c.views_tell_what_their_sets_tell.ensures.reported c.parts_of_items_are_of_the_run.ensures.set c.parts_of_items_are_of_the_run.ensures.of_run run p c.args.items.now c.args.self.now _ are h
    c.from_residual-in_err-refresh.result c.from_residual-in_err-refresh.ensures.0 record { view = partly; list = c.in_err-refresh.ensures.err ∙ c.deliver.ensures.list; sent_items = c.deliver.ensures.sent; rules = c.deliver.ensures.rules })
    partly (c.in_err-refresh.ensures.err ∙ c.deliver.ensures.list) c.deliver.ensures.sent c.deliver.ensures.rules c.deliver.ensures.cpu c.deliver.ensures.counts

pub returns : goal.returns
returns c =
    let taken = subst (λ parts. IsTakenIn parts c.args.self.now.view c.deliver.new.self.view) c.in_ok-delta.ensures.told c.in_ok-deliver.ensures.done in
    let list = c.in_ok-refresh.ensures.ok ∙ (λ i. refreshed ((c.deliver.ensures.rules i).ranks) c.deliver.new.self.view (c.deliver.ensures.cpu i) (c.deliver.ensures.list i) (threads_in c.args.items.now)) in
    record {
      copies = λ run p are h.
          has_copied c.views_tell_what_their_sets_tell.ensures.reported c.parts_of_items_are_of_the_run.ensures.set c.parts_of_items_are_of_the_run.ensures.of_run run p c.args.items.now c.args.self.now _ are h c.in_ok-delta.delta c.in_ok-delta.ensures.told
          record { view = taken; list = list; sent_items = c.deliver.ensures.sent; rules = c.deliver.ensures.rules };
      told = c.in_ok-delta.ensures.told;
      taken = taken;
      partly = subst (λ parts. IsPartlyTakenIn parts c.args.self.now.view c.deliver.new.self.view) c.in_ok-delta.ensures.told c.deliver.ensures.partly;
      refreshed = list;
      list_err = tt;
      sent = c.deliver.ensures.sent;
      cpu = c.deliver.ensures.cpu;
      rules = c.deliver.ensures.rules;
      counts = c.deliver.ensures.counts;
    }
