use Rattle.std.proofs.Common.{Ok, refl, sym, ap, subst, ◌∙◌}
use Rattle.pc_delta.specs.Exchange.{IsTakenIn}
use Rattle.pc_delta.specs.Parts.{parts_in}
use Rattle.pc_run_queue.specs.Runs.{refreshed}
use Rattle.pc_agent.specs.PlainAgent.{threads_in}
use Rattle.pc_agent.specs.Shows.{cpu_of, ranking_of}
use Rattle.pc_agent.proofs.agent.Agent.publish_items.Goals as goal

pub returns-in-Ok-send-clause-own : goal.returns-in-Ok-send-clause-own
returns-in-Ok-send-clause-own g c =
    let items = c.args.items.now in
    let old = c.args.self.now in
    let same = sym c.sent.ensures.same.view in (
      refl,
      subst (λ delta. g.W.Wire.Sends c.args.wire.now delta (Ok tt) c.send.new.self) c.in-Ok.ensures.told c.in-Ok-send.ensures.says,
      record {
        view = subst (IsTakenIn (parts_in items) old.view) same c.in-Ok.ensures.taken;
        list = c.sent.ensures.list ∙ c.in-Ok.ensures.refreshed ∙ ap (λ view. refreshed (ranking_of old) view (cpu_of old) old.list (threads_in items)) same;
        sent_items = c.sent.ensures.count;
        rules = c.sent.ensures.same.rules ∙ c.in-Ok.ensures.rules;
      },
    )
