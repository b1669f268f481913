use Rattle.std.proofs.Common.{refl, subst, sym}
use Rattle.pc_policy.specs.Rankings.{ranks_of}
use Rattle.pc_agent.specs.Inner.Shortcuts.{AreTrue}
use Rattle.pc_agent.proofs.Delivered.{none_runs}
use Rattle.pc_agent.proofs.Taking.{view_of_nothing}
use Rattle.pc_agent.proofs.agent.Agent.with_policy.Goals as goal

pub returns-clause-fresh : goal.returns-clause-fresh
returns-clause-fresh c run = record {
  view = view_of_nothing run c.new.result c.new.ensures.nothing (c.new.ensures.of_run run);
  list = c.new-2.ensures;
  sent_items = refl;
  rules = refl;
}

pub invariant_of-result : goal.invariant_of-result
invariant_of-result c =
    let none = none_runs c.views_tell_what_their_sets_tell.ensures.reported c.new.result c.new.ensures.nothing c.new.ensures.of_run c.args.cpu in
    record { shortcuts_hold = subst (AreTrue (ranks_of c.args.policy.order) c.new-4.result c.new.result c.args.cpu) (sym c.new-2.ensures) (c.new-4.ensures (ranks_of c.args.policy.order) c.new.result c.args.cpu none) }
