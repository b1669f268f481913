use Rattle.std.proofs.Common.{refl, subst, sym}
use Rattle.pc_policy.specs.Rankings.{ranks_of}
use Rattle.pc_agent.specs.Inner.Shortcuts.{AreTrue}
use Rattle.pc_agent.proofs.Delivered.{none_runs}
use Rattle.pc_agent.proofs.Taking.{view_of_nothing}
use Rattle.pc_agent.proofs.agent.Agent.restart.Goals as goal

pub returns-clause-fresh : goal.returns-clause-fresh
returns-clause-fresh c run = record {
  view = view_of_nothing run c.clear.new.self c.clear.ensures.nothing (c.clear.ensures.of_run run);
  list = c.new.ensures;
  sent_items = refl;
  rules = refl;
}

pub invariant_of-self : goal.invariant_of-self
invariant_of-self c =
    let cpu = c.args.self.now.cpu in
    let ranks = ranks_of c.args.self.now.policy.order in
    let none = none_runs c.views_tell_what_their_sets_tell.ensures.reported c.clear.new.self c.clear.ensures.nothing c.clear.ensures.of_run cpu in
    record { shortcuts_hold = subst (AreTrue ranks c.restart.new.self c.clear.new.self cpu) (sym c.new.ensures) (c.restart.ensures ranks c.clear.new.self cpu none) }
