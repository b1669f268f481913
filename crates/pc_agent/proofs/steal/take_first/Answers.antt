use Rattle.std.proofs.Common.{Err, ◌≡◌, is_some, refl, sym, subst, ap, ◌∙◌}
use Rattle.pc_calls.specs.declared.refusal.Refusal.TheVariants.{Busy}
use Rattle.pc_calls.specs.declared.refusal.CallFault.TheVariants.{Refused}
use Rattle.pc_policy.specs.Rankings.{ranks_of}
use Rattle.pc_policy.specs.Rules.{rules_of}
use Rattle.pc_agent.specs.Inner.Shortcuts.{AreTrue}
use Rattle.pc_agent.proofs.Stolen.{for_busy, none_found, put_back, was_not_taken, was_taken}
use Rattle.pc_agent.proofs.steal.take_first.Goals as goal

pub returns-then-is_some-clause-takes : goal.returns-then-is_some-clause-takes
returns-then-is_some-clause-takes c =
    for_busy (rules_of c.args.policy.now) c.args.view.now c.args.cpu (Err (Refused Busy)) c.args.list.now c.args.list.now c.args.kernel.now c.args.kernel.now (sym (c.if-is_some.ensures ∙ ap is_some c.running.ensures)) refl

pub returns-in_default-clause-takes : goal.returns-in_default-clause-takes
returns-in_default-clause-takes c =
    none_found (rules_of c.args.policy.now) c.args.view.now c.args.cpu c.args.list.now c.args.kernel.now (sym (c.if-is_some.ensures ∙ ap is_some c.running.ensures)) c.in_default.ensures

pub returns-in-Ok-associate-clause-takes : goal.returns-in-Ok-associate-clause-takes
returns-in-Ok-associate-clause-takes c =
    was_taken (rules_of c.args.policy.now) c.args.view.now c.args.cpu c.args.list.now c.args.kernel.now (sym (c.if-is_some.ensures ∙ ap is_some c.running.ensures)) c.in-Some.thread c.in-Some.ensures
    c.upto.result c.upto.ensures c.push_in_order.new.self c.associate.new.self c.in-Ok-associate.ensures.fault c.in-Ok-associate.ensures.step c.in-Ok.ensures.ok

pub returns-in-Err-clause-takes : goal.returns-in-Err-clause-takes
returns-in-Err-clause-takes c =
    was_not_taken (rules_of c.args.policy.now) c.args.view.now c.args.cpu c.args.list.now c.args.kernel.now (sym (c.if-is_some.ensures ∙ ap is_some c.running.ensures)) c.in-Some.thread c.in-Some.ensures
    c.upto.result c.upto.ensures c.take_last.new.self c.associate.new.self c.in-Err.refusal c.in-Err.ensures.fault

pub returns-in-Ok-associate-clause-kept : goal.returns-in-Ok-associate-clause-kept
returns-in-Ok-associate-clause-kept c =
    let ranks = ranks_of c.args.policy.now.order in
    c.put_last.ensures ranks c.args.view.now c.args.cpu c.args.list.now (record {
      last = c.in-Ok.ensures.ok;
      settled = c.in-Ok.ensures.settled;
      noted = c.in-Ok.ensures.noted;
    }) (c.pass_over-least.ensures.kept ranks c.requires)

pub returns-in-Err-clause-kept : goal.returns-in-Err-clause-kept
returns-in-Err-clause-kept c = subst (AreTrue (ranks_of c.args.policy.now.order) c.pass_over-least.new.self c.args.view.now c.args.cpu) (sym left) (c.pass_over-least.ensures.kept (ranks_of c.args.policy.now.order) c.requires)
  where
    left : c.take_last.new.self ≡ c.args.list.now
    left = put_back c.take_last.result c.args.list.now c.push_in_order.new.self c.take_last.new.self c.in-Some.thread c.take_last.ensures c.in-Ok.ensures.ok

pub first_candidate-requires-clause-runnable : goal.first_candidate-requires-clause-runnable
first_candidate-requires-clause-runnable c = (c.pass_over-least.ensures.kept (ranks_of c.args.policy.now.order) c.requires).runnable

pub returns-in_default-clause-kept : goal.returns-in_default-clause-kept
returns-in_default-clause-kept c = c.pass_over-least.ensures.kept (ranks_of c.args.policy.now.order) c.requires

pub returns-in_default-push_in_order-clause-kept : goal.returns-in_default-push_in_order-clause-kept
returns-in_default-push_in_order-clause-kept c =
    subst (AreTrue (ranks_of c.args.policy.now.order) c.pass_over-least.new.self c.args.view.now c.args.cpu) (sym c.in_default-push_in_order.ensures.err) (c.pass_over-least.ensures.kept (ranks_of c.args.policy.now.order) c.requires)
