use Rattle.std.proofs.Common.{Ok, Err, refl, subst, sym, rules}
use Rattle.pc_delta.specs.Exchange.{KeepsOthers}
use Rattle.pc_policy.specs.Rankings.{ranks_of}
use Rattle.pc_agent.proofs.Delivered.{delivered, partly_delivered}
use Rattle.pc_agent.proofs.agent.Agent.deliver.Goals as goal

pub returns-in-Ok : goal.returns-in-Ok
returns-in-Ok c = record {
  delivers = λ run p set tells h. delivered run p set (Ok tt) c.args.self.now _ c.args.delta.now tells h c.in-Ok.ensures.done c.take_in.ensures.partly refl refl refl;
  done = search rules;
  partly = search rules;
  list = refl;
  sent = refl;
  cpu = refl;
  rules = refl;
  counts = refl;
}

pub returns-in-Err : goal.returns-in-Err
returns-in-Err c = record {
  delivers = λ run p set tells h. partly_delivered run p set (Err c.in-Err.fault) refl c.args.self.now _ c.args.delta.now tells h c.take_in.ensures.partly refl refl refl;
  done = search rules;
  partly = search rules;
  list = refl;
  sent = refl;
  cpu = refl;
  rules = refl;
  counts = refl;
}

pub invariant_of-self : goal.invariant_of-self
invariant_of-self c =
    let others = subst (λ parts. KeepsOthers parts c.args.self.now.view c.take_in.new.view) (sym c.parts-parts.ensures.same) c.take_in.ensures.others in
    record { shortcuts_hold = c.look_anew.ensures c.args.self.now.view c.args.self.now.list others c.note.ensures }

pub invariant_of-self-in-Err : goal.invariant_of-self-in-Err
invariant_of-self-in-Err c = record { shortcuts_hold = c.forget.ensures (ranks_of c.args.self.now.policy.order) c.take_in.new.view c.args.self.now.cpu c.args.self.now.list }
