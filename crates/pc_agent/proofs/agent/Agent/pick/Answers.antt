use Rattle.std.proofs.Common.{refl}
use Rattle.pc_policy.specs.Rankings.{ranks_of}
use Rattle.pc_agent.proofs.Ready.{pick_accepted, pick_first, pick_left, pick_refusal, picked, picked_as_seen}
use Rattle.pc_agent.proofs.agent.Agent.pick.Goals as goal

pub returns : goal.returns
returns c =
    let did = c.pick_from-answered.ensures in
    let answered = c.pick_from-answered.result in
    record {
      picks = λ P run p shows extends h. picked P run p c.args.aseq answered c.args.self.now _ c.args.kernel.now c.pick_from-answered.new.kernel shows h did.picks refl refl refl;
      own = picked_as_seen c.args.aseq answered c.args.self.now _ c.args.kernel.now c.pick_from-answered.new.kernel did.picks did.goes_on.err refl refl refl refl c.count_pick.ensures;
      refused = pick_refusal _ _ _ _ _ _ answered did.picks;
      first = pick_first _ _ _ _ _ _ answered did.picks;
      list_err = pick_left _ _ _ _ _ _ answered did.picks;
      kernel = pick_accepted _ _ _ _ _ _ answered did.picks;
      sent = refl;
      same = record { view = refl; cpu = refl; rules = refl; counts = c.count_pick.ensures };
      goes_on = did.goes_on;
    }

pub invariant_of-self : goal.invariant_of-self
invariant_of-self c = record { shortcuts_hold = c.pick_from-answered.ensures.kept (ranks_of c.args.self.now.policy.order) c.args.self.now.view c.args.self.now.cpu c.args.self.now.shortcuts_hold }
