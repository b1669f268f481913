use Rattle.std.proofs.Common.{refl}
use Rattle.pc_agent.proofs.Stolen.{exactly, steal_accepted, steal_listed, stolen}
use Rattle.pc_agent.specs.Shows.{rules_in}
use Rattle.pc_agent.proofs.agent.Agent.steal.Goals as goal

pub returns : goal.returns
returns c =
    let did = c.take_first-answered.ensures in
    let answered = c.take_first-answered.result in
    let law = c.views_tell_what_their_sets_tell.ensures in
    record {
      steals = λ P run p shows extends h. stolen law.reported law.upto c.args.self.now c.args.kernel.now P run p shows h answered _ c.take_first-answered.new.kernel did.takes refl refl refl;
      own = did.takes;
      exact = exactly law.reported law.upto c.args.self.now c.args.kernel.now c.accepted_associates_are_exact.ensures answered _ _ did.takes;
      kernel = steal_accepted (rules_in c.args.self.now) c.args.self.now.view c.args.self.now.cpu c.args.self.now.list _ c.args.kernel.now _ answered did.takes;
      taken = steal_listed (rules_in c.args.self.now) c.args.self.now.view c.args.self.now.cpu c.args.self.now.list _ c.args.kernel.now _ answered did.takes;
      list_err = did.left;
      sent = refl;
      same = record { view = refl; cpu = refl; rules = refl; counts = c.count_steal.ensures };
      goes_on = did.goes_on;
    }
