use Rattle.pc_policy.specs.Rankings.{ranks_of}
use Rattle.pc_agent.proofs.Settles.{stands_alike}
use Rattle.pc_agent.proofs.watch.note_told.Goals as goal

pub returns-clause-stands : goal.returns-clause-stands
returns-clause-stands c = λ _ h.
    stands_alike (ranks_of c.args.policy.now) c.args.view.now c.args.cpu c.args.list.now c.args.noted.now.items c.loop-part.noted.items c.loop-part.invariant.alike h
