use Rattle.pc_run_queue.specs.Runs.{runs_in}
use Rattle.pc_agent.proofs.Kept.{are_short, finds_wanted}
use Rattle.pc_agent.proofs.shortcuts.next_wanted.Goals as goal

pub returns-in-Some-clause-finds : goal.returns-in-Some-clause-finds
returns-in-Some-clause-finds c =
    finds_wanted (runs_in c.args.view.now c.args.cpu) c.args.list.now c.in-Some.names (c.requires c.in-Some.names c.in-Some.is) c.args.from c.next_outside.result c.next_outside.ensures.first

pub returns-in-Some-clause-short : goal.returns-in-Some-clause-short
returns-in-Some-clause-short c = are_short (runs_in c.args.view.now c.args.cpu) c.args.list.now c.in-Some.names (c.requires c.in-Some.names c.in-Some.is)
