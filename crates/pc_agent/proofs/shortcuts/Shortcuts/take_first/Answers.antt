use Rattle.std.proofs.Common.{rules}
use Rattle.pc_run_queue.specs.Runs.{rank_in, rank_noted}
use Rattle.pc_agent.proofs.shortcuts.Shortcuts.take_first.Goals as goal

pub returns-in-Some-clause-kept : goal.returns-in-Some-clause-kept
returns-in-Some-clause-kept c ranks view cpu h = record {
  settled = λ e. c.in-Some.ensures.stands (rank_noted c.args.self.now.noted.items (rank_in ranks view cpu)) (h.settled e);
  runnable = h.runnable;
  passed = search rules;
}
