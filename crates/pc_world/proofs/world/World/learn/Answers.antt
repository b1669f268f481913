use Rattle.pc_world.specs.Mending.{clearing, hearing}
use Rattle.pc_world.proofs.Chaining.{all_then, part_first, part_then}
use Rattle.pc_world.proofs.Running.{on_err}
use Rattle.pc_world.proofs.Counting.{all_counted_then, among_first, among_then}
use Rattle.pc_world.proofs.world.World.learn.Goals as goal

pub returns-in_err-clear_queues-clause-no_memory : goal.returns-in_err-clear_queues-clause-no_memory
returns-in_err-clear_queues-clause-no_memory c =
    on_err c.from_residual.result _ (part_first (clearing c.args.cpus) (hearing c.args.cpu c.args.deltas) c.args.self.now c.clear_queues.new.self c.in_err-clear_queues.ensures.no_memory)

pub returns-in_err-hear-clause-no_memory : goal.returns-in_err-hear-clause-no_memory
returns-in_err-hear-clause-no_memory c =
    on_err c.from_residual-in_err-hear.result _
    (part_then (clearing c.args.cpus) (hearing c.args.cpu c.args.deltas) c.args.self.now c.clear_queues.new.self c.hear.new.self c.in_ok-clear_queues.ensures.done c.in_err-hear.ensures.no_memory)

pub returns-in_err-clear_queues-clause-counts_in_part : goal.returns-in_err-clear_queues-clause-counts_in_part
returns-in_err-clear_queues-clause-counts_in_part c =
    on_err c.from_residual.result _ (among_first (clearing c.args.cpus) (hearing c.args.cpu c.args.deltas) c.args.self.now c.clear_queues.new.self c.in_err-clear_queues.ensures.counts_in_part)

pub returns-in_err-hear-clause-counts_in_part : goal.returns-in_err-hear-clause-counts_in_part
returns-in_err-hear-clause-counts_in_part c =
    on_err c.from_residual-in_err-hear.result _
    (among_then (clearing c.args.cpus) (hearing c.args.cpu c.args.deltas) c.args.self.now c.clear_queues.new.self c.hear.new.self c.in_ok-clear_queues.ensures.counts c.in_err-hear.ensures.counts_in_part)

pub returns-clause-done : goal.returns-clause-done
returns-clause-done c =
    all_then (clearing c.args.cpus) (hearing c.args.cpu c.args.deltas) c.args.self.now c.clear_queues.new.self c.hear.new.self c.in_ok-clear_queues.ensures.done c.in_ok-hear.ensures.done

pub returns-clause-counts : goal.returns-clause-counts
returns-clause-counts c =
    all_counted_then (clearing c.args.cpus) (hearing c.args.cpu c.args.deltas) c.args.self.now c.clear_queues.new.self c.hear.new.self c.in_ok-clear_queues.ensures.counts c.in_ok-hear.ensures.counts
