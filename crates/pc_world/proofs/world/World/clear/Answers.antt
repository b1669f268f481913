use Rattle.std.proofs.Common.{[], ◌∷◌, false}
use Rattle.pc_calls.specs.declared.event.Event.TheVariants as event
use Rattle.pc_world.proofs.Chaining.{all_then, part_first, part_then}
use Rattle.pc_world.proofs.Running.{on_err}
use Rattle.pc_world.proofs.Counting.{all_counted_then, among_first, among_then}
use Rattle.pc_world.proofs.world.World.clear.Goals as goal

pub returns-in_err-take-clause-no_memory : goal.returns-in_err-take-clause-no_memory
returns-in_err-take-clause-no_memory c =
    on_err c.from_residual.result _
    (part_first (event.Publish c.args.cpu false ∷ []) (event.Consume c.args.cpu ∷ []) c.args.self.now c.take.new.self c.in_err-take.ensures.no_memory)

pub returns-in_err-take-2-clause-no_memory : goal.returns-in_err-take-2-clause-no_memory
returns-in_err-take-2-clause-no_memory c =
    on_err c.from_residual-in_err-take-2.result _
    (part_then (event.Publish c.args.cpu false ∷ []) (event.Consume c.args.cpu ∷ []) c.args.self.now c.take.new.self c.take-2.new.self c.in_ok-take.ensures.done c.in_err-take-2.ensures.no_memory)

pub returns-in_err-take-clause-counts_in_part : goal.returns-in_err-take-clause-counts_in_part
returns-in_err-take-clause-counts_in_part c =
    on_err c.from_residual.result _
    (among_first (event.Publish c.args.cpu false ∷ []) (event.Consume c.args.cpu ∷ []) c.args.self.now c.take.new.self c.in_err-take.ensures.counts_in_part)

pub returns-in_err-take-2-clause-counts_in_part : goal.returns-in_err-take-2-clause-counts_in_part
returns-in_err-take-2-clause-counts_in_part c =
    on_err c.from_residual-in_err-take-2.result _
    (among_then (event.Publish c.args.cpu false ∷ []) (event.Consume c.args.cpu ∷ []) c.args.self.now c.take.new.self c.take-2.new.self c.in_ok-take.ensures.counts c.in_err-take-2.ensures.counts_in_part)

pub returns-clause-done : goal.returns-clause-done
returns-clause-done c =
    all_then (event.Publish c.args.cpu false ∷ []) (event.Consume c.args.cpu ∷ []) c.args.self.now c.take.new.self c.take-2.new.self c.in_ok-take.ensures.done c.in_ok-take-2.ensures.done

pub returns-clause-counts : goal.returns-clause-counts
returns-clause-counts c =
    all_counted_then (event.Publish c.args.cpu false ∷ []) (event.Consume c.args.cpu ∷ []) c.args.self.now c.take.new.self c.take-2.new.self c.in_ok-take.ensures.counts c.in_ok-take-2.ensures.counts
