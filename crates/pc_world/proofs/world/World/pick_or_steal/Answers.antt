use Rattle.std.proofs.Common.{[], ◌∷◌, rules}
use Rattle.pc_calls.specs.declared.event.Event.TheVariants as event
use Rattle.pc_world.proofs.Chaining.{all_one, part_first, part_one, part_then, picked_late}
use Rattle.pc_world.proofs.Running.{keeps_then, on_err}
use Rattle.pc_world.proofs.Counting.{all_counted_one, among_first, among_one, among_then, one_counted, picked_late_counted}
use Rattle.pc_world.proofs.world.World.pick_or_steal.Goals as goal

pub returns-in_err-take-in_default : goal.returns-in_err-take-in_default
returns-in_err-take-in_default c =
    let pick = event.Pick c.args.cpu c.args.posts in
    record {
      done = search rules;
      counts = search rules;
      counts_in_part =
          on_err c.from_residual-in_err-take-in_default.result _
          (among_then (pick ∷ []) (event.Steal c.args.cpu ∷ pick ∷ []) c.args.self.now c.step.new.self c.take.new.self (all_counted_one pick c.in_ok-cpu.field-0 c.args.self.now c.step.new.self c.in_ok-cpu.ensures.step c.in_ok-cpu.ensures.counts)
          (among_first (event.Steal c.args.cpu ∷ []) (pick ∷ []) c.step.new.self c.take.new.self c.in_err-take-in_default.ensures.counts_in_part));
      no_memory =
          on_err c.from_residual-in_err-take-in_default.result _
          (part_then (pick ∷ []) (event.Steal c.args.cpu ∷ pick ∷ []) c.args.self.now c.step.new.self c.take.new.self (all_one pick c.in_ok-cpu.field-0 c.args.self.now c.step.new.self c.in_ok-cpu.ensures.step)
          (part_first (event.Steal c.args.cpu ∷ []) (pick ∷ []) c.step.new.self c.take.new.self c.in_err-take-in_default.ensures.no_memory));
      kept = keeps_then c.args.self.now c.step.new.self c.take.new.self c.step.ensures.kept c.take.ensures.kept;
    }

pub returns-in_err-again-in_default : goal.returns-in_err-again-in_default
returns-in_err-again-in_default c =
    let pick = event.Pick c.args.cpu c.args.posts in
    record {
      done = search rules;
      counts = search rules;
      counts_in_part =
          on_err c.from_residual-in_err-again-in_default.result _
          (among_then (pick ∷ []) (event.Steal c.args.cpu ∷ pick ∷ []) c.args.self.now c.step.new.self c.step-in_default.new.self (all_counted_one pick c.in_ok-cpu.field-0 c.args.self.now c.step.new.self c.in_ok-cpu.ensures.step c.in_ok-cpu.ensures.counts)
          (among_then (event.Steal c.args.cpu ∷ []) (pick ∷ []) c.step.new.self c.take.new.self c.step-in_default.new.self c.in_ok-take-in_default.ensures.counts (among_one pick c.take.new.self c.step-in_default.new.self c.in_err-again-in_default.ensures.no_memory c.in_err-again-in_default.ensures.uncounted)));
      no_memory =
          on_err c.from_residual-in_err-again-in_default.result _
          (part_then (pick ∷ []) (event.Steal c.args.cpu ∷ pick ∷ []) c.args.self.now c.step.new.self c.step-in_default.new.self (all_one pick c.in_ok-cpu.field-0 c.args.self.now c.step.new.self c.in_ok-cpu.ensures.step)
          (part_then (event.Steal c.args.cpu ∷ []) (pick ∷ []) c.step.new.self c.take.new.self c.step-in_default.new.self c.in_ok-take-in_default.ensures.done (part_one pick c.take.new.self c.step-in_default.new.self c.in_err-again-in_default.ensures.no_memory)));
      kept =
          keeps_then c.args.self.now c.take.new.self c.step-in_default.new.self (keeps_then c.args.self.now c.step.new.self c.take.new.self c.step.ensures.kept c.take.ensures.kept) c.step-in_default.ensures.kept;
    }

pub returns-in_ok-again-in_default : goal.returns-in_ok-again-in_default
returns-in_ok-again-in_default c =
    let pick = event.Pick c.args.cpu c.args.posts in
    record {
      done =
          picked_late c.args.cpu c.args.posts c.in_ok-cpu.field-0 c.in_ok-again-in_default.again c.args.self.now c.step.new.self c.take.new.self c.step-in_default.new.self
          (λ commit. c.in_default.not-Committed commit.cpu commit.thread commit.is) c.in_ok-cpu.ensures.step c.in_ok-take-in_default.ensures.done c.in_ok-again-in_default.ensures.step;
      no_memory = tt;
      counts =
          picked_late_counted c.args.cpu c.args.posts c.in_ok-cpu.field-0 c.in_ok-again-in_default.again c.args.self.now c.step.new.self c.take.new.self c.step-in_default.new.self
          (λ commit. c.in_default.not-Committed commit.cpu commit.thread commit.is) (one_counted pick c.in_ok-cpu.field-0 c.args.self.now c.step.new.self c.in_ok-cpu.ensures.step c.in_ok-cpu.ensures.counts)
          c.in_ok-take-in_default.ensures.counts (one_counted pick c.in_ok-again-in_default.again c.take.new.self c.step-in_default.new.self c.in_ok-again-in_default.ensures.step c.in_ok-again-in_default.ensures.counts);
      counts_in_part = tt;
      kept =
          keeps_then c.args.self.now c.take.new.self c.step-in_default.new.self (keeps_then c.args.self.now c.step.new.self c.take.new.self c.step.ensures.kept c.take.ensures.kept) c.step-in_default.ensures.kept;
    }
