use Rattle.std.proofs.Common.{◌≡◌, refl, subst, arith}
use Rattle.pc_world.specs.Inner.Mends.{CountsAll, DoesAll}
use Rattle.pc_world.specs.Mending.{hearing}
use Rattle.pc_world.proofs.Chaining.{all_next, all_none, hears_one, part_next}
use Rattle.pc_world.proofs.Running.{keeps_none, keeps_then, on_err}
use Rattle.pc_world.proofs.Counting.{all_counted_next, all_counted_none, among_next}
use Rattle.pc_world.proofs.world.World.hear.Goals as goal

pub returns-in_err-take-clause-no_memory : goal.returns-in_err-take-clause-no_memory
returns-in_err-take-clause-no_memory c =
    on_err c.from_residual.result _
    (part_next (hearing c.args.cpu) (hears_one c.args.cpu) (λ n. refl) c.loop-delta.delta c.args.deltas c.loop-delta-test.true c.args.self.now c.loop-delta.self c.take.new.self c.loop-delta.invariant.done c.in_err-take.ensures.no_memory)

pub returns-in_err-take-clause-counts_in_part : goal.returns-in_err-take-clause-counts_in_part
returns-in_err-take-clause-counts_in_part c =
    on_err c.from_residual.result _
    (among_next (hearing c.args.cpu) (hears_one c.args.cpu) (λ n. refl) c.loop-delta.delta c.args.deltas c.loop-delta-test.true c.args.self.now c.loop-delta.self c.take.new.self c.loop-delta.invariant.counted c.in_err-take.ensures.counts_in_part)

pub returns-in_err-take-clause-kept : goal.returns-in_err-take-clause-kept
returns-in_err-take-clause-kept c = keeps_then c.args.self.now c.loop-delta.self c.take.new.self c.loop-delta.invariant.kept c.take.ensures.kept

pub loop-delta-init : goal.loop-delta-init
loop-delta-init c = record { done = all_none c.args.self.now; kept = keeps_none c.args.self.now; counted = all_counted_none c.args.self.now }

pub loop-delta-preserved : goal.loop-delta-preserved
loop-delta-preserved c = record {
  done = all_next (hearing c.args.cpu) (hears_one c.args.cpu) (λ n. refl) c.loop-delta.delta c.args.self.now c.loop-delta.self c.take.new.self c.loop-delta.invariant.done c.in_ok-take.ensures.done;
  kept = keeps_then c.args.self.now c.loop-delta.self c.take.new.self c.loop-delta.invariant.kept c.take.ensures.kept;
  counted = all_counted_next (hearing c.args.cpu) (hears_one c.args.cpu) (λ n. refl) c.loop-delta.delta c.args.self.now c.loop-delta.self c.take.new.self c.loop-delta.invariant.counted c.in_ok-take.ensures.counts;
}

pub returns-clause-done : goal.returns-clause-done
returns-clause-done c =
    let same : c.loop-delta.delta ≡ c.args.deltas = omega arith in
    subst (λ n. DoesAll (hearing c.args.cpu n) c.args.self.now c.loop-delta.self) same c.loop-delta.invariant.done

pub returns-clause-counts : goal.returns-clause-counts
returns-clause-counts c =
    let same : c.loop-delta.delta ≡ c.args.deltas = omega arith in
    subst (λ n. CountsAll (hearing c.args.cpu n) c.args.self.now c.loop-delta.self) same c.loop-delta.invariant.counted
