use Rattle.std.proofs.Common.{◌≡◌, refl, subst, arith}
use Rattle.pc_world.specs.Inner.Mends.{CountsAll, DoesAll}
use Rattle.pc_world.specs.Mending.{clearing}
use Rattle.pc_world.proofs.Chaining.{all_next, all_none, clears_one, part_next}
use Rattle.pc_world.proofs.Running.{keeps_none, keeps_then, on_err}
use Rattle.pc_world.proofs.Counting.{all_counted_next, all_counted_none, among_next}
use Rattle.pc_world.proofs.world.World.clear_queues.Goals as goal

pub returns-in_err-clear-clause-no_memory : goal.returns-in_err-clear-clause-no_memory
returns-in_err-clear-clause-no_memory c =
    on_err c.from_residual.result _
    (part_next clearing clears_one (λ n. refl) c.loop-index.index c.args.cpus c.loop-index-test.true c.args.self.now c.loop-index.self c.clear.new.self c.loop-index.invariant.done c.in_err-clear.ensures.no_memory)

pub returns-in_err-clear-clause-counts_in_part : goal.returns-in_err-clear-clause-counts_in_part
returns-in_err-clear-clause-counts_in_part c =
    on_err c.from_residual.result _
    (among_next clearing clears_one (λ n. refl) c.loop-index.index c.args.cpus c.loop-index-test.true c.args.self.now c.loop-index.self c.clear.new.self c.loop-index.invariant.counted c.in_err-clear.ensures.counts_in_part)

pub returns-in_err-clear-clause-kept : goal.returns-in_err-clear-clause-kept
returns-in_err-clear-clause-kept c = keeps_then c.args.self.now c.loop-index.self c.clear.new.self c.loop-index.invariant.kept c.clear.ensures.kept

pub loop-index-init : goal.loop-index-init
loop-index-init c = record { done = all_none c.args.self.now; kept = keeps_none c.args.self.now; counted = all_counted_none c.args.self.now }

pub loop-index-preserved : goal.loop-index-preserved
loop-index-preserved c = record {
  done = all_next clearing clears_one (λ n. refl) c.loop-index.index c.args.self.now c.loop-index.self c.clear.new.self c.loop-index.invariant.done c.in_ok-clear.ensures.done;
  kept = keeps_then c.args.self.now c.loop-index.self c.clear.new.self c.loop-index.invariant.kept c.clear.ensures.kept;
  counted = all_counted_next clearing clears_one (λ n. refl) c.loop-index.index c.args.self.now c.loop-index.self c.clear.new.self c.loop-index.invariant.counted c.in_ok-clear.ensures.counts;
}

pub returns-clause-done : goal.returns-clause-done
returns-clause-done c =
    let same : c.loop-index.index ≡ c.args.cpus = omega arith in
    subst (λ n. DoesAll (clearing n) c.args.self.now c.loop-index.self) same c.loop-index.invariant.done

pub returns-clause-counts : goal.returns-clause-counts
returns-clause-counts c =
    let same : c.loop-index.index ≡ c.args.cpus = omega arith in
    subst (λ n. CountsAll (clearing n) c.args.self.now c.loop-index.self) same c.loop-index.invariant.counted
