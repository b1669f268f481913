use Rattle.std.proofs.Common.{◌≡◌, ◌+◌, true, false, [], ◌∷◌, ◌++◌, length, is_some, ap, arith, rules}
use Rattle.std.proofs.lemmas.Grind.{common_steps}
use Rattle.pc_calls.specs.declared.event.Event.TheVariants as event
use Rattle.pc_kernel.specs.Reads.{on, seen, aseq_of}
use Rattle.pc_world.specs.Mending.{clearing, hearing}
use Rattle.pc_world.specs.Mends.{MendsInPart}
use Rattle.pc_world.specs.Shows.{deltas_of}
use Rattle.pc_world.proofs.Chaining.{part_first, part_then}
use Rattle.pc_world.proofs.Mends.{begins, busy, mended, mends_in_part, none_told, not_there}
use Rattle.pc_world.proofs.Running.{keeps_then, on_err}
use Rattle.pc_world.proofs.Wanting.{runs_the_same, shows_idle}
use Rattle.pc_world.proofs.Counting.{among_first, among_then, counts_mended, counts_mended_in_part}
use Rattle.pc_world.proofs.world.World.mend.Goals as goal

pub returns-in_default-clause-mended : goal.returns-in_default-clause-mended
returns-in_default-clause-mended c =
    let k = c.kernel-kernel.result.now in
    not_there c.kernel_laws.ensures.reads c.args.self.now k c.args.cpu c.kernel-kernel.ensures (none_told c.aseq.result (aseq_of (seen k) c.args.cpu) c.aseq.ensures c.in_default.not-Some)

pub returns-then-is_some-clause-mended : goal.returns-then-is_some-clause-mended
returns-then-is_some-clause-mended c =
    let k = c.kernel-kernel.result.now in
    let runs : is_some (on (seen k) c.args.cpu) ≡ true = first_of (cc, search rules, grind (arith, common_steps)) in
    busy c.kernel_laws.ensures.reads c.args.self.now k c.args.cpu c.kernel-kernel.ensures c.in-Some.posts c.in-Some.ensures runs

pub returns-in_err-learn : goal.returns-in_err-learn
returns-in_err-learn c =
    let old = c.args.self.now in
    let cpu = c.args.cpu in
    let k = c.kernel-kernel.result.now in
    let deltas = length c.sent.result.now + c.from.result in
    let free : is_some (on (seen k) cpu) ≡ false = first_of (cc, search rules, grind (arith, common_steps)) in
    let sent = ap length c.sent.ensures.same in
    let from = c.from.ensures in
    let many : deltas ≡ length (deltas_of old) + c.cpus-cpus.result = omega arith in
    let begun = begins c.kernel_laws.ensures.reads old k cpu c.kernel-kernel.ensures c.in-Some.posts c.cpus-cpus.result deltas c.in-Some.ensures free c.cpus-cpus.ensures.count many in
    let rest = event.Pick cpu c.in-Some.posts ∷ event.Steal cpu ∷ event.Pick cpu c.in-Some.posts ∷ [] in
    let part : MendsInPart cpu old c.learn.new.self =
    mends_in_part c.kernel_laws.ensures c.a_waiting_thread_can_be_run.ensures old cpu c.cpus-cpus.result c.in-Some.posts deltas begun c.learn.new.self
    (part_first (clearing c.cpus-cpus.result ++ hearing cpu deltas) rest old c.learn.new.self c.in_err-learn.ensures.no_memory) in
    record {
      mended = search rules;
      counts = search rules;
      counts_in_part =
          on_err c.from_residual.result _
          (counts_mended_in_part old cpu c.cpus-cpus.result c.in-Some.posts deltas begun c.learn.new.self
          (among_first (clearing c.cpus-cpus.result ++ hearing cpu deltas) rest old c.learn.new.self c.in_err-learn.ensures.counts_in_part));
      no_memory = on_err c.from_residual.result _ part;
      idle = on_err c.from_residual.result _ (shows_idle c.kernel_laws.ensures old c.learn.new.self cpu part c.is_reached.ensures);
      running = on_err c.from_residual.result _ (runs_the_same c.kernel_laws.ensures old c.learn.new.self cpu part);
      kept = c.learn.ensures.kept;
    }

pub returns-in_err-answer : goal.returns-in_err-answer
returns-in_err-answer c =
    let old = c.args.self.now in
    let cpu = c.args.cpu in
    let k = c.kernel-kernel.result.now in
    let deltas = length c.sent.result.now + c.from.result in
    let free : is_some (on (seen k) cpu) ≡ false = first_of (cc, search rules, grind (arith, common_steps)) in
    let sent = ap length c.sent.ensures.same in
    let from = c.from.ensures in
    let many : deltas ≡ length (deltas_of old) + c.cpus-cpus.result = omega arith in
    let begun = begins c.kernel_laws.ensures.reads old k cpu c.kernel-kernel.ensures c.in-Some.posts c.cpus-cpus.result deltas c.in-Some.ensures free c.cpus-cpus.ensures.count many in
    let rest = event.Pick cpu c.in-Some.posts ∷ event.Steal cpu ∷ event.Pick cpu c.in-Some.posts ∷ [] in
    let part : MendsInPart cpu old c.pick_or_steal.new.self =
    mends_in_part c.kernel_laws.ensures c.a_waiting_thread_can_be_run.ensures old cpu c.cpus-cpus.result c.in-Some.posts deltas begun c.pick_or_steal.new.self
    (part_then (clearing c.cpus-cpus.result ++ hearing cpu deltas) rest old c.learn.new.self c.pick_or_steal.new.self c.in_ok-learn.ensures.done c.in_err-answer.ensures.no_memory) in
    record {
      mended = search rules;
      counts = search rules;
      counts_in_part =
          on_err c.from_residual-in_err-answer.result _
          (counts_mended_in_part old cpu c.cpus-cpus.result c.in-Some.posts deltas begun c.pick_or_steal.new.self
          (among_then (clearing c.cpus-cpus.result ++ hearing cpu deltas) rest old c.learn.new.self c.pick_or_steal.new.self c.in_ok-learn.ensures.counts c.in_err-answer.ensures.counts_in_part));
      no_memory = on_err c.from_residual-in_err-answer.result _ part;
      idle = on_err c.from_residual-in_err-answer.result _ (shows_idle c.kernel_laws.ensures old c.pick_or_steal.new.self cpu part c.is_reached.ensures);
      running = on_err c.from_residual-in_err-answer.result _ (runs_the_same c.kernel_laws.ensures old c.pick_or_steal.new.self cpu part);
      kept = keeps_then old c.learn.new.self c.pick_or_steal.new.self c.learn.ensures.kept c.pick_or_steal.ensures.kept;
    }

pub returns-clause-mended : goal.returns-clause-mended
returns-clause-mended c =
    let old = c.args.self.now in
    let cpu = c.args.cpu in
    let k = c.kernel-kernel.result.now in
    let deltas = length c.sent.result.now + c.from.result in
    let free : is_some (on (seen k) cpu) ≡ false = first_of (cc, search rules, grind (arith, common_steps)) in
    let sent = ap length c.sent.ensures.same in
    let from = c.from.ensures in
    let many : deltas ≡ length (deltas_of old) + c.cpus-cpus.result = omega arith in
    let begun = begins c.kernel_laws.ensures.reads old k cpu c.kernel-kernel.ensures c.in-Some.posts c.cpus-cpus.result deltas c.in-Some.ensures free c.cpus-cpus.ensures.count many in
    mended c.kernel_laws.ensures c.a_waiting_thread_can_be_run.ensures old cpu c.cpus-cpus.result c.in-Some.posts deltas begun c.learn.new.self c.pick_or_steal.new.self c.in_ok-answer.answer c.in_ok-learn.ensures.done c.in_ok-answer.ensures.done c.is_reached.ensures

pub returns-clause-counts : goal.returns-clause-counts
returns-clause-counts c =
    let old = c.args.self.now in
    let cpu = c.args.cpu in
    let k = c.kernel-kernel.result.now in
    let deltas = length c.sent.result.now + c.from.result in
    let free : is_some (on (seen k) cpu) ≡ false = first_of (cc, search rules, grind (arith, common_steps)) in
    let sent = ap length c.sent.ensures.same in
    let from = c.from.ensures in
    let many : deltas ≡ length (deltas_of old) + c.cpus-cpus.result = omega arith in
    let begun = begins c.kernel_laws.ensures.reads old k cpu c.kernel-kernel.ensures c.in-Some.posts c.cpus-cpus.result deltas c.in-Some.ensures free c.cpus-cpus.ensures.count many in
    counts_mended old cpu c.cpus-cpus.result c.in-Some.posts deltas begun c.kernel_laws.ensures c.a_waiting_thread_can_be_run.ensures c.learn.new.self c.pick_or_steal.new.self c.in_ok-answer.answer c.in_ok-learn.ensures.counts c.in_ok-answer.ensures.counts
    c.is_reached.ensures
