use Rattle.std.proofs.Common.{◌≡◌, ◌+◌, suc, map, drop, Some, slice_get, subst, sym, ◌∙◌, ap, arith}
use Rattle.std.proofs.lemmas.Option.{slice_get-get_or}
use Rattle.pc_protocol.specs.Machine.{Machine}
use Rattle.pc_threads.specs.Settings.{plan_of}
use Rattle.pc_seeds.specs.Driving.{Accepts, Creates}
use Rattle.pc_seeds.proofs.Driving.{creates_all, creates_on}
use Rattle.pc_seeds.proofs.runs.Seeded.create_all.Goals as goal

pub loop-plan-preserved : goal.loop-plan-preserved
loop-plan-preserved c =
    let items = c.threads-plan-items.result.now in
    let i = c.loop-plan.plan-index in
    let x = c.plan-item.result in
    let there : slice_get items i ≡ Some x = slice_get-get_or items i x c.loop-plan-test.true ∙ ap Some (sym c.plan-item.is) in
    let one : suc i ≡ i + 1 = omega arith in (
      c.loop-plan.invariant.0,
      c.loop-plan.invariant.1,
      subst (λ n. (end : Machine) → Creates (map plan_of (drop n items)) c.in_ok-machine.machine end → Creates (map plan_of items) c.args.machine end) one
          (creates_on items i x c.args.machine c.loop-plan.machine c.in_ok-machine.machine there c.loop-plan.invariant.2
          (subst (λ call. Accepts call c.loop-plan.machine c.in_ok-machine.machine) c.in-Some.ensures c.in_ok-machine.ensures.accepts)),
    )

pub returns-clause-creates : goal.returns-clause-creates
returns-clause-creates c =
    let past = c.loop-plan-test.false in
    subst (λ plans. Creates plans c.args.machine c.loop-plan.machine) c.threads-plan-items.ensures
    (creates_all c.threads-plan-items.result.now c.loop-plan.plan-index c.args.machine c.loop-plan.machine (omega arith) c.loop-plan.invariant.2)
