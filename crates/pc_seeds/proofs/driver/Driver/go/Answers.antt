use Rattle.std.proofs.Common.{◌≡◌, ◌∙◌, ◌+◌, ◌++◌, suc, map, take, drop, ap, refl, arith}
use Rattle.pc_protocol.proofs.Seated.{cpu_at, cut_at}
use Rattle.pc_threads.specs.Settings.{plan_of}
use Rattle.pc_seeds.proofs.Driving.{takes_cpu, wakes}
use Rattle.pc_seeds.proofs.driver.Driver.go.Goals as goal

pub returns-in-Some-clause-drives : goal.returns-in-Some-clause-drives
returns-in-Some-clause-drives c = wakes (map plan_of c.args.plans.now) c.args.machine c.in_ok-machine.machine c.args.self.now _ c.in-Some.thread c.in-Some.is refl refl refl c.in_ok-machine.ensures.accepts

pub returns-clause-drives : goal.returns-clause-drives
returns-clause-drives c =
    let told = c.args.self.now.told.items in
    let below = c.if-choice-len.false in
    let many = c.len.ensures in
    let ok = c.args.self.now.told.ok in
    let one : c.args.choice + 1 ≡ suc c.args.choice = omega arith in
    let there = cpu_at told c.args.choice c.remove-cpu.result c.remove-cpu.result (omega arith) c.remove-cpu.ensures.value in
    takes_cpu (map plan_of c.args.plans.now) c.args.machine c.in_ok-machine-2.machine c.args.self.now _ c.go_on.new.self c.remove-cpu.result (take c.args.choice told) (drop (suc c.args.choice) told)
    c.in_default.is (cut_at told c.args.choice c.remove-cpu.result there)
    (c.remove-cpu.ensures.by_index.2 ∙ ap (λ n. take c.args.choice told ++ drop n told) one) refl refl c.in_ok-machine-2.ensures.does
