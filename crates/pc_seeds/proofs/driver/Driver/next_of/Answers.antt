use Rattle.std.proofs.Common.{◌≡◌, ◌∙◌, ◌<◌, length, map, option_map, Some, slice_get, ap, refl, arith}
use Rattle.std.proofs.lemmas.Option.{gets, slice_get-map}
use Rattle.pc_threads.specs.Settings.{plan_of}
use Rattle.pc_seeds.proofs.Driving.{takes_step}
use Rattle.pc_seeds.proofs.driver.Driver.next_of.Goals as goal

pub returns : goal.returns
returns c =
    let same = c.index-place.ensures in
    let below = c.if-place-len.false in
    let many = c.len.ensures in
    let plan_there : slice_get c.args.plans.now c.args.thread ≡ Some c.in_ok-get.field-0.now = search (gets, arith) in
    let step_there : slice_get c.in_ok-get.field-0.now.steps.items c.index-done.result.now ≡ Some c.in_ok-step.field-0.now = search (gets, arith) in
    let low : c.args.thread < length c.args.self.now.done.items = omega arith in
    takes_step (map plan_of c.args.plans.now) c.args.thread c.index-done.result.now c.in_ok-step.field-0.now (plan_of c.in_ok-get.field-0.now) c.args.self.now _
    (slice_get-map plan_of c.args.plans.now c.args.thread ∙ ap (option_map plan_of) plan_there) low (search (gets, arith)) step_there (search (gets, arith)) refl refl
