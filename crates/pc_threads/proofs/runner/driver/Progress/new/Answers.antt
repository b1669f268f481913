use Rattle.std.proofs.Common.{◌≡◌, ◌∙◌, ℕ, List, length, map, replicate, ap, sym, subst}
use Rattle.std.proofs.lemmas.List.{length-map}
use Rattle.pc_threads.specs.Inner.Driving.{left_of, sum_in}
use Rattle.pc_threads.specs.Settings.{plan_of}
use Rattle.pc_threads.proofs.Steps.{all_left, filled}
use Rattle.pc_threads.proofs.runner.driver.Progress.new.Goals as goal

pub returns : goal.returns
returns c by =
    let plans = map plan_of c.args.plans.now in
    let same : c.resize.new.self.items ≡ replicate (length plans) 0 =
    filled c.new-done.result.items c.resize.new.self.items (length c.args.plans.now) _ c.in_ok-resize.ensures.items c.new-done.ensures.items c.new-done.ensures.len
    ∙ ap (λ (n : ℕ). replicate n 0) (sym (length-map c.args.plans.now plan_of)) in
    subst (λ (done : List ℕ). left_of by plans done ≡ sum_in by plans) (sym same) (all_left by plans)
