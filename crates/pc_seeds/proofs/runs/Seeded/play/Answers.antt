use Rattle.std.proofs.Common.{◌∙◌, ap, subst, sym}
use Rattle.pc_seeds.specs.Driving.{DrivesOn}
use Rattle.pc_seeds.proofs.Driving.{stays, stays_on}
use Rattle.pc_seeds.proofs.runs.Seeded.play.Goals as goal

pub loop-number-preserved : goal.loop-number-preserved
loop-number-preserved g c =
    let same = c.loop-number.invariant.0 in
    let plans = c.args.self.now.config.now.threads in
    let mid = c.loop-number.machine in
    let amid = c.loop-number.self.driver in
    let new = c.in_ok-machine.machine in
    let is = c.list.new.self.driver in (
      c.in_ok-list.ensures.config ∙ c.in_ok-machine.ensures.config ∙ same,
      λ none.
          stays_on plans c.args.machine mid new c.args.self.now.driver amid is (c.loop-number.invariant.1 none)
          (stays plans mid new amid is
          (subst (λ k. DrivesOn k.now.threads mid amid new is) same
          (subst (DrivesOn c.loop-number.self.config.now.threads mid amid new) (sym c.in_ok-list.ensures.driver) (c.in_ok-machine.ensures.drives (ap (λ k. k.now.restarts) same ∙ none))))),
    )
