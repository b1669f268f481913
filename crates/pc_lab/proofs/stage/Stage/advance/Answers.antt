use Rattle.std.proofs.Common.{◌≤◌, arith}
use Rattle.pc_lab.proofs.Spending.{kept_later, told_later}
use Rattle.pc_lab.proofs.stage.Stage.advance.Goals as goal

pub invariant_of-self : goal.invariant_of-self
invariant_of-self g c =
    let old = c.self.inside in
    let later : old.tick ≤ c.args.now = omega arith in (
      c.self.invariant.0,
      told_later old.told old.tick c.args.now later c.self.invariant.1,
      kept_later old.tick c.args.now old.times.accounts.items later c.self.invariant.2,
      c.self.invariant.3,
    )
