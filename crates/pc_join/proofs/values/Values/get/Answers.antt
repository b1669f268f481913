use Rattle.std.proofs.Common.{arith, sym, ◌∙◌}
use Rattle.pc_join.proofs.Both.{now_near, now_far}
use Rattle.pc_join.proofs.values.Values.get.Goals as goal

pub returns-then-name-lt-NEAR : goal.returns-then-name-lt-NEAR
returns-then-name-lt-NEAR g c = c.get.ensures ∙ sym (now_near c.self.inside.near c.self.inside.far c.args.self.now c.self.view_is c.self.invariant c.args.name c.if-name-lt-NEAR.true)

pub returns : goal.returns
returns g c = c.get-2.ensures ∙ sym (now_far c.self.inside.near c.self.inside.far c.args.self.now c.self.view_is c.self.invariant c.args.name (omega (arith, c.if-name-lt-NEAR.false)))
