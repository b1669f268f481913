use Rattle.std.proofs.Common.{arith}
use Rattle.pc_join.proofs.Puts.{OnOk_then}
use Rattle.pc_join.proofs.Both.{put_near, whole_near, put_far, whole_far, high}
use Rattle.pc_join.proofs.values.Values.join.Goals as goal

pub returns-then-name-lt-NEAR-clause-put : goal.returns-then-name-lt-NEAR-clause-put
returns-then-name-lt-NEAR-clause-put g c = put_near c.self.inside.near c.self.inside.far c.args.self.now c.self.view_is c.self.invariant c.join.new.self c.join.ensures.near c.args.name c.if-name-lt-NEAR.true c.args.value.now g.V.Join.known g.V.Join.is_of c.join.ensures.put

pub returns-then-name-lt-NEAR-clause-whole : goal.returns-then-name-lt-NEAR-clause-whole
returns-then-name-lt-NEAR-clause-whole g c = OnOk_then c.join.result c.join.ensures.whole (λ w. whole_near c.self.inside.near c.self.inside.far c.args.self.now c.self.view_is c.self.invariant c.join.new.self c.join.ensures.near c.args.name c.if-name-lt-NEAR.true c.args.value.now g.V.Join.known g.V.Join.is_of w)

pub invariant_of-self-2 : goal.invariant_of-self-2
invariant_of-self-2 g c = (c.self.invariant.0, high c.self.inside.near c.self.inside.far c.args.self.now c.self.view_is c.self.invariant c.join-2.new.self c.join-2.ensures.ascend c.args.name (omega (arith, c.if-name-lt-NEAR.false)) c.args.value.now g.V.Join.known g.V.Join.is_of c.join-2.ensures.put)

pub returns-clause-put : goal.returns-clause-put
returns-clause-put g c = put_far c.self.inside.near c.self.inside.far c.args.self.now c.self.view_is c.self.invariant c.join-2.new.self c.join-2.ensures.ascend c.args.name (omega (arith, c.if-name-lt-NEAR.false)) c.args.value.now g.V.Join.known g.V.Join.is_of c.join-2.ensures.put

pub returns-clause-whole : goal.returns-clause-whole
returns-clause-whole g c = OnOk_then c.join-2.result c.join-2.ensures.whole (λ w. whole_far c.self.inside.near c.self.inside.far c.args.self.now c.self.view_is c.self.invariant c.join-2.new.self c.join-2.ensures.ascend c.args.name (omega (arith, c.if-name-lt-NEAR.false)) c.args.value.now g.V.Join.known g.V.Join.is_of c.join-2.ensures.put w)
