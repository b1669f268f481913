use Rattle.std.proofs.Common.{arith, sym, ◌∙◌}
use Rattle.pc_join.proofs.Puts.{OnOk_then}
use Rattle.pc_join.proofs.Both.{put_near, whole_near, put_far, whole_far, high, fresh_near, fresh_far, now_near, now_far}
use Rattle.pc_join.proofs.values.Values.put.Goals as goal

pub returns-then-name-lt-NEAR-clause-put : goal.returns-then-name-lt-NEAR-clause-put
returns-then-name-lt-NEAR-clause-put g c = put_near c.self.inside.near c.self.inside.far c.args.self.now c.self.view_is c.self.invariant c.put.new.self c.put.ensures.near c.args.name c.if-name-lt-NEAR.true c.args.value g.V.Join.known g.V.Join.is_of c.put.ensures.put

pub returns-then-name-lt-NEAR-clause-whole : goal.returns-then-name-lt-NEAR-clause-whole
returns-then-name-lt-NEAR-clause-whole g c = OnOk_then c.put.result c.put.ensures.whole (λ w. whole_near c.self.inside.near c.self.inside.far c.args.self.now c.self.view_is c.self.invariant c.put.new.self c.put.ensures.near c.args.name c.if-name-lt-NEAR.true c.args.value g.V.Join.known g.V.Join.is_of w)

pub invariant_of-self-2 : goal.invariant_of-self-2
invariant_of-self-2 g c = (c.self.invariant.0, high c.self.inside.near c.self.inside.far c.args.self.now c.self.view_is c.self.invariant c.put-2.new.self c.put-2.ensures.ascend c.args.name (omega (arith, c.if-name-lt-NEAR.false)) c.args.value g.V.Join.known g.V.Join.is_of c.put-2.ensures.put)

pub returns-clause-put : goal.returns-clause-put
returns-clause-put g c = put_far c.self.inside.near c.self.inside.far c.args.self.now c.self.view_is c.self.invariant c.put-2.new.self c.put-2.ensures.ascend c.args.name (omega (arith, c.if-name-lt-NEAR.false)) c.args.value g.V.Join.known g.V.Join.is_of c.put-2.ensures.put

pub returns-clause-whole : goal.returns-clause-whole
returns-clause-whole g c = OnOk_then c.put-2.result c.put-2.ensures.whole (λ w. whole_far c.self.inside.near c.self.inside.far c.args.self.now c.self.view_is c.self.invariant c.put-2.new.self c.put-2.ensures.ascend c.args.name (omega (arith, c.if-name-lt-NEAR.false)) c.args.value g.V.Join.known g.V.Join.is_of c.put-2.ensures.put w)

pub returns-then-name-lt-NEAR-clause-fresh : goal.returns-then-name-lt-NEAR-clause-fresh
returns-then-name-lt-NEAR-clause-fresh g c = λ none. OnOk_then c.put.result (c.put.ensures.fresh (sym (now_near c.self.inside.near c.self.inside.far c.args.self.now c.self.view_is c.self.invariant c.args.name c.if-name-lt-NEAR.true) ∙ none)) (λ w. fresh_near c.self.inside.near c.self.inside.far c.args.self.now c.self.view_is c.self.invariant c.put.new.self c.put.ensures.near c.args.name c.if-name-lt-NEAR.true c.args.value w)

pub returns-clause-fresh : goal.returns-clause-fresh
returns-clause-fresh g c = λ none. OnOk_then c.put-2.result (c.put-2.ensures.fresh (sym (now_far c.self.inside.near c.self.inside.far c.args.self.now c.self.view_is c.self.invariant c.args.name (omega (arith, c.if-name-lt-NEAR.false))) ∙ none)) (λ w. fresh_far c.self.inside.near c.self.inside.far c.args.self.now c.self.view_is c.self.invariant c.put-2.new.self c.put-2.ensures.ascend c.args.name (omega (arith, c.if-name-lt-NEAR.false)) c.args.value g.V.Join.known g.V.Join.is_of c.put-2.ensures.put w)
