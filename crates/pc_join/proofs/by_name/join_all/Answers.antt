use Rattle.std.proofs.Common.{◌∙◌, subst, Some}
use Rattle.pc_join.specs.ByName.{value_at}
use Rattle.pc_join.specs.Inner.Puts.{IsPut, IsWholeAt}
use Rattle.pc_join.proofs.Names.{found_all, joining_start, joining_on, joining_stops, joining_done}
use Rattle.pc_join.proofs.by_name.join_all.Goals as goal

pub loop-name-init : goal.loop-name-init
loop-name-init g c = joining_start g.V.Join.known g.V.Join.is_of (value_at c.args.values.now) c.args.other.now c.into_iter-name-iterator.result (c.into_iter-name-iterator.ensures.into_iter_gives ∙ c.iter-name-items.ensures.entries) (found_all 0 c.args.other.now c.iter-name-items.ensures.ascend)

pub loop-name-preserved : goal.loop-name-preserved
loop-name-preserved g c = joining_on g.V.Join.known g.V.Join.is_of (value_at c.args.values.now) (value_at c.args.other.now) (value_at c.loop-name.values) (value_at c.join.new.self) c.loop-name.name-iterator c.next.new.self c.in-Some.name c.in-Some.value.now c.in-Some.ensures.steps c.loop-name.invariant
    (subst (λ k. IsPut g.V.Join.known g.V.Join.is_of (value_at c.loop-name.values) k c.in-Some.value.now (value_at c.join.new.self)) c.index.ensures c.join.ensures.put)
    (subst (λ k. IsWholeAt g.V.Join.known (value_at c.loop-name.values k) (Some c.in-Some.value.now) (value_at c.join.new.self k)) c.index.ensures c.in_ok-join.ensures.whole)

pub returns-in_err-join-clause-part : goal.returns-in_err-join-clause-part
returns-in_err-join-clause-part g c = joining_stops g.V.Join.known g.V.Join.is_of (value_at c.args.values.now) (value_at c.args.other.now) (value_at c.loop-name.values) (value_at c.join.new.self) c.loop-name.name-iterator c.next.new.self c.in-Some.name c.in-Some.value.now c.in-Some.ensures.steps c.loop-name.invariant
    (subst (λ k. IsPut g.V.Join.known g.V.Join.is_of (value_at c.loop-name.values) k c.in-Some.value.now (value_at c.join.new.self)) c.index.ensures c.join.ensures.put)

pub returns-clause-whole : goal.returns-clause-whole
returns-clause-whole g c = joining_done g.V.Join.known g.V.Join.is_of (value_at c.args.values.now) (value_at c.args.other.now) (value_at c.loop-name.values) c.loop-name.name-iterator c.in-None.ensures.steps.0 c.loop-name.invariant
