use Rattle.std.proofs.Common.{◌∙◌, subst, ap}
use Rattle.pc_join.specs.ByName.{value_at}
use Rattle.pc_join.specs.Inner.Leaves.{IsSetAt}
use Rattle.pc_join.proofs.Names.{copying_start, copying_on, copying_fresh}
use Rattle.pc_join.proofs.by_name.copy_all.Goals as goal

pub loop-name-init : goal.loop-name-init
loop-name-init g c = copying_start c.args.values.now c.new-copy.result c.into_iter-name-iterator.result (c.into_iter-name-iterator.ensures.into_iter_gives ∙ c.iter-name-items.ensures.entries) c.new-copy.ensures c.iter-name-items.ensures.ascend

pub loop-name-preserved : goal.loop-name-preserved
loop-name-preserved g c = copying_on (value_at c.args.values.now) (value_at c.loop-name.copy) (value_at c.put.new.self) c.loop-name.name-iterator c.next.new.self c.in-Some.name c.in-Some.value.now c.in-Some.ensures.steps c.loop-name.invariant
    (subst (λ v. IsSetAt (value_at c.loop-name.copy) c.in-Some.name v (value_at c.put.new.self)) c.in_ok-one.ensures
    (subst (λ k. IsSetAt (value_at c.loop-name.copy) k c.in_ok-one.one (value_at c.put.new.self)) c.index.ensures
    (c.in_ok-put.ensures.fresh (ap (value_at c.loop-name.copy) c.index.ensures ∙ copying_fresh (value_at c.args.values.now) (value_at c.loop-name.copy) c.loop-name.name-iterator c.next.new.self c.in-Some.name c.in-Some.value.now c.in-Some.ensures.steps c.loop-name.invariant))))
