use Rattle.std.proofs.Common.{ltb, rules}
use Rattle.std.proofs.lemmas.List.Sorted.{IsPartitionPoint-from_clause, IsPartitionedBy-ltb}
use Rattle.pc_thread_view.proofs.Places.{ascending, place, there}
use Rattle.pc_thread_view.proofs.held.place_by_halves.Goals as goal

pub returns-then-begins_with : goal.returns-then-begins_with
returns-then-begins_with c = there c.args.early.now c.split_at.result.1.now c.partition_point-place.result c.args.number c.begins_with.result c.split_at.ensures.back c.begins_with.ensures c.if-begins_with.true

pub returns : goal.returns
returns c =
    let parted = IsPartitionedBy-ltb (λ e. e.0) _ c.args.number (ascending 0 c.args.early.now c.requires) in
    let point = IsPartitionPoint-from_clause (λ e. ltb e.0 c.args.number) _ _ c.partition_point-place.ensures.partitioned parted (λ a r q k. search rules) in
    place c.args.early.now c.split_at.result.1.now c.partition_point-place.result c.args.number c.begins_with.result c.requires c.partition_point-place.ensures.bound point c.split_at.ensures.back c.begins_with.ensures c.if-begins_with.false
