use Rattle.std.proofs.Common.{ltb, rules, sym, arith, ◌∙◌}
use Rattle.std.proofs.lemmas.List.Sorted.{IsPartitionPoint-from_clause, IsPartitionedBy-ltb}
use Rattle.pc_join.proofs.Standing.{ascending, guessed, parted}
use Rattle.pc_join.proofs.leaf.place_of.Goals as goal

pub returns-then-stands_at : goal.returns-then-stands_at
returns-then-stands_at g c = guessed c.args.entries.now _ c.args.name c.requires (sym c.stands_at.ensures ∙ c.if-stands_at.true)

pub returns : goal.returns
returns g c =
    let split = IsPartitionedBy-ltb (λ e. e.0) _ c.args.name (ascending 0 c.args.entries.now c.requires) in
    let point = IsPartitionPoint-from_clause (λ e. ltb e.0 c.args.name) _ _ c.partition_point.ensures.partitioned split (λ a r q k. search rules) in
    parted c.args.entries.now c.partition_point.result c.args.name c.requires c.partition_point.ensures.bound (λ k d lt. point.0 k d (omega arith) lt) point.1
