use Rattle.std.proofs.Common.{rules}
use Rattle.pc_join.specs.ByName.{value_at}
use Rattle.pc_join.proofs.Names.{copying_start, copying_on, copying_fresh, copying_done, no_entries}
use Rattle.pc_join.proofs.Entries.{made_map}
use Rattle.pc_join.proofs.by_name.collected.Goals as goal

pub loop-name-init : goal.loop-name-init
loop-name-init g c = copying_start c.args.entries.items c.new-values.result c.into_iter-name-iterator.result.rest.items (search rules) c.new-values.ensures c.requires

pub loop-name-preserved : goal.loop-name-preserved
loop-name-preserved g c =
    copying_on (value_at c.args.entries.items) (value_at c.loop-name.values) (value_at c.put.new.self) c.loop-name.name-iterator.rest.items c.next.new.self.rest.items c.in-Some.name c.in-Some.value c.in-Some.ensures.steps.0 c.loop-name.invariant
    (c.in_ok-put.ensures.fresh (copying_fresh (value_at c.args.entries.items) (value_at c.loop-name.values) c.loop-name.name-iterator.rest.items c.next.new.self.rest.items c.in-Some.name c.in-Some.value c.in-Some.ensures.steps.0 c.loop-name.invariant))

pub returns : goal.returns
returns g c = made_map c.loop-name.values c.args.entries.items (copying_done (value_at c.args.entries.items) (value_at c.loop-name.values) c.loop-name.name-iterator.rest.items (no_entries c.loop-name.name-iterator.rest.items (search rules)) c.loop-name.invariant)
