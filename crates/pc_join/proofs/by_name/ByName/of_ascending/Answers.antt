use Rattle.pc_join.proofs.Entries.{map_kept, map_short}
use Rattle.pc_join.proofs.by_name.ByName.of_ascending.Goals as goal

pub invariant_of-result : goal.invariant_of-result
invariant_of-result g c = (map_kept g.V.Join.known c.args.entries.items _ c.in_ok-values.ensures c.requires.not_empty, map_short c.args.entries.items _ c.in_ok-values.ensures c.requires.short)
