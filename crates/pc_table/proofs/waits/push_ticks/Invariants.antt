use Rattle.std.proofs.Common.{◌≡◌, ◌++◌, take, map}
use Rattle.std.specs.List.{filter}
use Rattle.pc_table.specs.Percentiles.{is_among}
use Rattle.pc_table.proofs.waits.push_ticks.Given as goal

abbrev pub invariant-loop-wait : goal.invariant-loop-wait
invariant-loop-wait l = l.ticks.items ≡ l.fn.ticks.items ++ map (λ wait. wait.ticks) (filter (is_among l.which) (take l.wait-index l.waits))
