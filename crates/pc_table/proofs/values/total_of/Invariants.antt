use Rattle.std.proofs.Common.{◌≡◌, ◌≤◌, ◌*◌, take, map, sum}
use Rattle.pc_table.specs.Values.{spent_in}
use Rattle.pc_table.proofs.values.total_of.Given as goal

abbrev pub invariant-loop-time : goal.invariant-loop-time
invariant-loop-time l = record { same : l.sum ≡ sum (map (spent_in l.spent) (take l.time-index l.times)); low : l.sum ≤ 18446744073709551615 * l.time-index }
