use Rattle.std.proofs.Common.{◌≡◌, ◌≤◌, ◌*◌, take, sum}
use Rattle.pc_table.proofs.percentiles.sum_of.Given as goal

abbrev pub invariant-loop-number : goal.invariant-loop-number
invariant-loop-number l = record { same : l.sum ≡ sum (take l.number-index l.numbers); low : l.sum ≤ 18446744073709551615 * l.number-index }
