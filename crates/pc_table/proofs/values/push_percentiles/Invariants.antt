use Rattle.std.proofs.Common.{◌≡◌, ◌++◌, ◌-◌, ℕ, List, map, IsPermutation}
use Rattle.pc_table.specs.Sheets.{percentile_text}
use Rattle.pc_table.specs.Values.{told_to}
use Rattle.pc_table.proofs.values.push_percentiles.Given as goal

abbrev pub invariant-loop-percent : goal.invariant-loop-percent
invariant-loop-percent l = (ticks : List ℕ) → IsPermutation ticks l.ascending
    → l.cells ≡ l.fn.cells ++ map (percentile_text l.layout ticks) (told_to l.percents (l.percent - 1))
