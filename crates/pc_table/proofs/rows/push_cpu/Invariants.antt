use Rattle.std.proofs.Common.{◌≡◌, ◌++◌, take, map}
use Rattle.pc_table.specs.declared.rows.Number.TheVariants.{OfCpu}
use Rattle.pc_table.specs.declared.rows.Rows.TheVariants.{One}
use Rattle.pc_table.proofs.rows.push_cpu.Given as goal

abbrev pub invariant-loop-spent : goal.invariant-loop-spent
invariant-loop-spent l = l.rows.items ≡ l.fn.rows.items ++ map (λ spent. One (OfCpu l.cpu spent)) (take l.spent-index l.spent-items)
