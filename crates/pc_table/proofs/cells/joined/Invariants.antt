use Rattle.std.proofs.Common.{◌≡◌, take}
use Rattle.pc_table.specs.Sheets.{joined}
use Rattle.pc_table.proofs.cells.joined.Given as goal

abbrev pub invariant-loop-byte : goal.invariant-loop-byte
invariant-loop-byte l = l.text.items ≡ joined (take l.byte-index l.name)
