use Rattle.std.proofs.Common.{◌≤◌, ◌-◌, ◌+◌, length, take}
use Rattle.std.specs.Io.KnownBytes.{Consumes}
use Rattle.pc_script.proofs.input.read_bytes.Given as goal

abbrev pub invariant-loop-filled : goal.invariant-loop-filled
invariant-loop-filled g l =
    (l.filled ≤ length l.text.items) × (length l.text.items ≤ l.most + 1)
    × Consumes (g.R.Read.remaining l.initial.reader) (g.R.Read.remaining l.reader) (take l.filled l.text.items)

abbrev pub decreases-loop-filled : goal.decreases-loop-filled
decreases-loop-filled g l = l.most + 1 - l.filled
