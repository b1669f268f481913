use Rattle.std.proofs.Common.{◌≡◌, ◌++◌, List, String, Global, flat_map, string_bytes}
use Rattle.std.specs.BTreeMap.{keys}
use Rattle.std.specs.Io.KnownBytes.{Appends}
use Rattle.pc_settings.specs.UnknownKeys.{unknown_at}
use Rattle.pc_settings.specs.UnknownWords.{warning_of}
use Rattle.pc_settings.proofs.unknown.warnings.write_table.Given as goal

abbrev pub invariant-loop-key : goal.invariant-loop-key
invariant-loop-key g l =
    (goal.iterator-loop-key g).can_next l.key-iterator × (goal.iterator-loop-key g).is_finite l.key-iterator
    × (done : List (String Global)) × (keys l.table ≡ done ++ l.key-iterator)
    × Appends (g.W.Write.contents l.initial.writer) (g.W.Write.contents l.writer) (flat_map (λ key. warning_of (unknown_at l.kind l.place (string_bytes key))) done)
