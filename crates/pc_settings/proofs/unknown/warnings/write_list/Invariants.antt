use Rattle.std.proofs.Common.{take, map, flat_map}
use Rattle.std.specs.Io.KnownBytes.{Appends}
use Rattle.pc_settings.specs.Keys.{of_each}
use Rattle.pc_settings.specs.UnknownKeys.{unknown_in}
use Rattle.pc_settings.specs.UnknownWords.{warning_of}
use Rattle.pc_settings.specs.Inner.Values.{table_in}
use Rattle.pc_settings.proofs.unknown.warnings.write_list.Given as goal

abbrev pub invariant-loop-place : goal.invariant-loop-place
invariant-loop-place g l =
    Appends (g.W.Write.contents l.initial.writer) (g.W.Write.contents l.writer)
    (flat_map warning_of (of_each (unknown_in l.kind) 0 (map table_in (take l.place l.value-items))))
