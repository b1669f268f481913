use Rattle.std.proofs.Common.{◌≡◌, None, take, map}
use Rattle.pc_settings.specs.Keys.{first_some, of_each}
use Rattle.pc_settings.specs.UnknownKeys.{unknown_in}
use Rattle.pc_settings.specs.Inner.Values.{table_in}
use Rattle.pc_settings.proofs.unknown.first_listed.Given as goal

abbrev pub invariant-loop-place : goal.invariant-loop-place
invariant-loop-place l = first_some (of_each (unknown_in l.kind) 0 (map table_in (take l.place l.value-items))) ≡ None
