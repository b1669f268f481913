use Rattle.std.proofs.Common.{◌≡◌, map, string_bytes}
use Rattle.std.specs.BTreeMap.{keys}
use Rattle.pc_settings.specs.Keys.{first_some}
use Rattle.pc_settings.specs.UnknownKeys.{unknown_at}
use Rattle.pc_settings.proofs.unknown.first_in.Given as goal

abbrev pub invariant-loop-key : goal.invariant-loop-key
invariant-loop-key l =
    (goal.iterator-loop-key).can_next l.key-iterator × (goal.iterator-loop-key).is_finite l.key-iterator
    × (first_some (map (λ key. unknown_at l.kind l.place (string_bytes key)) l.key-iterator)
    ≡ first_some (map (λ key. unknown_at l.kind l.place (string_bytes key)) (keys l.table)))
