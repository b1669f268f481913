use Rattle.std.proofs.Common.{◌≡◌, take, map}
use Rattle.pc_settings.specs.Inner.Values.{integer_in}
use Rattle.pc_settings.proofs.loads.threads.integers_of.Given as goal

abbrev pub invariant-loop-item : goal.invariant-loop-item
invariant-loop-item l = l.integers.items ≡ map integer_in (take l.item-index l.items)
