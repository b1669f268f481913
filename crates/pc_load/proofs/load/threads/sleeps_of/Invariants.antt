use Rattle.std.proofs.Common.{pos, ◌≡◌, map, take}
use Rattle.pc_load.proofs.load.threads.sleeps_of.Given as goal

abbrev pub invariant-loop-sleep : goal.invariant-loop-sleep
invariant-loop-sleep l = map pos l.ticks.items ≡ take l.sleep-index l.sleeps
