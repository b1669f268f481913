use Rattle.std.proofs.Common.{◌≡◌, ◌≤◌, ◌*◌, take, map}
use Rattle.pc_load.specs.Loads.{need_of}
use Rattle.pc_lab.specs.Accounts.{steps_in}
use Rattle.pc_lab.proofs.account.steps_in.Given as goal

abbrev pub invariant-loop-thread : goal.invariant-loop-thread
invariant-loop-thread l =
    record { same : l.sum ≡ steps_in l.keep (map need_of (take l.thread-index l.threads)); low : l.sum ≤ 18446744073709551615 * l.thread-index }
