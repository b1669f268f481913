use Rattle.std.proofs.Common.{◌≡◌, take, map, sum_by}
use Rattle.pc_load.specs.Loads.{need_of}
use Rattle.pc_lab.specs.Accounts.{demand_of}
use Rattle.pc_lab.proofs.account.needed_by.Given as goal

abbrev pub invariant-loop-thread : goal.invariant-loop-thread
invariant-loop-thread l = l.sum ≡ sum_by demand_of (map need_of (take l.thread-index l.threads))
