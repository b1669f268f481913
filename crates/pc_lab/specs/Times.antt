-- What the time of a CPU went to.
use Rattle.std.specs.Prelude.{◌≡◌, ℕ, ◌+◌, ◌≤◌}
use Rattle.pc_lab.specs.declared.times.Account.{Account}
use Rattle.pc_lab.specs.declared.times.CpuTime.{CpuTime}

-- The time up to a tick is accounted for: a thread ran, or the CPU's agent was in a turn, or neither; one waited for
-- the CPU for a part of the last
pub record IsWhole (tick : ℕ) (time : CpuTime) : Type 0 where
  pub sum : time.ran + time.in_turns + time.idle ≡ tick
  pub part : time.idle_while_one_waits ≤ time.idle

-- An account is whole up to a tick that is not behind now
pub record IsKept (now : ℕ) (account : Account) : Type 0 where
  pub whole : IsWhole account.upto account.time
  pub past : account.upto ≤ now
