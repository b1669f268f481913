-- What a kernel is seen as: its limits, and a row for each thread and each CPU.
use Rattle.std.specs.Prelude.{ℕ, Bool, List, Option}
use Rattle.pc_messages.specs.declared.kind.Kind.{Kind}
use Rattle.pc_messages.specs.declared.message.Item.{Item}
use Rattle.pc_calls.specs.declared.limits.Limits.{Limits}

-- a thread: its home queue, the kinds of its messages, and the CPU that it runs on
pub record ThreadRow : Type 0 where
  pub home : ℕ
  pub kinds : List Kind
  pub on : Option ℕ

-- a CPU: its queue's count of posts and items, whom the queue wakes, the thread on it, and whether its agent sleeps
pub record CpuRow : Type 0 where
  pub posts : ℕ
  pub content : List Item
  pub target : Option ℕ
  pub on : Option ℕ
  pub asleep : Bool

-- the threads and the CPUs stand in the order of their names
pub record KernelRows : Type 0 where
  pub limits : Limits
  pub threads : List ThreadRow
  pub cpus : List CpuRow
