-- What can be read of a kernel, and what its reads answer.
use Rattle.std.specs.Prelude.{ℕ, nat_lt, Bool, false, List, [], length, Option, Some, None, is_some, slice_get}
use Rattle.std.specs.Prelude.{if◌then◌else◌, not, ◌&&◌}
use Rattle.std.specs.Option.{option_map, option_map_or, option_and_then}
use Rattle.pc_messages.specs.Mask.{allows}
use Rattle.pc_messages.specs.State.{is_ready, phase_of, mask_of, state_of}
use Rattle.pc_messages.specs.declared.kind.Kind.{Kind}
use Rattle.pc_messages.specs.declared.message.Item.{Item}
use Rattle.pc_messages.specs.declared.reported.Phase.{Phase}
use Rattle.pc_messages.specs.declared.reported.Reported.{Reported}
use Rattle.pc_calls.specs.declared.limits.Limits.{Limits}
use Rattle.pc_calls.specs.declared.call.Status.{Status}
use Rattle.pc_queue.specs.Queue as queue
use Rattle.pc_kernel.specs.Rows.{ThreadRow, CpuRow, KernelRows}
use Rattle.pc_kernel.specs.PlainKernel as plain
use Rattle.pc_kernel.specs.PlainKernel.{PlainKernel}

-- the limits, how many threads are known, and a row for each thread that is known and each CPU that is there
pub record Reads : Type 0 where
  pub limits : Limits
  pub threads : ℕ
  pub thread : ℕ → Option ThreadRow
  pub cpu : ℕ → Option CpuRow

-- what can be read of a thread of a plain kernel
abbrev pub thread_row : PlainKernel → ℕ → ThreadRow
thread_row P t = record { home = P.home t; kinds = plain.kinds P t; on = plain.place_of P t }

-- what can be read of a CPU of a plain kernel
abbrev pub cpu_row : PlainKernel → ℕ → CpuRow
cpu_row P c =
    record {
      posts = plain.aseq P c;
      content = plain.content P c;
      target = P.target c;
      on = P.on c;
      asleep = is_some (P.slept c);
    }

-- all that can be read of a plain kernel
abbrev pub shown : PlainKernel → Reads
shown P =
    record {
      limits = P.limits;
      threads = plain.threads P;
      thread = λ t. if plain.is_known P t then Some (thread_row P t) else None;
      cpu = λ c. if nat_lt c P.limits.cpus then Some (cpu_row P c) else None;
    }

-- what can be read of a kernel's rows
abbrev pub seen : KernelRows → Reads
seen k = record { limits = k.limits; threads = length k.threads; thread = slice_get k.threads; cpu = slice_get k.cpus }

-- the thread is known; of one that is not, no kinds are read
abbrev pub is_known : Reads → ℕ → Bool
is_known r t = is_some (r.thread t)

-- the kinds of a thread's messages
abbrev pub kinds_read : Reads → ℕ → List Kind
kinds_read r t = option_map_or (λ row. row.kinds) (r.thread t) []

-- the number of a thread's last message
abbrev pub number_read : Reads → ℕ → ℕ
number_read r t = length (kinds_read r t)

-- the queue to which a thread's messages go
abbrev pub home : Reads → ℕ → ℕ
home r t = option_map_or (λ row. row.home) (r.thread t) 0

-- the CPU that a thread is on
abbrev pub place : Reads → ℕ → Option ℕ
place r t = option_and_then (λ row. row.on) (r.thread t)

-- a thread's phase
abbrev pub phase : Reads → ℕ → Option Phase
phase r t = phase_of (kinds_read r t)

-- the thread's mask has the CPU
abbrev pub is_allowed_on : Reads → ℕ → ℕ → Bool
is_allowed_on r t c = option_map_or (λ mask. allows mask c) (mask_of (kinds_read r t)) false

-- the CPU is there; of one that is not, nothing is read
abbrev pub is_cpu : Reads → ℕ → Bool
is_cpu r c = nat_lt c r.limits.cpus

-- how many posts a CPU's queue had
abbrev pub aseq_read : Reads → ℕ → ℕ
aseq_read r c = option_map_or (λ row. row.posts) (r.cpu c) 0

-- the items that a CPU's queue holds
abbrev pub content_read : Reads → ℕ → List Item
content_read r c = option_map_or (λ row. row.content) (r.cpu c) []

-- the thread that is on a CPU
abbrev pub on : Reads → ℕ → Option ℕ
on r c = option_and_then (λ row. row.on) (r.cpu c)

-- the CPU's agent sleeps
abbrev pub is_asleep : Reads → ℕ → Bool
is_asleep r c = option_map_or (λ row. row.asleep) (r.cpu c) false

-- the thread's home queue holds a message of it
abbrev pub is_pending : Reads → ℕ → Bool
is_pending r t = queue.is_pending t (content_read r (home r t))

-- what `status` answers; none of a thread that is not known, as of the next three
abbrev pub status_of : Reads → ℕ → Option Status
status_of r t = option_map (λ row. record { number = length row.kinds; running_on = row.on }) (r.thread t)

-- what `reported` and `state` answer: the state that a thread's messages report
abbrev pub reported_of : Reads → ℕ → Option Reported
reported_of r t = option_and_then (λ row. state_of row.kinds) (r.thread t)

-- what `is_waiting` answers: a thread is ready, and on no CPU
abbrev pub is_waiting : Reads → ℕ → Bool
is_waiting r t = option_map_or (λ state. is_ready state.phase) (reported_of r t) false && not (is_some (place r t))

-- what `history` answers: the kinds of a thread's messages
abbrev pub history_of : Reads → ℕ → Option (List Kind)
history_of r t = option_map (λ row. row.kinds) (r.thread t)

-- what `queue_of` answers: a thread's home
abbrev pub queue_of : Reads → ℕ → Option ℕ
queue_of r t = option_map (λ row. row.home) (r.thread t)

-- what the count of posts answers; none of a CPU that is not there
abbrev pub aseq_of : Reads → ℕ → Option ℕ
aseq_of r c = option_map (λ row. row.posts) (r.cpu c)
