-- What the code keeps of each CPU, as rows, and what a post does to it.
use Rattle.std.specs.Prelude.{ℕ, ◌+◌, ◌<◌, ◌≡◌, ◌==◌, ◌&&◌, not, Bool, false, Option, Some, None, if◌then◌else◌}
use Rattle.std.specs.Prelude.{List, [], ◌∷◌, ◌++◌, length, map, slice_get}
use Rattle.std.specs.Option.{option_map, option_map_or, option_and_then}
use Rattle.pc_messages.specs.declared.message.Item.{Item}
use Rattle.pc_queue.specs.Queue.{Queue}
use Rattle.pc_kernel.specs.declared.cpus.CpuEntry.{CpuEntry}
use Rattle.pc_kernel.specs.declared.cpus.Landing.{Landing}
use Rattle.pc_calls.specs.declared.limits.Limits.{Limits}
use Rattle.pc_kernel.specs.Rows.{ThreadRow, CpuRow, KernelRows}
use Rattle.pc_kernel.specs.PlainKernel.{is_named}
use Rattle.pc_kernel.specs.Sound.{IsSound}
use Rattle.pc_kernel.specs.Steps.{woken_of}

abbrev pub row_of : CpuEntry → CpuRow
row_of e =
    record { posts = e.queue.posts; content = e.queue.items; target = e.target; on = e.running; asleep = e.asleep }

abbrev pub rows : Limits → List ThreadRow → List CpuEntry → KernelRows
rows limits threads cpus = record { limits = limits; threads = threads; cpus = map row_of cpus }

-- every queue has the room and the posts of the limits
abbrev pub HaveLimits : Limits → List CpuEntry → Type 0
HaveLimits limits cpus =
    (c : ℕ) (e : CpuEntry) → slice_get cpus c ≡ Some e → (e.queue.room ≡ limits.room) × (e.queue.most ≡ limits.posts)

-- the CPU that a thread's row has it on
abbrev pub place_in : List ThreadRow → ℕ → Option ℕ
place_in threads t = option_and_then (λ row. row.on) (slice_get threads t)

-- a thread that runs on a CPU has that CPU in its row
abbrev pub ArePlaced : List ThreadRow → List CpuEntry → Type 0
ArePlaced threads cpus =
    (c t : ℕ) (e : CpuEntry) → slice_get cpus c ≡ Some e → e.running ≡ Some t → place_in threads t ≡ Some c

-- what holds of every kernel and its rows
pub record IsKernel (limits : Limits) (threads : List ThreadRow) (cpus : List CpuEntry) : Type 0 where
  pub sound : IsSound (rows limits threads cpus)
  pub queues : HaveLimits limits cpus
  pub placed : ArePlaced threads cpus

-- a CPU with nothing posted or running, whose queue wakes its own agent
abbrev pub fresh_cpu : Limits → ℕ → CpuEntry
fresh_cpu limits c =
    record {
      queue = record { room = limits.room; most = limits.posts; posts = 0; items = [] };
      target = Some c;
      running = None;
      asleep = false;
    }

-- whom each queue wakes is there
abbrev pub AreTargets : List CpuEntry → Type 0
AreTargets cpus = (q c : ℕ) (e : CpuEntry) → slice_get cpus q ≡ Some e → e.target ≡ Some c → c < length cpus

-- the CPU's agent is awake, where it is the one named
abbrev pub roused_entry : Option ℕ → ℕ → CpuEntry → CpuEntry
roused_entry agent c e = record e { asleep = e.asleep && not (is_named agent c) }

-- whether the CPU's agent sleeps; none does of a CPU that is not there
abbrev pub sleeps_in : List CpuEntry → ℕ → Bool
sleeps_in cpus c = option_map_or (λ e. e.asleep) (slice_get cpus c) false

-- the queue has one more item, at its end
abbrev pub given : Queue → Item → Queue
given queue item = record queue { posts = queue.posts + 1; items = queue.items ++ item ∷ [] }

-- so has the CPU's queue, where it is the one posted to
abbrev pub given_entry : ℕ → Item → ℕ → CpuEntry → CpuEntry
given_entry q item c e = if c == q then record e { queue = given e.queue item } else e

-- the item is at the end of queue q, and the agent that the queue wakes is awake
pub record IsPosted (old new : List CpuEntry) (q : ℕ) (item : Item) (landing : Landing) : Type 0 where
  pub entry : CpuEntry
  pub there : slice_get old q ≡ Some entry
  pub room : length entry.queue.items < entry.queue.room
  pub posts : entry.queue.posts < entry.queue.most
  pub count : length new ≡ length old
  pub each : (c : ℕ)
      → slice_get new c ≡ option_map (λ e. roused_entry entry.target c (given_entry q item c e)) (slice_get old c)
  pub aseq : landing.aseq ≡ entry.queue.posts + 1
  pub woken : landing.woken ≡ woken_of (sleeps_in old) entry.target
