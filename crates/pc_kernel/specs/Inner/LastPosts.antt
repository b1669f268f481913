-- What the code keeps of each thread, and by which it tells whether a message of the thread is pending.
use Rattle.std.specs.Prelude.{ℕ, ◌+◌, ◌-◌, ◌≡◌, ◌==◌, nat_lt, List, [], ◌∷◌, Option, Some, length, map, slice_get}
use Rattle.std.specs.Prelude.{if◌then◌else◌}
use Rattle.std.specs.Option.{option_map_or}
use Rattle.pc_messages.specs.Items.{is_of}
use Rattle.pc_messages.specs.declared.kind.Kind.{Kind}
use Rattle.pc_messages.specs.declared.message.Item.{Item}
use Rattle.pc_queue.specs.Queue.{Queue}
use Rattle.pc_calls.specs.declared.limits.Limits.{Limits}
use Rattle.pc_kernel.specs.declared.cpus.CpuEntry.{CpuEntry}
use Rattle.pc_kernel.specs.Rows.{ThreadRow}
use Rattle.pc_kernel.specs.Inner.Entries.{IsKernel}

-- a thread's row, and its home queue's count of posts after the last one of the thread; 0 where none was, since the
-- thread came there
pub record KeptThread : Type 0 where
  pub home : ℕ
  pub kinds : List Kind
  pub on : Option ℕ
  pub last_post : ℕ

abbrev pub thread_row_of : KeptThread → ThreadRow
thread_row_of thread = record { home = thread.home; kinds = thread.kinds; on = thread.on }

abbrev pub thread_rows : List KeptThread → List ThreadRow
thread_rows threads = map thread_row_of threads

-- the place of the last item that is of this thread, counted from 1; 0 where none is
abbrev pub last_place : ℕ → List Item → ℕ
last_place t [] = 0
last_place t (item ∷ items) =
    if nat_lt 0 (last_place t items) then last_place t items + 1 else if is_of t item then 1 else 0

-- how many of the posts to a queue it holds no more
abbrev pub gone : Queue → ℕ
gone queue = queue.posts - length queue.items

-- the count of posts to a queue after the last one of a thread that it may hold; 0 where the queue is not the
-- thread's home
abbrev pub last_post_to : List KeptThread → ℕ → ℕ → ℕ
last_post_to threads t q =
    option_map_or (λ thread. if q == thread.home then thread.last_post else 0) (slice_get threads t) 0

-- a thread's last item stands in a queue where the last post of the thread to it does, without the posts that are gone
abbrev pub KeepLastPosts : List KeptThread → List CpuEntry → Type 0
KeepLastPosts threads cpus =
    (t q : ℕ) (e : CpuEntry) → slice_get cpus q ≡ Some e
    → last_place t e.queue.items ≡ last_post_to threads t q - gone e.queue

-- what holds of every kernel's tables
pub record AreTables (limits : Limits) (threads : List KeptThread) (cpus : List CpuEntry) : Type 0 where
  pub kernel : IsKernel limits (thread_rows threads) cpus
  pub last_posts : KeepLastPosts threads cpus
