-- One CPU's queue, as its callers see it.
use Rattle.std.specs.Prelude.{ℕ, Bool, cond, ◌==◌, nat_le, if◌then◌else◌, List, Option, Some, None, length, count_by}
use Rattle.std.specs.List.{list_any}
use Rattle.pc_messages.specs.Items.{is_of}
use Rattle.pc_messages.specs.declared.message.Item.{Item}
use Rattle.pc_queue.specs.declared.fault.QueueFault.{QueueFault}
use Rattle.pc_queue.specs.declared.fault.QueueFault.TheVariants.{QueueFull, PostsSpent}

-- the room, the limit on posts, the count of posts so far (the Aseq), and the items held, the oldest first
pub record Queue : Type 0 where
  pub room : ℕ
  pub most : ℕ
  pub posts : ℕ
  pub items : List Item

-- some item is of this thread
abbrev pub is_pending : ℕ → List Item → Bool
is_pending t items = list_any (is_of t) items

-- how many items are of this thread
abbrev pub count_of : ℕ → List Item → ℕ
count_of t items = count_by (is_of t) items

-- a count that is none where it is 0
abbrev pub some_count : ℕ → Option ℕ
some_count n = cond (n == 0) None (Some n)

-- how many items are of this thread, where there is one
abbrev pub held_of : ℕ → List Item → Option ℕ
held_of t items = some_count (count_of t items)

-- the first refusal that a post would meet
abbrev pub refusal_of : Queue → Option QueueFault
refusal_of queue =
    if nat_le queue.room (length queue.items) then Some QueueFull
    else if nat_le queue.most queue.posts then Some PostsSpent
    else None
