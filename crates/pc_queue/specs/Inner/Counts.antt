-- What a queue keeps, and the counts that stand beside its items.
use Rattle.std.specs.Prelude.{ℕ, ◌+◌, ◌≡◌, ◌≤◌, ◌<◌, ◌^◌, cond, ◌==◌, List, [], ◌∷◌, ◌++◌, Option, length}
use Rattle.std.specs.BTreeMap.{BTreeMap, get}
use Rattle.std.specs.Ordering.{nat_cmp}
use Rattle.pc_messages.specs.declared.message.Item.{Item}
use Rattle.pc_queue.specs.Queue.{Queue, held_of}

-- the map has the count of each thread with an item, and no other entry
pub record Counts (held : BTreeMap ℕ ℕ) (items : List Item) : Type 0 where
  pub each : (t : ℕ) → get nat_cmp held t ≡ held_of t items

-- the count of one thread becomes this, and every other stays
abbrev pub SetsCount : BTreeMap ℕ ℕ → BTreeMap ℕ ℕ → ℕ → Option ℕ → Type 0
SetsCount old new t count = (q : ℕ) → get nat_cmp new q ≡ cond (q == t) count (get nat_cmp old q)

-- what holds of every queue
pub record IsQueue (queue : Queue) : Type 0 where
  pub some_room : 1 ≤ queue.room
  pub small_room : queue.room < 2 ^ 32
  pub some_posts : 1 ≤ queue.most
  pub within_room : length queue.items ≤ queue.room
  pub within_posts : queue.posts ≤ queue.most

-- what holds of every queue with counts
pub record IsCounted (queue : Queue) (held : BTreeMap ℕ ℕ) : Type 0 where
  pub small_room : queue.room < 2 ^ 32
  pub counted : Counts held queue.items

-- the queue has one more item, at its end
abbrev pub given : Queue → Item → Queue
given queue item = record queue { posts = queue.posts + 1; items = queue.items ++ item ∷ [] }
