-- Items of queues: whose they are, which pairs of a name and a number they tell, and when they are of a run.
use Rattle.std.specs.Prelude.{ℕ, ◌≡◌, ◌==◌, Bool, false, List, Option, Some, None, All, Contains, if◌then◌else◌}
use Rattle.std.specs.List.{filter_map}
use Rattle.pc_messages.specs.Run.{Run, kind_at, IsWellFormed}
use Rattle.pc_messages.specs.declared.message.Item.{Item}
use Rattle.pc_messages.specs.declared.message.Item.TheVariants.{Thread, Tick}
use Rattle.pc_messages.specs.declared.message.Message.{Message}

-- the thread of an item; a tick has none
abbrev pub thread_in : Item → Option ℕ
thread_in (Thread message) = Some message.thread
thread_in (Tick cpu) = None

-- the number of an item's message
abbrev pub number_in : Item → Option ℕ
number_in (Thread message) = Some message.number
number_in (Tick cpu) = None

-- the item is a message of this thread
abbrev pub is_of : ℕ → Item → Bool
is_of t (Thread message) = message.thread == t
is_of t (Tick cpu) = false

-- the item's message, where it is one of this thread
abbrev pub message_in : ℕ → Item → Option Message
message_in t (Thread message) = if message.thread == t then Some message else None
message_in t (Tick cpu) = None

-- the pair of a thread and a number that an item tells; a tick tells none
abbrev pub pair_in : Item → Option (ℕ × ℕ)
pair_in (Thread message) = Some (message.thread, message.number)
pair_in (Tick cpu) = None

-- the pairs that a list of items tells, in order
abbrev pub pairs_in : List Item → List (ℕ × ℕ)
pairs_in items = filter_map pair_in items

-- the item's message is one of the run
abbrev pub IsItemOf : Run → Item → Type 0
IsItemOf run (Thread message) = kind_at (run message.thread) message.number ≡ Some message.kind
IsItemOf run (Tick cpu) = Unit {0}

-- each item's message is one of the run
abbrev pub AreItemsOf : Run → List Item → Type 0
AreItemsOf run items = All (IsItemOf run) items

-- items that a delta can tell: their messages are well formed, and no two of one thread and number differ
pub record AreTellable (items : List Item) : Type 0 where
  pub well_formed : (message : Message) → Contains items (Thread message) → IsWellFormed message.number message.kind
  pub alike : (one other : Message) → Contains items (Thread one) → Contains items (Thread other)
      → one.thread ≡ other.thread
      → one.number ≡ other.number → one.kind ≡ other.kind
