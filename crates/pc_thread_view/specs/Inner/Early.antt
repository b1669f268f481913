-- What is seen of a list of early messages.
use Rattle.std.specs.Prelude.{ℕ, ◌≤◌, ◌<◌, ◌^◌, List, [], ◌∷◌, length, drop}
use Rattle.pc_messages.specs.declared.kind.Kind.{Kind}
use Rattle.pc_thread_view.specs.declared.early.Form.{Form}
use Rattle.pc_thread_view.specs.declared.early.Form.TheVariants.{Empty, One, Many}

-- the messages, and how many more fit at the end with no allocation
pub record Early : Type 0 where
  pub items : List (ℕ × Kind)
  pub room : ℕ

-- none of them, one in place, or slots with so many unused ones in front
abbrev pub early_of : Form → Early
early_of Empty = record { items = []; room = 1 }
early_of (One entry) = record { items = entry ∷ []; room = 0 }
early_of (Many held) = record { items = drop held.value.front held.value.slots.items; room = 0 }

-- the unused slots are some of the slots, and all slots are counted in 32 bits
abbrev pub IsFront : ℕ → List (ℕ × Kind) → Type 0
IsFront front slots = (front ≤ length slots) × (length slots < 2 ^ 32)

abbrev pub HasFront : Form → Type 0
HasFront Empty = Unit {0}
HasFront (One entry) = Unit {0}
HasFront (Many held) = IsFront held.value.front held.value.slots.items
