-- Where a view departs from a kernel's histories.
use Rattle.std.specs.Prelude.{ℕ, ◌+◌, ◌<◌, ◌≤◌, ◌≡◌, ◌⊎◌, IsTrue, List, ◌∷◌, ◌++◌, length, take, All}
use Rattle.pc_messages.specs.declared.kind.Kind.{Kind}
use Rattle.pc_messages.specs.State.{state_of}
use Rattle.pc_thread_view.specs.Told.{Told}
use Rattle.pc_thread_view.specs.Histories.{Has, IsPrefixOf}
use Rattle.pc_kernel.specs.Reads.{Reads, is_known, number_read}
use Rattle.pc_view.specs.declared.view.View.{View}
use Rattle.pc_view.specs.Prefixes.{upto_of}

-- the number is that of the first early message that the history has not, or has otherwise
pub record IsFirstOther (kinds : List Kind) (early : List (ℕ × Kind)) (number : ℕ) : Type 0 where
  pub before : List (ℕ × Kind)
  pub kind : Kind
  pub after : List (ℕ × Kind)
  pub among : early ≡ before ++ (number, kind) ∷ after
  pub had : All (Has kinds) before
  pub other : ¬ Has kinds (number, kind)

-- the prefix is longer than the history, and this is the first number past it
abbrev pub IsPast : List Kind → Told → ℕ → Type 0
IsPast kinds told number = (length kinds < told.upto) × (number ≡ length kinds + 1)

-- the prefix reports another state than so much of the history, and this is its last number
abbrev pub IsOtherState : List Kind → Told → ℕ → Type 0
IsOtherState kinds told number =
    (told.upto ≤ length kinds) × (¬ (told.state ≡ state_of (take told.upto kinds))) × (number ≡ told.upto)

-- what is told of a thread is not of its history, and this is the number at which it departs from it: the first of
-- these three that holds. A thread that a kernel does not know has an empty history.
abbrev pub Departs : List Kind → Told → ℕ → Type 0
Departs kinds told number =
    IsPast kinds told number
    ⊎ (IsOtherState kinds told number ⊎ (IsPrefixOf kinds told × IsFirstOther kinds told.early number))

-- the kernel knows the thread, and the view all its messages so far
pub record IsComplete (view : View) (reads : Reads) (thread : ℕ) : Type 0 where
  pub known : IsTrue (is_known reads thread)
  pub reached : number_read reads thread ≤ upto_of view thread
