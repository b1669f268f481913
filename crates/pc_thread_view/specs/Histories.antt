-- What is told of one thread, against its history: the kinds of its messages, in order.
use Rattle.std.specs.Prelude.{ℕ, ◌+◌, ◌≤◌, ◌≡◌, List, [], ◌∷◌, length, take, Some, None, All}
use Rattle.pc_messages.specs.declared.kind.Kind.{Kind}
use Rattle.pc_messages.specs.Run.{kind_at}
use Rattle.pc_messages.specs.State.{state_of}
use Rattle.pc_join.specs.Sets.{Source}
use Rattle.pc_thread_view.specs.Told.{Told, RiseAbove, TellsSome}

-- the history has this message
abbrev pub Has : List Kind → ℕ × Kind → Type 0
Has kinds message = kind_at kinds message.0 ≡ Some message.1

-- what is told as a prefix is one of the history, with the state that it reports
pub record IsPrefixOf (kinds : List Kind) (told : Told) : Type 0 where
  pub within : told.upto ≤ length kinds
  pub state : told.state ≡ state_of (take told.upto kinds)

-- all that is told of a thread is of its history
pub record IsOfHistory (kinds : List Kind) (told : Told) : Type 0 where
  pub prefix : IsPrefixOf kinds told
  pub early : All (Has kinds) told.early

-- all that is told of a thread is of its history, it is not nothing, and the early messages ascend past the first that
-- is missing
pub record IsToldOf (kinds : List Kind) (told : Told) : Type 0 where
  pub history : IsOfHistory kinds told
  pub gap : RiseAbove (told.upto + 1) told.early
  pub some : TellsSome told

-- the kind of each message of the history
abbrev pub source_of_kinds : List Kind → Source
source_of_kinds kinds [] = None
source_of_kinds kinds (n ∷ []) = kind_at kinds n
source_of_kinds kinds (n ∷ k ∷ m) = None
