-- Parts of a delta: the messages that they tell, and the runs that they are of.
use Rattle.std.specs.Prelude.{ℕ, ◌==◌, ◌≡◌, Bool, List, [], ◌∷◌, map, Option, Some, None, All, flat_map}
use Rattle.std.specs.List.{list_any, range_with_len, filter_map}
use Rattle.pc_messages.specs.Run.{Run, kind_at}
use Rattle.pc_messages.specs.declared.message.Item.{Item}
use Rattle.pc_messages.specs.declared.message.Item.TheVariants.{Thread, Tick}
use Rattle.pc_join.specs.Sets.{Members}
use Rattle.pc_view.specs.Views.{pair, prefix_pairs, IsPrefixOfRun}
use Rattle.pc_delta.specs.declared.part.Part.{Part}
use Rattle.pc_delta.specs.declared.part.Part.TheVariants.{One, Folded}

-- the messages that a part tells: one, or all of a thread up to a number
abbrev pub set_of_part : Part → Members
set_of_part (One message) = pair message.thread message.number
set_of_part (Folded thread upto reported) = prefix_pairs thread upto

-- the messages that the parts tell
abbrev pub set_of : List Part → Members
set_of parts m = list_any (λ part. set_of_part part m) parts

-- the thread that a part tells of
abbrev pub thread_of_part : Part → ℕ
thread_of_part (One message) = message.thread
thread_of_part (Folded thread upto reported) = thread

-- one of the parts tells of the thread
abbrev pub tells_of : List Part → ℕ → Bool
tells_of parts t = list_any (λ part. thread_of_part part == t) parts

-- the part is as in the run: the message's kind, or the state of the run's first messages of the thread
abbrev pub IsPartOfRun : Run → Part → Type 0
IsPartOfRun run (One message) = kind_at (run message.thread) message.number ≡ Some message.kind
IsPartOfRun run (Folded thread upto reported) = IsPrefixOfRun run thread upto (Some reported)

-- each of the parts is as in the run
abbrev pub AreOfRun : Run → List Part → Type 0
AreOfRun run parts = All (IsPartOfRun run) parts

-- the parts of several deltas, in order
abbrev pub all_parts : List (List Part) → List Part
all_parts deltas = flat_map (λ parts. parts) deltas

-- the messages that a part tells, as pairs of a thread's name and a number
abbrev pub pairs_of_part : Part → List (ℕ × ℕ)
pairs_of_part (One message) = (message.thread, message.number) ∷ []
pairs_of_part (Folded thread upto reported) = map (λ number. (thread, number)) (range_with_len 1 upto)

-- the messages that the parts tell, as such pairs
abbrev pub pairs_of_parts : List Part → List (ℕ × ℕ)
pairs_of_parts parts = flat_map pairs_of_part parts

-- the part that tells an item's message; a tick has none
abbrev pub part_in : Item → Option Part
part_in (Thread message) = Some (One message)
part_in (Tick cpu) = None

-- the parts that tell the messages of items, in order
abbrev pub parts_in : List Item → List Part
parts_in items = filter_map part_in items
