-- Views of many threads, and the runs that they are of.
use Rattle.std.specs.Prelude.{ℕ, ◌&&◌, ◌≤◌, ◌≡◌, nat_le, Bool, false, [], ◌∷◌, length, take, Option, Some, None}
use Rattle.std.specs.FinMap as map
use Rattle.pc_messages.specs.declared.reported.Reported.{Reported}
use Rattle.pc_messages.specs.Run.{Run}
use Rattle.pc_messages.specs.State.{state_of}
use Rattle.pc_join.specs.Sets.{Members, Source, members_at}
use Rattle.pc_join.specs.ByName.{members_by_name, IsOfByName, is_same_by_name}
use Rattle.pc_thread_view.specs.Told.{Told, IsOfThread, numbers_of, only}
use Rattle.pc_thread_view.specs.Histories.{IsToldOf, source_of_kinds}
use Rattle.pc_join.specs.Ranges.{numbers_to}
use Rattle.pc_thread_view.specs.Same.{is_same_told}
use Rattle.pc_view.specs.declared.view.View.{View}

-- the messages that are known, as pairs of a thread's name and a number
abbrev pub pairs_of : View → Members
pairs_of view = members_by_name numbers_of view.threads

-- what is known of one thread
abbrev pub thread_of : View → ℕ → Option Told
thread_of view thread = map.get view.threads thread

-- one pair, as a set
abbrev pub pair : ℕ → ℕ → Members
pair thread number = members_at thread (only number)

-- the pairs of a thread up to a number, as a set
abbrev pub prefix_pairs : ℕ → ℕ → Members
prefix_pairs thread upto = members_at thread (numbers_to upto)

-- the kind of each message of the run
abbrev pub source_of : Run → Source
source_of run [] = None
source_of run (t ∷ m) = source_of_kinds (run t) m

-- the messages of the run, as pairs of a thread's name and a number
abbrev pub pairs_in : Run → Members
pairs_in run [] = false
pairs_in run (t ∷ []) = false
pairs_in run (t ∷ n ∷ []) = nat_le 1 n && nat_le n (length (run t))
pairs_in run (t ∷ n ∷ k ∷ m) = false

-- each thing that the view tells is what the source gives
abbrev pub IsOfSource : View → Source → Type 0
IsOfSource view s = IsOfByName numbers_of IsOfThread view.threads s

-- each thing that the view tells is as in the run
abbrev pub IsOfRun : Run → View → Type 0
IsOfRun run view = IsOfSource view (source_of run)

-- the same in plain words: of each thread, what is told is of its history in the run
abbrev pub TellsOfRun : Run → View → Type 0
TellsOfRun run view = (t : ℕ) (told : Told) → thread_of view t ≡ Some told → IsToldOf (run t) told

-- the run has so many messages of the thread, and this is the state that they report
abbrev pub IsPrefixOfRun : Run → ℕ → ℕ → Option Reported → Type 0
IsPrefixOfRun run thread upto state = (upto ≤ length (run thread)) × (state ≡ state_of (take upto (run thread)))

-- the same is known under the same names
abbrev pub is_same_view : View → View → Bool
is_same_view a b = is_same_by_name is_same_told a.threads b.threads
