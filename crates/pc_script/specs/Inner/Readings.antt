-- Reading the words of a command.
use Rattle.std.specs.Prelude.{◌≡◌, ℕ, Bool, true, false, List, ◌++◌, map, Option, Some, None}
use Rattle.pc_script.specs.Grammar.{Field, Processors, Processor, Queue, Level, Count, Mask, Index, Thread, State}
use Rattle.pc_script.specs.Grammar.{Target, Failure, Policy}
use Rattle.pc_script.specs.Grammar.{field_words, IsInRange, words_of, AreInRange, Spells}
use Rattle.pc_script.specs.declared.command.Command.{Command}
use Rattle.pc_script.specs.declared.line.Asks.{Asks}
use Rattle.pc_script.specs.declared.line.Asks.TheVariants as asks
use Rattle.pc_script.specs.declared.line.Wish.{Wish}
use Rattle.pc_script.specs.declared.line.Wish.TheVariants as wish
use Rattle.pc_script.specs.declared.places.Commands.{Commands}
use Rattle.pc_script.specs.declared.places.Sort.{Sort}
use Rattle.pc_script.specs.declared.places.Sort.TheVariants as sort

-- a command was read exactly where the words spell one
abbrev pub IsReading : List (List ℕ) → Option Command → Type 0
IsReading spelled None = (command : Command) → Spells spelled command → ⊥
IsReading spelled (Some command) = Spells spelled command

-- the command of a sort, where each sort has a place of its own
abbrev pub command_at : Sort → Commands → Command
command_at sort.Event commands = commands.event
command_at sort.Status commands = commands.status
command_at sort.Other commands = commands.other

-- what a line asks for, where its command stands in the place of its sort
abbrev pub wish_of : Asks → Commands → Wish
wish_of asks.Nothing commands = wish.Nothing
wish_of (asks.For sort) commands = wish.Answer (command_at sort commands)
wish_of asks.ForStop commands = wish.Stop

-- What a field says, whatever its value
pub data Kind : Type 0 where
  processors : Kind
  processor : Kind
  queue : Kind
  level : Kind
  count : Kind
  mask : Kind
  index : Kind
  thread : Kind
  state : Kind
  target : Kind
  failure : Kind
  policy : Kind

abbrev pub kind_of : Field → Kind
kind_of (Processors number) = processors
kind_of (Processor cpu) = processor
kind_of (Queue q) = queue
kind_of (Level l) = level
kind_of (Count number) = count
kind_of (Mask m) = mask
kind_of (Index i) = index
kind_of (Thread t) = thread
kind_of (State is_ready) = state
kind_of (Target cpu) = target
kind_of (Failure fails) = failure
kind_of (Policy named) = policy

-- a field of this kind is always one word
abbrev pub is_word : Kind → Bool
is_word failure = false
is_word policy = false
is_word _ = true

abbrev pub kinds_of : List Field → List Kind
kinds_of fields = map kind_of fields

-- a field of this kind was taken exactly where it is what the words begin with
abbrev pub IsFieldReading : {Value : Type 0} → Kind → (Value → Field) → List (List ℕ) → List (List ℕ) → Option Value
    → Type 0
IsFieldReading kind field before after None =
    (any : Field) → kind_of any ≡ kind → IsInRange any → (others : List (List ℕ)) → before ≡ field_words any ++ others
    → ⊥
IsFieldReading kind field before after (Some read) =
    (kind_of (field read) ≡ kind) × IsInRange (field read) × (before ≡ field_words (field read) ++ after)

-- words were read exactly where they are fields of these kinds
abbrev pub IsFieldsReading : {Values : Type 0} → List Kind → (Values → List Field) → List (List ℕ) → Option Values
    → Type 0
IsFieldsReading kinds fields spelled None =
    (any : List Field) → kinds_of any ≡ kinds → AreInRange any → spelled ≡ words_of any → ⊥
IsFieldsReading kinds fields spelled (Some read) =
    (kinds_of (fields read) ≡ kinds) × AreInRange (fields read) × (spelled ≡ words_of (fields read))
