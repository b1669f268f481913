-- What is told of one thread: a folded prefix of its messages, and early messages past a gap.
use Rattle.std.specs.Prelude.{ℕ, ◌+◌, ◌*◌, ◌<◌, ◌≤◌, ◌≡◌, ◌==◌, ◌||◌, Bool, true, IsFalse, List, [], ◌∷◌, length}
use Rattle.std.specs.Prelude.{Option, MatchOption, Some, None, if◌then◌else◌}
use Rattle.std.specs.List.{list_any}
use Rattle.pc_messages.specs.declared.message.TheConstants.{GREATEST_NUMBER}
use Rattle.pc_messages.specs.declared.kind.TheConstants.{MOST_TICKS}
use Rattle.pc_messages.specs.declared.kind.Kind.{Kind}
use Rattle.pc_messages.specs.declared.reported.Reported.{Reported}
use Rattle.pc_messages.specs.State.{state_of}
use Rattle.pc_messages.specs.Run.{is_created}
use Rattle.pc_join.specs.Sets.{Members, Source, numbers_where}
use Rattle.pc_join.specs.Ranges.{one_to}

-- All messages up to a number, as the state that they report, and the messages past the first that is missing.
pub record Told : Type 0 where
  pub upto : ℕ
  pub state : Option Reported
  pub early : List (ℕ × Kind)

-- what one message tells alone: the state of a thread where it is its first, and else a message past the gap
abbrev pub told_by_message : ℕ → Kind → Told
told_by_message number kind =
    if number == 1 then record { upto = 1; state = state_of (kind ∷ []); early = [] }
    else record { upto = 0; state = None; early = (number, kind) ∷ [] }

-- what the messages up to a number tell alone, which report this state
abbrev pub told_by_prefix : ℕ → Reported → Told
told_by_prefix upto reported = record { upto = upto; state = Some reported; early = [] }

-- an early message has the number
abbrev pub is_early : List (ℕ × Kind) → ℕ → Bool
is_early early n = list_any (λ e. e.0 == n) early

-- the message with the number is told
abbrev pub tells : Told → ℕ → Bool
tells told n = one_to told.upto n || is_early told.early n

-- the numbers that are told, as a set
abbrev pub numbers_of : Told → Members
numbers_of told = numbers_where (tells told)

-- the one number, as a set
abbrev pub only : ℕ → Members
only number = numbers_where (λ n. n == number)

-- the numbers ascend, and are above n
abbrev pub RiseAbove : ℕ → List (ℕ × Kind) → Type 0
RiseAbove n [] = Unit {0}
RiseAbove n (e ∷ es) = (n < e.0) × RiseAbove e.0 es

-- the source gives these kinds, from the number after n on
abbrev pub HasKinds : Source → ℕ → List Kind → Type 0
HasKinds s n [] = Unit {0}
HasKinds s n (kind ∷ kinds) = (s ((n + 1) ∷ []) ≡ Some kind) × HasKinds s (n + 1) kinds

-- the source gives each of these messages
abbrev pub HasEach : Source → List (ℕ × Kind) → Type 0
HasEach s [] = Unit {0}
HasEach s (e ∷ es) = (s (e.0 ∷ []) ≡ Some e.1) × HasEach s es

-- the state is that of the source's kinds up to the number
pub record IsPrefix (s : Source) (upto : ℕ) (state : Option Reported) : Type 0 where
  pub kinds : List Kind
  pub count : length kinds ≡ upto
  pub of_source : HasKinds s 0 kinds
  pub folded : state ≡ state_of kinds

-- each thing that is told is what the source gives, and the early messages are past the first that is missing
pub record IsOfThread (told : Told) (s : Source) : Type 0 where
  pub prefix : IsPrefix s told.upto told.state
  pub gap : RiseAbove (told.upto + 1) told.early
  pub early : HasEach s told.early

-- each early message may be one: it is no thread's first, and its number is at most the greatest
abbrev pub AreLater : List (ℕ × Kind) → Type 0
AreLater [] = Unit {0}
AreLater (e ∷ es) = (e.0 ≤ GREATEST_NUMBER) × IsFalse (is_created e.1) × AreLater es

-- a state is there where a message is, and its ticks are those of so many messages
abbrev pub IsStateOfSome : ℕ → Option Reported → Type 0
IsStateOfSome upto state = MatchOption state (upto ≡ 0) (λ r. (1 ≤ upto) × (r.ran ≤ upto * MOST_TICKS))

-- what holds of all that a thread view tells
pub record IsSound (told : Told) : Type 0 where
  pub state : IsStateOfSome told.upto told.state
  pub upto_fits : told.upto ≤ GREATEST_NUMBER
  pub gap : RiseAbove (told.upto + 1) told.early
  pub early : AreLater told.early

-- some message is told
abbrev pub TellsSome : Told → Type 0
TellsSome told = (n : ℕ) × (tells told n ≡ true)

-- what holds of every thread view
pub record IsView (told : Told) : Type 0 where
  pub sound : IsSound told
  pub some : TellsSome told
