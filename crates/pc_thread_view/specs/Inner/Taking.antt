-- How a thread view takes messages in: one at its end, one at its place, and while a prefix grows.
use Rattle.std.specs.Prelude.{ℕ, ◌<◌, ◌≤◌, ◌≡◌, ◌==◌, ◌||◌, Bool, true, false, List, [], ◌∷◌, length, take, drop, Some}
use Rattle.pc_messages.specs.declared.message.TheConstants.{GREATEST_NUMBER}
use Rattle.pc_messages.specs.declared.kind.Kind.{Kind}
use Rattle.pc_join.specs.Sets.{Source}
use Rattle.pc_join.specs.Ranges.{one_to}
use Rattle.pc_thread_view.specs.Told.{Told, AreLater, HasEach, IsOfThread, IsPrefix, IsSound, IsStateOfSome, RiseAbove}
use Rattle.pc_thread_view.specs.Told.{is_early, tells}

-- one more message was taken in
pub record Gains (old : Told) (number : ℕ) (kind : Kind) (new : Told) : Type 0 where
  pub sound : IsSound new
  pub union : (n : ℕ) → tells new n ≡ (tells old n || (n == number))
  pub of_source : (s : Source) → IsOfThread old s → s (number ∷ []) ≡ Some kind → IsOfThread new s

-- no early message has a number above n
abbrev pub NoneAbove : ℕ → List (ℕ × Kind) → Type 0
NoneAbove n [] = Unit {0}
NoneAbove n (e ∷ es) = (e.0 ≤ n) × NoneAbove n es

-- no early message comes after the first of those that are to come
abbrev pub NoneAfter : List (ℕ × Kind) → List (ℕ × Kind) → Type 0
NoneAfter early [] = Unit {0}
NoneAfter early (e ∷ es) = NoneAbove e.0 early

-- messages that can be early ones of some thread view
pub record AreTold (early : List (ℕ × Kind)) : Type 0 where
  pub rise : RiseAbove 1 early
  pub later : AreLater early

-- what holds while a prefix grows: the early messages ascend, and it may reach some of them
pub record IsLoose (told : Told) : Type 0 where
  pub state : IsStateOfSome told.upto told.state
  pub some : 1 ≤ told.upto
  pub upto_fits : told.upto ≤ GREATEST_NUMBER
  pub early : AreTold told.early

-- a source gives the prefix and the early messages, which the prefix may reach
pub record IsLooselyOf (told : Told) (s : Source) : Type 0 where
  pub prefix : IsPrefix s told.upto told.state
  pub early : HasEach s told.early

-- one early message fewer, and the same told
pub record IsAbsorbed (old new : Told) : Type 0 where
  pub loose : IsLoose new
  pub same : (n : ℕ) → tells new n ≡ tells old n
  pub of_source : (s : Source) → IsLooselyOf old s → IsLooselyOf new s
  pub fewer : length new.early < length old.early

-- the same told, and no early message that the prefix reaches
pub record IsSettled (old new : Told) : Type 0 where
  pub sound : IsSound new
  pub same : (n : ℕ) → tells new n ≡ tells old n
  pub of_source : (s : Source) → IsLooselyOf old s → IsOfThread new s

-- how far two lists of messages have been taken in, when this is told and these lists are left
pub record IsTaking (old : Told) (first other : List (ℕ × Kind)) (now : Told)
    (left right : List (ℕ × Kind)) : Type 0 where
  pub same : (n : ℕ)
      → (tells now n || (is_early left n || is_early right n)) ≡ (tells old n || (is_early first n || is_early other n))
  pub kept : (n : ℕ) → tells old n ≡ true → tells now n ≡ true
  pub sound : IsSound now
  pub left_told : AreTold left
  pub right_told : AreTold right
  pub left_after : NoneAfter now.early left
  pub right_after : NoneAfter now.early right
  pub of_source : (s : Source) → IsOfThread old s → HasEach s first → HasEach s other → IsOfThread now s
      × HasEach s left × HasEach s right

-- each of the messages has a number of the prefix or of the others
abbrev pub AreAmong : List (ℕ × Kind) → ℕ → List (ℕ × Kind) → Type 0
AreAmong early upto others = (n : ℕ) → is_early early n ≡ true → (one_to upto n || is_early others n) ≡ true

-- each number is below n
abbrev pub AreBelow : ℕ → List (ℕ × Kind) → Type 0
AreBelow n [] = Unit {0}
AreBelow n (e ∷ es) = (e.0 < n) × AreBelow n es

-- so many of the messages come before the number, and the others after it
pub record IsPlace (early : List (ℕ × Kind)) (number place : ℕ) : Type 0 where
  pub fits : place ≤ length early
  pub before : AreBelow number (take place early)
  pub after : RiseAbove number (drop place early)

-- whether the first message has the number
abbrev pub BeginsWith : List (ℕ × Kind) → ℕ → Bool → Type 0
BeginsWith [] n b = b ≡ false
BeginsWith (e ∷ es) n b = b ≡ (e.0 == n)
