-- The parts of mending.
use Rattle.std.specs.Prelude.{ℕ, ◌⊎◌, List, [], ◌∷◌}
use Rattle.pc_calls.specs.declared.event.Event.{Event}
use Rattle.pc_calls.specs.declared.event.Event.TheVariants.{Pick, Steal}
use Rattle.pc_calls.specs.declared.event.Reply.{Reply}
use Rattle.pc_world.specs.declared.parts.Parts.{Parts}
use Rattle.pc_world.specs.Counting.{CountsEvents, IsCountedAmong}
use Rattle.pc_world.specs.Mends.{IsCommit}
use Rattle.pc_world.specs.PlainWorld.{PlainWorld}
use Rattle.pc_world.specs.Shows.{RunsThrough, ShowsWorld}
use Rattle.pc_world.specs.Steps.{Runs, Step}

-- for every plain world that is shown before, the events were done, one after another, with some replies
abbrev pub DoesAll : List Event → Parts → Parts → Type 0
DoesAll events old new =
    (w : PlainWorld) → ShowsWorld old w → (w' : PlainWorld) × (replies : List Reply) × Runs w events replies w'
    × ShowsWorld new w'

-- the events were done, one after another, with these replies, and counted by them
pub record RunsCounted (events : List Event) (replies : List Reply) (old new : Parts) : Type 0 where
  pub runs : RunsThrough events replies old new
  pub counts : CountsEvents events replies old new

-- the events were done, one after another, with some replies, and counted by the same replies
abbrev pub CountsAll : List Event → Parts → Parts → Type 0
CountsAll events old new = (replies : List Reply) × RunsCounted events replies old new

-- for every plain world that is shown before, some first events were done from it and counted; the next one found no
-- memory, and was not counted
abbrev pub CountsAmong : List Event → Parts → Parts → Type 0
CountsAmong events old new = (w : PlainWorld) → ShowsWorld old w → IsCountedAmong w events old new

-- a pick that commits nothing, then a steal, and another pick
pub record IsPickedLate (c n : ℕ) (w : PlainWorld) (told : Reply) (new : PlainWorld) : Type 0 where
  pub first : Reply
  pub fails : IsCommit first → ⊥
  pub second : Reply
  pub between : PlainWorld
  pub stolen : PlainWorld
  pub picks : Step w (Pick c n) first between
  pub steals : Step between (Steal c) second stolen
  pub again : Step stolen (Pick c n) told new

-- a pick that commits a thread, or else a steal and another pick
abbrev pub PicksOrSteals : ℕ → ℕ → PlainWorld → Reply → PlainWorld → Type 0
PicksOrSteals c n w told new = (IsCommit told × Step w (Pick c n) told new) ⊎ IsPickedLate c n w told new

-- a pick that commits nothing, then a steal and another pick, are done and counted
pub record IsPickedLateCounted (c n : ℕ) (old new : Parts) (told : Reply) : Type 0 where
  pub first : Reply
  pub fails : IsCommit first → ⊥
  pub second : Reply
  pub done : RunsCounted (Pick c n ∷ Steal c ∷ Pick c n ∷ []) (first ∷ second ∷ told ∷ []) old new

-- a pick that commits a thread is done and counted, or else also a steal and another pick
abbrev pub CountsPicks : ℕ → ℕ → Parts → Parts → Reply → Type 0
CountsPicks c n old new told =
    (IsCommit told × RunsCounted (Pick c n ∷ []) (told ∷ []) old new) ⊎ IsPickedLateCounted c n old new told
