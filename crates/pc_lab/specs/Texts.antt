-- The script of a run.
use Rattle.std.specs.Prelude.{ℕ, Bool, false, ◌==◌, if◌then◌else◌, List, [], ◌∷◌, ◌++◌, Option, Some, None}
use Rattle.std.specs.Prelude.{codes, decimal}
use Rattle.pc_calls.specs.declared.event.Event.{Event}
use Rattle.pc_script.specs.Grammar.{command_text}
use Rattle.pc_script.specs.declared.command.Command.TheVariants as command
use Rattle.pc_lab.specs.Moments.{Moment}

-- a comment that tells a tick, on a line
abbrev pub tick_line : ℕ → List ℕ
tick_line tick = codes "# at " ++ (decimal tick ++ codes "\n")

-- the command of an event, on a line
abbrev pub event_line : Event → List ℕ
event_line event = command_text (command.Event event) ++ codes "\n"

-- it is the tick that was told last
abbrev pub is_told : Option ℕ → ℕ → Bool
is_told None tick = false
is_told (Some told) tick = told == tick

-- a moment's lines: its tick in front, where that was not told last
abbrev pub moment_text : Option ℕ → Moment → List ℕ
moment_text told moment =
    (if is_told told moment.tick then [] else tick_line moment.tick) ++ event_line moment.event

-- the lines of moments, one after another
abbrev pub body_after : Option ℕ → List Moment → List ℕ
body_after told [] = []
body_after told (moment ∷ moments) = moment_text told moment ++ body_after (Some moment.tick) moments

-- the lines of all moments of a run
abbrev pub body_text : List Moment → List ℕ
body_text moments = body_after None moments
