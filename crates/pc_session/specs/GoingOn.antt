-- That a session can always go on, and the output of a script too.
use Rattle.std.specs.Prelude.{ℕ, suc, ◌+◌, List, ◌∷◌, ◌++◌, length}
use Rattle.pc_calls.specs.declared.limits.Profile.{Profile}
use Rattle.pc_script.specs.Scripts.{IsOutput, IsOutputUntil, Script}
use Rattle.pc_script.specs.declared.command.Command.{Command}
use Rattle.pc_script.specs.declared.outcome.Outcome.{Outcome}
use Rattle.pc_script.specs.declared.response.Response.{Response}
use Rattle.pc_session.specs.Session.{IsSession, RanOut}

-- whatever commands follow those of a session, there are responses by which it goes on over them
abbrev pub SessionsGoOn : Type 0
SessionsGoOn =
    (profile : Profile) (commands more : List Command) (told : List Response) → IsSession profile commands told →
    (later : List Response) × IsSession profile (commands ++ more) (told ++ later)

-- the lines from the one at which memory ran out on ask for these commands, up to this outcome
abbrev pub AskFurther : (text output : List ℕ) → IsOutputUntil IsSession RanOut text output → List Command → Outcome
    → Type 0
AskFurther text output until further outcome =
    Script until.version (suc until.runs.passed + length until.runs.before) (until.runs.line ∷ until.runs.after)
    further outcome

-- what was written when memory ran out begins an output of the whole text
abbrev pub OutputsGoOn : Type 0
OutputsGoOn =
    (text output : List ℕ) (until : IsOutputUntil IsSession RanOut text output) (further : List Command)
    (outcome : Outcome) →
    AskFurther text output until further outcome → (later : List ℕ) × IsOutput IsSession text outcome (output ++ later)
