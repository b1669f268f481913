-- What a script asks for, how it ends, and what is written.
use Rattle.std.specs.Prelude.{◌≡◌, ℕ, suc, List, [], ◌∷◌, ◌++◌, Option, flat_map, map, codes, decimal}
use Rattle.pc_calls.specs.declared.limits.Profile.{Profile}
use Rattle.pc_script.specs.Grammar.{AsksFor, HasNoReply, IsFault}
use Rattle.pc_script.specs.Responses.{response_text, text_line}
use Rattle.pc_script.specs.Text.{lines, words}
use Rattle.pc_script.specs.declared.command.Command.{Command}
use Rattle.pc_script.specs.declared.outcome.Outcome.{Outcome}
use Rattle.pc_script.specs.declared.outcome.Outcome.TheVariants.{Finished, FaultLine}
use Rattle.pc_script.specs.declared.response.Response.{Response}
use Rattle.pc_script.specs.Versions.{Opens, opening_text, profile_of}
use Rattle.pc_script.specs.declared.version.Version.{Version}
use Rattle.pc_script.specs.declared.version.Version.TheVariants.{One, Two, Three}

-- Lines of a script of a version, of which the first has this number, ask for these commands, up to their end or to
-- the first fault
pub data Script (version : Version) : ℕ → List (List ℕ) → List Command → Outcome → Type 0 where
  at_end : {number : ℕ} → Script version number [] [] Finished
  no_reply : {number : ℕ} {line : List ℕ} {more : List (List ℕ)} {commands : List Command} {outcome : Outcome}
      → HasNoReply line → Script version (suc number) more commands outcome
      → Script version number (line ∷ more) commands outcome
  command : {number : ℕ} {line : List ℕ} {more : List (List ℕ)} {command : Command} {commands : List Command}
      {outcome : Outcome}
      → AsksFor version (words line) command → Script version (suc number) more commands outcome
      → Script version number (line ∷ more) (command ∷ commands) outcome
  fault : {number : ℕ} {line : List ℕ} {more : List (List ℕ)}
      → IsFault version line → Script version number (line ∷ more) [] (FaultLine number)

-- ---- a run of a script

-- A run of a script: in the version that its lines name, the commands that they ask for, up to the end or to the first
-- fault, and these responses to them
pub record IsRunOf (IsRun : Profile → List Command → List Response → Type 0) (script : List (List ℕ))
    (outcome : Outcome)
    (version : Version) (responses : List Response) : Type 0 where
  pub passed : ℕ
  pub rest : List (List ℕ)
  pub commands : List Command
  pub opens : Opens version passed rest script
  pub asks : Script version (suc passed) rest commands outcome
  pub run : IsRun (profile_of version) commands responses

-- A run of a script until memory runs out: a line asks for a command whose answer found none, and these are the
-- responses to the lines before it
pub record IsRunUntil (IsRun : Profile → List Command → List Response → Type 0)
    (RanOut : Profile → List Command → List Response → Command → Type 0) (script : List (List ℕ)) (version : Version)
    (responses : List Response) : Type 0 where
  pub passed : ℕ
  pub rest : List (List ℕ)
  pub opens : Opens version passed rest script
  pub before : List (List ℕ)
  pub line : List ℕ
  pub after : List (List ℕ)
  pub cut : rest ≡ before ++ line ∷ after
  pub commands : List Command
  pub asks : Script version (suc passed) before commands Finished
  pub run : IsRun (profile_of version) commands responses
  pub command : Command
  pub wants : AsksFor version (words line) command
  pub ran_out : RanOut (profile_of version) commands responses command

-- ---- what is written of it

-- what is written at the end: the number of the line that is a fault
abbrev pub outcome_text : Outcome → List ℕ
outcome_text Finished = []
outcome_text (FaultLine number) = codes "fault line " ++ (decimal number ++ 10 ∷ [])

-- a line for each response
abbrev pub responses_text : List Response → List ℕ
responses_text responses = flat_map (λ response. text_line (response_text response)) responses

-- the answer to the line that names the version, if there is one, and a line for each response
abbrev pub answers_text : Version → List Response → List ℕ
answers_text version responses = opening_text version ++ responses_text responses

-- The output of a script: what is written of a run of it
pub record IsOutput (IsRun : Profile → List Command → List Response → Type 0) (text : List ℕ) (outcome : Outcome)
    (output : List ℕ)
    : Type 0 where
  pub version : Version
  pub responses : List Response
  pub runs : IsRunOf IsRun (lines text) outcome version responses
  pub written : output ≡ answers_text version responses ++ outcome_text outcome

-- the output of a script until memory runs out at a command
pub record IsOutputUntil (IsRun : Profile → List Command → List Response → Type 0)
    (RanOut : Profile → List Command → List Response → Command → Type 0) (text : List ℕ)
    (output : List ℕ) : Type 0 where
  pub version : Version
  pub responses : List Response
  pub runs : IsRunUntil IsRun RanOut (lines text) version responses
  pub written : output ≡ answers_text version responses

-- ---- what an observer is told of it

-- What an observer is told of a line that has a reply: that it names this version, the response to its command, or that
-- the line with this number is a fault
pub data Notice : Type 0 where
  version_named : Version → Notice
  answered : Response → Notice
  faulted : ℕ → Notice

-- the text of a notice
abbrev pub notice_text : Notice → List ℕ
notice_text (version_named version) = text_line (codes "ok")
notice_text (answered response) = text_line (response_text response)
notice_text (faulted number) = outcome_text (FaultLine number)

-- the texts of notices, one after another
abbrev pub notices_text : List Notice → List ℕ
notices_text notices = flat_map notice_text notices

-- what is told of a version: nothing of version 1
abbrev pub opening_notices : Version → List Notice
opening_notices One = []
opening_notices Two = version_named Two ∷ []
opening_notices Three = version_named Three ∷ []

-- what is told of an end: nothing, or the line that is a fault
abbrev pub outcome_notices : Outcome → List Notice
outcome_notices Finished = []
outcome_notices (FaultLine number) = faulted number ∷ []

-- what is told of a script that was answered: its version and its responses
abbrev pub answer_notices : Version → List Response → List Notice
answer_notices version responses = opening_notices version ++ map answered responses

-- What a list of notices makes of an observer and of what the writer holds
abbrev pub Telling : Type 0 → Type 1
Telling O = O → Option (List ℕ) → List Notice → O → Option (List ℕ) → Type 0

-- A script was walked over: the observer was told of a run of it, line by line
pub record IsWalked {O : Type 0} (Tells : Telling O) (IsRun : Profile → List Command → List Response → Type 0)
    (script : List (List ℕ)) (outcome : Outcome) (old : O) (before : Option (List ℕ)) (new : O)
    (after : Option (List ℕ)) : Type 0 where
  pub version : Version
  pub responses : List Response
  pub runs : IsRunOf IsRun script outcome version responses
  pub told : Tells old before (answer_notices version responses ++ outcome_notices outcome) new after

-- the same until memory runs out at a command
pub record IsWalkedUntil {O : Type 0} (Tells : Telling O) (IsRun : Profile → List Command → List Response → Type 0)
    (RanOut : Profile → List Command → List Response → Command → Type 0) (script : List (List ℕ)) (old : O)
    (before : Option (List ℕ)) (new : O) (after : Option (List ℕ)) : Type 0 where
  pub version : Version
  pub responses : List Response
  pub runs : IsRunUntil IsRun RanOut script version responses
  pub told : Tells old before (answer_notices version responses) new after
