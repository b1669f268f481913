-- What is asked in a session, line by line, and what is answered. A line that asks for no command is a fault: it
-- changes nothing, and the session goes on behind it.
use Rattle.std.specs.Prelude.{◌≡◌, ◌<◌, ◌≤◌, ◌⊎◌, ◌+◌, ◌^◌, ℕ, suc, Bool, true, false, List, [], ◌∷◌, ◌++◌, Option}
use Rattle.std.specs.Prelude.{codes, length}
use Rattle.std.specs.Io.KnownBytes.{Consumes}
use Rattle.pc_calls.specs.declared.limits.Profile.{Profile}
use Rattle.pc_script.specs.Grammar.{AsksFor, HasNoReply, IsFault}
use Rattle.pc_script.specs.Scripts.{Notice, Telling, answered, faulted, notices_text, opening_notices, version_named}
use Rattle.pc_script.specs.Text.{lines, words}
use Rattle.pc_script.specs.Versions.{Names, profile_of}
use Rattle.pc_script.specs.declared.command.Command.{Command}
use Rattle.pc_script.specs.declared.response.Response.{Response}
use Rattle.pc_script.specs.declared.session.TheConstants.{MOST_LINE}
use Rattle.pc_script.specs.declared.version.Version.{Version}
use Rattle.pc_script.specs.declared.version.Version.TheVariants.{One}

-- ---- a line

-- a line that is longer is a fault, whatever its words
abbrev pub IsShort : List ℕ → Type 0
IsShort line = length line ≤ MOST_LINE

-- the lines `?` and `help` ask for the table of commands, which is no part of what is answered
abbrev pub AsksForHelp : List ℕ → Type 0
AsksForHelp line = (line ≡ codes "?") ⊎ (line ≡ codes "help")

-- a line that is answered by nothing: it has no reply in a script either, or asks for help
abbrev pub IsSilent : List ℕ → Type 0
IsSilent line = IsShort line × (HasNoReply line ⊎ AsksForHelp line)

-- a line that is too long, or neither is silent nor asks for a command of the version
abbrev pub IsBad : Version → List ℕ → Type 0
IsBad version line = (MOST_LINE < length line) ⊎ ((AsksForHelp line → ⊥) × IsFault version line)

-- ---- a conversation

-- Lines of a session of a version, of which the first has this number, ask for these commands; these are the responses
-- to them, and this is what is told of the lines, faults among them
pub data Conversation (version : Version) : ℕ → List (List ℕ) → List Command → List Response → List Notice
    → Type 0 where
  at_end : {number : ℕ} → Conversation version number [] [] [] []
  silent : {number : ℕ} {line : List ℕ} {more : List (List ℕ)} {commands : List Command} {responses : List Response}
      {notices : List Notice}
      → IsSilent line → Conversation version (suc number) more commands responses notices
      → Conversation version number (line ∷ more) commands responses notices
  command : {number : ℕ} {line : List ℕ} {more : List (List ℕ)} {command : Command} {commands : List Command}
      {response : Response} {responses : List Response} {notices : List Notice}
      → IsShort line → AsksFor version (words line) command
      → Conversation version (suc number) more commands responses notices
      → Conversation version number (line ∷ more) (command ∷ commands) (response ∷ responses)
      (answered response ∷ notices)
  fault : {number : ℕ} {line : List ℕ} {more : List (List ℕ)} {commands : List Command} {responses : List Response}
      {notices : List Notice}
      → IsBad version line → Conversation version (suc number) more commands responses notices
      → Conversation version number (line ∷ more) commands responses (faulted number ∷ notices)

-- Lines are of the version that the first of them names that isn't silent, and otherwise of version 1: a fault is
-- answered too, so that no line behind it names a version. So many lines come before the rest
pub data Begins : Version → ℕ → List (List ℕ) → List (List ℕ) → Type 0 where
  silent : {version : Version} {passed : ℕ} {rest : List (List ℕ)} {line : List ℕ} {more : List (List ℕ)}
      → IsSilent line → Begins version passed rest more → Begins version (suc passed) rest (line ∷ more)
  named : {version : Version} {line : List ℕ} {more : List (List ℕ)}
      → IsShort line → Names version line → Begins version 1 more (line ∷ more)
  unnamed : {line : List ℕ} {more : List (List ℕ)}
      → (IsSilent line → ⊥) → (IsShort line → (any : Version) → Names any line → ⊥)
      → Begins One 0 (line ∷ more) (line ∷ more)
  at_end : Begins One 0 [] []

-- A conversation of all lines of a session: its version, a run of the commands that they ask for, and what is told
pub record IsConversation (IsRun : Profile → List Command → List Response → Type 0) (script : List (List ℕ))
    (notices : List Notice) : Type 0 where
  pub version : Version
  pub passed : ℕ
  pub rest : List (List ℕ)
  pub commands : List Command
  pub responses : List Response
  pub told : List Notice
  pub begins : Begins version passed rest script
  pub asks : Conversation version (suc passed) rest commands responses told
  pub run : IsRun (profile_of version) commands responses
  pub whole : notices ≡ opening_notices version ++ told

-- whether a fault is among the notices
abbrev pub has_fault : List Notice → Bool
has_fault [] = false
has_fault (version_named version ∷ notices) = has_fault notices
has_fault (answered response ∷ notices) = has_fault notices
has_fault (faulted number ∷ notices) = true

-- no line asks for help
abbrev pub AsksNoHelp : List (List ℕ) → Type 0
AsksNoHelp [] = Unit {0}
AsksNoHelp (line ∷ more) = (AsksForHelp line → ⊥) × AsksNoHelp more

-- ---- what an observer is told of it, and what is written

-- The observer was told of a conversation of these lines, with a fault or without one
pub record IsConversed {O : Type 0} (Tells : Telling O) (IsRun : Profile → List Command → List Response → Type 0)
    (script : List (List ℕ)) (had_fault : Bool) (old : O) (before : Option (List ℕ)) (new : O)
    (after : Option (List ℕ)) : Type 0 where
  pub notices : List Notice
  pub conversation : IsConversation IsRun script notices
  pub fault : had_fault ≡ has_fault notices
  pub told : Tells old before notices new after

-- A conversation of the lines up to one that asks for a command whose answer found no memory
pub record IsConversationUntil (IsRun : Profile → List Command → List Response → Type 0)
    (RanOut : Profile → List Command → List Response → Command → Type 0) (script : List (List ℕ))
    (notices : List Notice) : Type 0 where
  pub before : List (List ℕ)
  pub line : List ℕ
  pub after : List (List ℕ)
  pub cut : script ≡ before ++ line ∷ after
  pub conversation : IsConversation IsRun before notices
  pub command : Command
  pub wants : AsksFor conversation.version (words line) command
  pub ran_out : RanOut (profile_of conversation.version) conversation.commands conversation.responses command

-- the observer was told of it until memory ran out
pub record IsConversedUntil {O : Type 0} (Tells : Telling O) (IsRun : Profile → List Command → List Response → Type 0)
    (RanOut : Profile → List Command → List Response → Command → Type 0) (script : List (List ℕ)) (old : O)
    (before : Option (List ℕ)) (new : O) (after : Option (List ℕ)) : Type 0 where
  pub notices : List Notice
  pub conversation : IsConversationUntil IsRun RanOut script notices
  pub told : Tells old before notices new after

-- What is written in a session of this text: the texts of what is told of its lines
pub record IsAnsweredBy (IsRun : Profile → List Command → List Response → Type 0) (text : List ℕ) (had_fault : Bool)
    (output : List ℕ) : Type 0 where
  pub notices : List Notice
  pub conversation : IsConversation IsRun (lines text) notices
  pub fault : had_fault ≡ has_fault notices
  pub written : output ≡ notices_text notices

-- the same until memory runs out
pub record IsAnsweredUntil (IsRun : Profile → List Command → List Response → Type 0)
    (RanOut : Profile → List Command → List Response → Command → Type 0) (text : List ℕ)
    (output : List ℕ) : Type 0 where
  pub notices : List Notice
  pub conversation : IsConversationUntil IsRun RanOut (lines text) notices
  pub written : output ≡ notices_text notices

-- ---- a session that is too long

-- from here to there at least 18,446,744,073,709,551,615 bytes were consumed, the most that 64 bits count
abbrev pub ConsumesMost : (before after : Option (List ℕ)) → Type 0
ConsumesMost before after = (text : List ℕ) × Consumes before after text × (2 ^ 64 ≤ length text + 1)
