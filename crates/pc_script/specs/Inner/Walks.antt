-- What a walk over the lines of a script does at one line.
use Rattle.std.specs.Prelude.{◌≡◌, ℕ, Bool, true, false, List, [], ◌∷◌, ◌++◌, Option}
use Rattle.pc_calls.specs.declared.limits.Profile.{Profile}
use Rattle.pc_script.specs.Grammar.{AsksFor, HasNoReply, IsFault}
use Rattle.pc_script.specs.Scripts.{Notice, Telling, answered, faulted, version_named}
use Rattle.pc_script.specs.Text.{words}
use Rattle.pc_script.specs.Versions.{Names, profile_of}
use Rattle.pc_script.specs.declared.command.Command.{Command}
use Rattle.pc_script.specs.declared.response.Response.{Response}
use Rattle.pc_script.specs.declared.version.Version.{Version}

-- Between two lines: the machine, whether a line had a reply, the version, the observer, and what the writer holds
pub record Stand (M O : Type 0) : Type 0 where
  pub machine : M
  pub is_open : Bool
  pub version : Version
  pub observer : O
  pub held : Option (List ℕ)

abbrev pub stand : {M O : Type 0} → M → Bool → Version → O → Option (List ℕ) → Stand M O
stand machine is_open version observer held =
    record { machine = machine; is_open = is_open; version = version; observer = observer; held = held }

-- what a machine of some type was asked and answered
abbrev pub Standing : Type 0 → Type 1
Standing M = Profile → M → List Command → List Response → Type 0

-- from one machine to the next a command was answered
abbrev pub Answers : {M : Type 0} → Standing M → M → Command → Response → M → Type 0
Answers StandsAfter old command response new =
    (profile : Profile) (commands : List Command) (responses : List Response)
    → StandsAfter profile old commands responses
    → StandsAfter profile new (commands ++ command ∷ []) (responses ++ response ∷ [])

-- The observer was told these notices
abbrev pub IsTold : {M O : Type 0} → Telling O → List Notice → Stand M O → Stand M O → Type 0
IsTold Tells notices old new = Tells old.observer old.held notices new.observer new.held

-- A line was taken: it has no reply, or the machine answered its command, or it is the first with a reply and names
-- the version
pub data Takes {M O : Type 0} (StandsAfter : Standing M) (Tells : Telling O) (line : List ℕ) : Stand M O → Stand M O
    → Type 0 where
  silent : {old : Stand M O} → HasNoReply line → Takes StandsAfter Tells line old old
  answers : {old new : Stand M O} (command : Command) (response : Response) → (HasNoReply line → ⊥)
      → AsksFor old.version (words line) command
      → Answers StandsAfter old.machine command response new.machine → new.is_open ≡ true
      → new.version ≡ old.version
      → IsTold Tells (answered response ∷ []) old new → Takes StandsAfter Tells line old new
  names : {old new : Stand M O} → (HasNoReply line → ⊥) → Names new.version line → old.is_open ≡ false
      → StandsAfter (profile_of new.version) new.machine [] []
      → new.is_open ≡ true → IsTold Tells (version_named new.version ∷ []) old new
      → Takes StandsAfter Tells line old new

-- The line with this number is a fault, and no version; the machine did not take it
pub record Stops {M O : Type 0} (Tells : Telling O) (line : List ℕ) (number : ℕ) (old new : Stand M O) : Type 0 where
  pub bad : IsFault old.version line
  pub no_version : old.is_open ≡ false → (any : Version) → Names any line → ⊥
  pub told : IsTold Tells (faulted number ∷ []) old new
  pub same : new.machine ≡ old.machine
  pub is_open : new.is_open ≡ true
  pub same_version : new.version ≡ old.version

-- The line asks for a command, and the machine found no memory for its answer
pub record FindsNone {M O : Type 0} (StandsAfter : Standing M)
    (RanOut : Profile → List Command → List Response → Command → Type 0)
    (Tells : Telling O) (line : List ℕ) (old new : Stand M O) : Type 0 where
  pub command : Command
  pub replies : HasNoReply line → ⊥
  pub asks : AsksFor old.version (words line) command
  pub ran_out : (profile : Profile) (commands : List Command) (responses : List Response)
      → StandsAfter profile old.machine commands responses
      → RanOut profile commands responses command
  pub told : IsTold Tells [] old new
