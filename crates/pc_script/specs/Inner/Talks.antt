-- What a session does at one line, and at many.
use Rattle.std.specs.Prelude.{◌≡◌, ◌≤◌, ◌+◌, ◌^◌, ℕ, suc, Bool, true, false, List, [], ◌∷◌, ◌++◌, Option, length}
use Rattle.std.specs.Io.KnownBytes.{Consumes}
use Rattle.std.specs.Str.Lines.{strip_carriage_return}
use Rattle.pc_calls.specs.declared.limits.Profile.{Profile}
use Rattle.pc_script.specs.Inner.Pieces.{IsCut, IsPassed, IsUnbroken}
use Rattle.pc_script.specs.Inner.Walks.{FindsNone, IsTold, Stand, Standing, Takes, stand}
use Rattle.pc_script.specs.Scripts.{Telling, faulted}
use Rattle.pc_script.specs.Sessions.{AsksForHelp, IsBad, IsShort, IsSilent}
use Rattle.pc_script.specs.Text.{lines}
use Rattle.pc_script.specs.Versions.{Names}
use Rattle.pc_script.specs.declared.command.Command.{Command}
use Rattle.pc_script.specs.declared.response.Response.{Response}
use Rattle.pc_script.specs.declared.version.Version.{Version}

-- Between two lines: as a walk stands, how many lines there were, and whether one was a fault
pub record Talking (M O : Type 0) : Type 0 where
  pub stand : Stand M O
  pub number : ℕ
  pub had_fault : Bool

abbrev pub talking : {M O : Type 0} → M → Bool → Version → ℕ → Bool → O → Option (List ℕ) → Talking M O
talking machine is_open version number had_fault observer held =
    record { stand = stand machine is_open version observer held; number = number; had_fault = had_fault }

-- A line was heard: it is silent, or was taken as a line of a script is, or is a fault that changes nothing
pub data Hears {M O : Type 0} (StandsAfter : Standing M) (Tells : Telling O) (old : Talking M O) (line : List ℕ)
    (new : Talking M O) : Type 0 where
  quiet : IsSilent line → new.number ≡ suc old.number → new.had_fault ≡ old.had_fault → new.stand ≡ old.stand
      → Hears StandsAfter Tells old line new
  takes : IsShort line → (AsksForHelp line → ⊥) → new.number ≡ suc old.number → new.had_fault ≡ old.had_fault
      → Takes StandsAfter Tells line old.stand new.stand → Hears StandsAfter Tells old line new
  faults : IsBad old.stand.version line
      → (old.stand.is_open ≡ false → IsShort line → (any : Version) → Names any line → ⊥)
      → new.number ≡ suc old.number → new.had_fault ≡ true → new.stand.machine ≡ old.stand.machine
      → new.stand.is_open ≡ true → new.stand.version ≡ old.stand.version
      → IsTold Tells (faulted (suc old.number) ∷ []) old.stand new.stand → Hears StandsAfter Tells old line new

-- Lines were heard, one after another; between them the observer may settle
pub data HearsAll {M O : Type 0} (StandsAfter : Standing M) (Tells : Telling O) : Talking M O → List (List ℕ)
    → Talking M O → Type 0 where
  none : {old : Talking M O} → HearsAll StandsAfter Tells old [] old
  one_more : {old now new : Talking M O} {line : List ℕ} {more : List (List ℕ)} → Hears StandsAfter Tells old line now
      → HearsAll StandsAfter Tells now more new → HearsAll StandsAfter Tells old (line ∷ more) new
  settles : {old now new : Talking M O} {more : List (List ℕ)} → now.stand.machine ≡ old.stand.machine
      → now.stand.is_open ≡ old.stand.is_open → now.stand.version ≡ old.stand.version → now.number ≡ old.number
      → now.had_fault ≡ old.had_fault → IsTold Tells [] old.stand now.stand
      → HearsAll StandsAfter Tells now more new → HearsAll StandsAfter Tells old more new

-- The line asks for a command, and the machine found no memory for its answer
pub record Lacks {M O : Type 0} (StandsAfter : Standing M)
    (RanOut : Profile → List Command → List Response → Command → Type 0)
    (Tells : Telling O) (line : List ℕ) (old new : Stand M O) : Type 0 where
  pub short : IsShort line
  pub no_help : AsksForHelp line → ⊥
  pub finds : FindsNone StandsAfter RanOut Tells line old new

-- the same of the last line, of which this is kept, and which was not passed over
abbrev pub LacksAtEnd : {M O : Type 0} → Standing M → (Profile → List Command → List Response → Command → Type 0)
    → Telling O
    → Bool → List ℕ → Stand M O → Stand M O → Type 0
LacksAtEnd StandsAfter RanOut Tells passes kept old new =
    (passes ≡ false) × Lacks StandsAfter RanOut Tells (strip_carriage_return kept) old new

-- Lines of a text were heard, and at the next one there was no memory
pub record HearsUntil {M O : Type 0} (StandsAfter : Standing M)
    (RanOut : Profile → List Command → List Response → Command → Type 0)
    (Tells : Telling O) (text : List ℕ) (old : Talking M O) (new : Stand M O) : Type 0 where
  pub taken : List (List ℕ)
  pub now : Talking M O
  pub line : List ℕ
  pub heard : HearsAll StandsAfter Tells old taken now
  pub lacks : Lacks StandsAfter RanOut Tells line now.stand new
  pub cut : (more : List ℕ) → (after : List (List ℕ)) × (lines (text ++ more) ≡ taken ++ line ∷ after)

-- The lines of a text that are whole were heard: what is left of it is the part of a line, of which this is kept
pub record Leaves {M O : Type 0} (StandsAfter : Standing M) (Tells : Telling O) (text : List ℕ) (old new : Talking M O)
    (passes : Bool) (rest : List ℕ) : Type 0 where
  pub taken : List (List ℕ)
  pub passed : List ℕ
  pub heard : HearsAll StandsAfter Tells old taken new
  pub over : IsPassed passes passed
  pub cut : IsCut text taken (passed ++ rest)
  pub unbroken : IsUnbroken rest
  pub none_kept : passes ≡ true → rest ≡ []

-- A text was read up to here: the lines of it that are whole were heard, and this is kept of the rest
pub record Keeps {M O : Type 0} (StandsAfter : Standing M) (Tells : Telling O) (before after : Option (List ℕ))
    (old new : Talking M O) (passes : Bool) (kept : List ℕ) : Type 0 where
  pub text : List ℕ
  pub read : Consumes before after text
  pub leaves : Leaves StandsAfter Tells text old new passes kept

-- the lines that were counted and these bytes come to the most that 64 bits count
abbrev pub CountsOut : (number bytes : ℕ) → Type 0
CountsOut number bytes = 2 ^ 64 ≤ number + bytes + 1

-- At least a byte was consumed for each line that was counted, beside so many that are kept, and one for each turn
pub record CountsBytes (before after : Option (List ℕ)) (number kept turns : ℕ) : Type 0 where
  pub text : List ℕ
  pub read : Consumes before after text
  pub for_lines : number + kept ≤ length text
  pub for_turns : turns ≤ length text
