-- The version of a script.
use Rattle.std.specs.Prelude.{◌≡◌, ℕ, suc, List, [], ◌∷◌, codes}
use Rattle.pc_calls.specs.declared.limits.Profile.{Profile}
use Rattle.pc_calls.specs.declared.limits.Profile.TheVariants as profile
use Rattle.pc_script.specs.Grammar.{HasNoReply}
use Rattle.pc_script.specs.Responses.{text_line}
use Rattle.pc_script.specs.Text.{words}
use Rattle.pc_script.specs.declared.version.Version.{Version}
use Rattle.pc_script.specs.declared.version.Version.TheVariants.{One, Two, Three}

-- the profile by which the limits of a script are judged: version 3 has the ranges of version 2
abbrev pub profile_of : Version → Profile
profile_of One = profile.One
profile_of Two = profile.Two
profile_of Three = profile.Two

-- the lines `version 2` and `version 3`; no line names version 1
abbrev pub Names : Version → List ℕ → Type 0
Names One line = ⊥
Names Two line = words line ≡ codes "version" ∷ codes "2" ∷ []
Names Three line = words line ≡ codes "version" ∷ codes "3" ∷ []

-- Lines are of the version that the first of them names that has a reply, and otherwise of version 1.
-- So many lines come before the rest, which asks for the commands
pub data Opens : Version → ℕ → List (List ℕ) → List (List ℕ) → Type 0 where
  no_reply : {version : Version} {passed : ℕ} {rest : List (List ℕ)} {line : List ℕ} {more : List (List ℕ)}
      → HasNoReply line → Opens version passed rest more → Opens version (suc passed) rest (line ∷ more)
  named : {version : Version} {line : List ℕ} {more : List (List ℕ)}
      → Names version line → Opens version 1 more (line ∷ more)
  unnamed : {line : List ℕ} {more : List (List ℕ)}
      → (HasNoReply line → ⊥) → ((any : Version) → Names any line → ⊥) → Opens One 0 (line ∷ more) (line ∷ more)
  at_end : Opens One 0 [] []

-- the line that names the version is answered `ok`
abbrev pub opening_text : Version → List ℕ
opening_text One = []
opening_text Two = text_line (codes "ok")
opening_text Three = text_line (codes "ok")
