-- The picture of a script's run.
use Rattle.std.specs.Prelude.{◌≡◌, ℕ, Bool, true, false, List, [], ◌∷◌, ◌++◌, Option, Some, None, length, count_by}
use Rattle.std.specs.Prelude.{codes, decimal, flat_map, ◌==◌, if◌then◌else◌}
use Rattle.pc_calls.specs.declared.event.Reply.TheVariants as reply
use Rattle.pc_calls.specs.declared.limits.Profile.{Profile}
use Rattle.pc_pen.specs.Pictures.{AreMarks, picture_text}
use Rattle.pc_policy.specs.Names.{policy_text}
use Rattle.pc_script.specs.Scripts.{IsRunOf}
use Rattle.pc_script.specs.Text.{lines}
use Rattle.pc_script.specs.declared.command.Command.{Command}
use Rattle.pc_policy.specs.declared.named.PolicyName.{PolicyName}
use Rattle.pc_script.specs.declared.outcome.Outcome.{Outcome}
use Rattle.pc_script.specs.declared.outcome.Outcome.TheVariants.{Finished, FaultLine}
use Rattle.pc_script.specs.declared.response.Response.{Response}
use Rattle.pc_script.specs.declared.response.Response.TheVariants as response
use Rattle.pc_script.specs.declared.version.Version.{Version}

-- whether a command was refused
abbrev pub refuses : Response → Bool
refuses response.NoEnclave = true
refuses response.HaveEnclave = true
refuses (response.BadLimits limit) = true
refuses (response.Event (reply.Refused refusal)) = true
refuses (response.Refused refusal) = true
refuses _ = false

-- how many of the responses refuse
abbrev pub refused_among : List Response → ℕ
refused_among responses = count_by refuses responses

-- the policy that agents go by after a response, where it was this before
abbrev pub policy_by : Option PolicyName → Response → Option PolicyName
policy_by before (response.Ruled policy) = Some policy
policy_by before _ = before

-- the policy after responses
abbrev pub policy_after : Option PolicyName → List Response → Option PolicyName
policy_after before [] = before
policy_after before (told ∷ responses) = policy_after (policy_by before told) responses

-- the policy that was accepted last
abbrev pub policy_among : List Response → Option PolicyName
policy_among responses = policy_after None responses

-- what a picture says of the line that is a fault, if there is one
abbrev pub fault_text : Outcome → List ℕ
fault_text Finished = []
fault_text (FaultLine number) = codes ", fault line " ++ decimal number

-- what a picture says of the policy that agents go by, if one was given
abbrev pub given_text : Option PolicyName → List ℕ
given_text None = []
given_text (Some policy) = codes ", policy " ++ policy_text policy

-- a byte of a text as XML has it: what would be markup is told by its name
abbrev pub xml_byte : ℕ → List ℕ
xml_byte byte =
    if byte == 38 then codes "&amp;"
    else if byte == 60 then codes "&lt;"
    else if byte == 62 then codes "&gt;" else byte ∷ []

-- a text as XML has it
abbrev pub xml_text : List ℕ → List ℕ
xml_text text = flat_map xml_byte text

-- `commands N, refused M`, the policy, and the line that is a fault
abbrev pub script_title : ℕ → ℕ → Option PolicyName → Outcome → List ℕ
script_title commands refused policy outcome =
    codes "commands " ++ (decimal commands
    ++ (codes ", refused " ++ (decimal refused ++ (given_text policy ++ fault_text outcome))))

-- The picture of a script: it tells how many commands the script's text asks for, how many of them were refused in a
-- run over them, the policy that was accepted last, and its fault, and has marks beside
pub record IsPictureOf (IsRun : Profile → List Command → List Response → Type 0) (script : List ℕ) (outcome : Outcome)
    (written : List ℕ) : Type 0 where
  pub version : Version
  pub responses : List Response
  pub runs : IsRunOf IsRun (lines script) outcome version responses
  pub width : ℕ
  pub height : ℕ
  pub marks : List ℕ
  pub are_marks : AreMarks marks
  pub text : written
      ≡ picture_text width height
      (xml_text (script_title (length runs.commands) (refused_among responses) (policy_among responses) outcome)) marks
