-- What the script of a run is answered when it is replayed.
use Rattle.std.specs.Prelude.{◌≡◌, Bool, true, false, List, [], ◌∷◌, ◌++◌, All, flat_map, map, ℕ, ℤ, ◌<◌}
use Rattle.std.specs.Prelude.{None, Some, codes}
use Rattle.pc_calls.specs.declared.limits.Limits.{Limits}
use Rattle.pc_trial.specs.Comparing.{IsScript, IsScriptOf}
use Rattle.pc_policy.specs.Names.{IsReadAgain, is_usual, order_of}
use Rattle.pc_lab.specs.Limits.{limits_for}
use Rattle.pc_lab.specs.Moments.{IsNoAnswer, Moment}
use Rattle.pc_load.specs.Loads.{Demand, Need, demand, end_of, fault_of}
use Rattle.pc_load.specs.Variants.{Choice, choice_of, is_variant, or_plain, variant_fault}
use Rattle.pc_load.specs.declared.variant.Variant.{Variant}
use Rattle.pc_script.specs.Responses.{response_text, text_line}
use Rattle.pc_script.specs.Scripts.{IsOutput}
use Rattle.pc_script.specs.declared.command.Command.{Command}
use Rattle.pc_script.specs.declared.command.Command.TheVariants.{Enclave, Event, Mend, Policy, Read}
use Rattle.pc_policy.specs.declared.named.PolicyName.{PolicyName}
use Rattle.pc_script.specs.declared.outcome.Outcome.{Outcome}
use Rattle.pc_script.specs.declared.outcome.Outcome.TheVariants.{Finished}
use Rattle.pc_script.specs.declared.response.Response.{Response}
use Rattle.pc_script.specs.declared.response.Response.TheVariants as response
use Rattle.pc_script.specs.declared.version.Version.{Version}
use Rattle.pc_script.specs.declared.version.Version.TheVariants.{One, Three}
use Rattle.pc_session.specs.Session.{IsSession, Session}
use Rattle.pc_world.specs.PlainWorld.{PlainWorld}

-- What stands in front of a run's events: the version that is named, the commands that open the world, the responses
-- to them, and what is written of these lines
pub record Opening : Type 0 where
  pub version : Version
  pub commands : List Command
  pub responses : List Response
  pub answers : List ℕ

-- the line `ok`
abbrev pub ok_line : List ℕ
ok_line = text_line (codes "ok")

-- an enclave; and where the policy is not the usual one, the version in front of it and the policy behind it. Each of
-- these lines is answered `ok`
abbrev pub opening_for : Bool → Limits → PolicyName → Opening
opening_for true limits policy =
    record {
      version = One;
      commands = Enclave limits ∷ [];
      responses = response.Opened ∷ [];
      answers = ok_line;
    }
opening_for false limits policy =
    record {
      version = Three;
      commands = Enclave limits ∷ Policy policy ∷ [];
      responses = response.Opened ∷ response.Ruled policy ∷ [];
      answers = ok_line ++ ok_line ++ ok_line;
    }

-- the opening of a world with these limits, in which agents go by this policy
abbrev pub opening_of : Limits → PolicyName → Opening
opening_of limits policy = opening_for (is_usual policy) limits policy

-- a moment's event, as a command
abbrev pub command_of : Moment → Command
command_of moment = Event moment.event

-- what it was replied, as a response
abbrev pub response_of : Moment → Response
response_of moment = response.Event moment.reply

-- what it was replied, on a line
abbrev pub reply_line : Moment → List ℕ
reply_line moment = text_line (response_text (response_of moment))

-- Two worlds are the same: what agents would be like of CPUs that are not there is left out
pub record AreSame (one other : PlainWorld) : Type 0 where
  pub kernel : one.kernel ≡ other.kernel
  pub sent : one.sent ≡ other.sent
  pub agents : (c : ℕ) → c < other.kernel.limits.cpus → one.agents c ≡ other.agents c

-- a session ends with this world
abbrev pub EndsWith : PlainWorld → Session → Type 0
EndsWith world None = ⊥
EndsWith world (Some enclave) = AreSame enclave.world world

-- The text is a script without a fault, which asks for an opening and then for the events of these moments, in order.
-- Its output is the opening's answers and then what each moment was replied, a line for each. A session of it ends with
-- the world to which the moments led
pub record IsReplay (opening : Opening) (moments : List Moment) (last : PlainWorld) (text : List ℕ) : Type 0 where
  pub output : IsOutput IsSession text Finished (opening.answers ++ flat_map reply_line moments)
  pub version : output.version ≡ opening.version
  pub commands : output.runs.commands ≡ opening.commands ++ map command_of moments
  pub responses : output.responses ≡ opening.responses ++ map response_of moments
  pub ends : EndsWith last output.runs.run.0

-- the load is one that `Load::new` makes: what was asked for has no fault
pub record IsMade (load : Demand) : Type 0 where
  pub cpus : ℤ
  pub until : ℤ
  pub threads : List Need
  pub fine : fault_of (demand cpus until threads) ≡ None
  pub is : load ≡ demand cpus (end_of until) threads

-- the variants are such as `Variants::new` makes: what was asked for has no fault, and each order is of a text
pub record AreMade (choices : List Choice) : Type 0 where
  pub asked : List Choice
  pub fine : variant_fault asked ≡ None
  pub spelled : All (λ choice. (text : List ℕ) × (choice.order ≡ order_of text)) asked
  pub are : choices ≡ or_plain asked

-- the script of a run that a load had under a variant whose values are in their ranges replays as the run went
abbrev pub ScriptsReplay : Type 0
ScriptsReplay =
    (load : Demand) (variant : Variant) (text : List ℕ) (script : IsScript load variant text)
    → IsMade load → is_variant (choice_of variant) ≡ true → IsReadAgain variant.policy.order
    → IsReplay (opening_of (limits_for load) variant.policy) script.is_played.moments script.is_played.plain text

-- the script of the one of several variants that has a name replays as its run went
abbrev pub NamedScriptsReplay : Type 0
NamedScriptsReplay =
    (load : Demand) (choices : List Choice) (name text : List ℕ) (named : IsScriptOf load choices name text)
    → IsMade load → AreMade choices
    → IsReplay (opening_of (limits_for load) named.variant.policy) named.script.is_played.moments
    named.script.is_played.plain text

-- a command that leaves a session no choice: an enclave, a policy, or an event that is no answer to a digest. Questions
-- and mending are left out
abbrev pub LeavesNoChoice : Command → Type 0
LeavesNoChoice (Enclave limits) = Unit {0}
LeavesNoChoice (Policy policy) = Unit {0}
LeavesNoChoice (Event event) = IsNoAnswer event
LeavesNoChoice (Read question) = ⊥
LeavesNoChoice (Mend cpu) = ⊥

-- a script without a fault whose commands leave no choice has one output
abbrev pub OneOutput : Type 0
OneOutput =
    (text output other : List ℕ) (outcome : Outcome) (one : IsOutput IsSession text Finished output)
    → All LeavesNoChoice one.runs.commands → IsOutput IsSession text outcome other
    → (outcome ≡ Finished) × (other ≡ output)

-- where the script of the one of several variants that has a name is replayed, what is written is what its run was
-- replied, and nothing else
abbrev pub ReplaysAreExact : Type 0
ReplaysAreExact =
    (load : Demand) (choices : List Choice) (name text output : List ℕ) (outcome : Outcome)
    (named : IsScriptOf load choices name text) → IsMade load → AreMade choices → IsOutput IsSession text outcome output
    → (outcome ≡ Finished)
    × (output ≡ (opening_of (limits_for load) named.variant.policy).answers
    ++ flat_map reply_line named.script.is_played.moments)
