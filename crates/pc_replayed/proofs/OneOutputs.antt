-- A script whose commands leave no choice has one output.
use Rattle.std.proofs.Common.{◌≡◌, ◌∙◌, ℕ, suc, Bool, true, false, List, [], ◌∷◌, ◌++◌, All, map, sym, ap, ap₂, subst}
use Rattle.std.specs.Prelude.{flat_map}
use Rattle.std.proofs.lemmas.List.Elements.{All-append, All-cons, All-head, All-nil, All-tail}
use Rattle.pc_calls.specs.declared.limits.Limits.{Limits}
use Rattle.pc_policy.specs.Names.{is_usual}
use Rattle.pc_lab.specs.Limits.{limits_for}
use Rattle.pc_lab.specs.Moments.{Moment}
use Rattle.pc_script.specs.Scripts.{IsRunOf, Script, answers_text, outcome_text}
use Rattle.pc_script.specs.Text.{lines}
use Rattle.pc_script.specs.Versions.{profile_of}
use Rattle.pc_script.specs.declared.command.Command.TheVariants.{Enclave, Policy}
use Rattle.pc_policy.specs.declared.named.PolicyName.{PolicyName}
use Rattle.pc_script.specs.declared.outcome.Outcome.{Outcome}
use Rattle.pc_script.specs.declared.outcome.Outcome.TheVariants.{Finished}
use Rattle.pc_script.specs.declared.response.Response.{Response}
use Rattle.pc_script.specs.declared.version.Version.{Version}
use Rattle.pc_session.specs.Session.{IsSession}
use Rattle.pc_replayed.specs.Replays.{LeavesNoChoice, NamedScriptsReplay, OneOutput, ReplaysAreExact, command_of, opening_for, opening_of, reply_line}
use Rattle.pc_replayed.proofs.OneScript.{OneCommand, asks_once, opens_once}
use Rattle.pc_replayed.proofs.OneSession.{one_session}

module _ (spells_one : OneCommand) where
  -- of runs of the same lines, whose commands leave no choice, each response is the same
  pub one_run : (all : List (List ℕ)) (version other : Version) (told said : List Response) (outcome : Outcome) (one : IsRunOf IsSession all Finished version told)
      → All LeavesNoChoice one.commands → IsRunOf IsSession all outcome other said → (version ≡ other) × (outcome ≡ Finished) × (told ≡ said)
  one_run all version other told said outcome one clear two =
      let once = opens_once one.opens two.opens in
      let asks : Script version (suc one.passed) one.rest two.commands outcome =
      subst (λ v. Script v (suc one.passed) one.rest two.commands outcome) (sym once.version_same)
      (subst (λ p. Script other (suc p) one.rest two.commands outcome) (sym once.passed_same)
      (subst (λ ls. Script other (suc two.passed) ls two.commands outcome) (sym once.rest_same) two.asks)) in
      let same = asks_once spells_one one.asks asks in
      let run : IsSession (profile_of version) one.commands said =
      subst (λ v. IsSession (profile_of v) one.commands said) (sym once.version_same)
      (subst (λ cs. IsSession (profile_of other) cs said) same.0 two.run) in
      (once.version_same, same.1, one_session (profile_of version) one.commands told said clear one.run run)

  pub one_output : OneOutput
  one_output text output other outcome one clear two =
      let same = one_run (lines text) one.version two.version one.responses two.responses outcome one.runs clear two.runs in
      let answers : answers_text two.version two.responses ≡ answers_text one.version one.responses = ap₂ answers_text (sym same.0) (sym same.2) in
      let ends : outcome_text outcome ≡ outcome_text Finished = ap outcome_text same.1 in
      (same.1, two.written ∙ ap₂ (λ first last. first ++ last) answers ends ∙ sym one.written)

-- the commands of an opening leave no choice
opening_clear : (usual : Bool) (limits : Limits) (policy : PolicyName) → All LeavesNoChoice (opening_for usual limits policy).commands
opening_clear true limits policy = All-cons LeavesNoChoice (Enclave limits) [] tt (All-nil LeavesNoChoice)
opening_clear false limits policy =
    All-cons LeavesNoChoice (Enclave limits) (Policy policy ∷ []) tt (All-cons LeavesNoChoice (Policy policy) [] tt (All-nil LeavesNoChoice))

moments_clear : (moments : List Moment) → All (λ moment. LeavesNoChoice (command_of moment)) moments → All LeavesNoChoice (map command_of moments)
moments_clear [] clear = All-nil LeavesNoChoice
moments_clear (moment ∷ moments) clear =
    All-cons LeavesNoChoice (command_of moment) (map command_of moments)
    (All-head (λ (m : Moment). LeavesNoChoice (command_of m)) moment moments clear)
    (moments_clear moments (All-tail (λ (m : Moment). LeavesNoChoice (command_of m)) moment moments clear))

pub replays_are_exact : OneOutput → NamedScriptsReplay → ReplaysAreExact
replays_are_exact one_output replays load choices name text output outcome named made fine other =
    let limits = limits_for load in
    let policy = named.variant.policy in
    let played = named.script.is_played in
    let replay = replays load choices name text named made fine in
    let opening = (opening_of limits policy).commands in
    let all : All LeavesNoChoice (opening ++ map command_of played.moments) =
    All-append LeavesNoChoice opening (map command_of played.moments) (opening_clear (is_usual policy) limits policy) (moments_clear played.moments played.answers_none) in
    one_output text ((opening_of limits policy).answers ++ flat_map reply_line played.moments) output outcome replay.output
    (subst (λ cs. All LeavesNoChoice cs) (sym replay.commands) all) other
