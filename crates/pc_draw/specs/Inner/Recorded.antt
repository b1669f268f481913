-- What a recording keeps of the notices that an observer is told.
use Rattle.std.specs.Prelude.{◌≡◌, ℕ, ◌+◌, Bool, true, false, List, [], ◌∷◌, Option, count_by}
use Rattle.pc_script.specs.Scripts.{Notice, answered, faulted, version_named}
use Rattle.pc_script.specs.declared.outcome.Outcome.{Outcome}
use Rattle.pc_script.specs.declared.outcome.Outcome.TheVariants.{FaultLine}
use Rattle.pc_policy.specs.declared.named.PolicyName.{PolicyName}
use Rattle.pc_draw.specs.Pictures.{policy_by, refuses}

-- whether a notice tells of a command, and of one that was refused
abbrev pub is_answer : Notice → Bool
is_answer (version_named version) = false
is_answer (answered response) = true
is_answer (faulted number) = false

abbrev pub is_refusal : Notice → Bool
is_refusal (version_named version) = false
is_refusal (answered response) = refuses response
is_refusal (faulted number) = false

-- how a script ends by notices, behind this end
abbrev pub end_by : List Notice → Outcome → Outcome
end_by [] outcome = outcome
end_by (version_named version ∷ notices) outcome = end_by notices outcome
end_by (answered response ∷ notices) outcome = end_by notices outcome
end_by (faulted number ∷ notices) outcome = end_by notices (FaultLine number)

-- the policy by notices, where it was this before
abbrev pub policy_told : List Notice → Option PolicyName → Option PolicyName
policy_told [] policy = policy
policy_told (version_named version ∷ notices) policy = policy_told notices policy
policy_told (answered response ∷ notices) policy = policy_told notices (policy_by policy response)
policy_told (faulted number ∷ notices) policy = policy_told notices policy

-- What a recording keeps of commands: how many there are, how many of them were refused, the policy, and the end
pub record Kept : Type 0 where
  pub commands : ℕ
  pub refused : ℕ
  pub policy : Option PolicyName
  pub outcome : Outcome

abbrev pub kept : ℕ → ℕ → Option PolicyName → Outcome → Kept
kept commands refused policy outcome =
    record { commands = commands; refused = refused; policy = policy; outcome = outcome }

-- So much was kept; with these notices it is so much
pub record Records (notices : List Notice) (before now : Kept) : Type 0 where
  pub kept_is : now.commands ≡ before.commands + count_by is_answer notices
  pub refused_is : now.refused ≡ before.refused + count_by is_refusal notices
  pub policy_is : now.policy ≡ policy_told notices before.policy
  pub outcome_is : now.outcome ≡ end_by notices before.outcome
