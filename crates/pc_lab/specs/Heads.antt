-- What stands before the events of a script.
use Rattle.std.specs.Prelude.{ℕ, if◌then◌else◌, List, ◌++◌, codes}
use Rattle.pc_calls.specs.declared.limits.Limits.{Limits}
use Rattle.pc_load.specs.Variants.{variant_text}
use Rattle.pc_load.specs.declared.variant.Variant.{Variant}
use Rattle.pc_script.specs.Grammar.{command_text}
use Rattle.pc_script.specs.declared.command.Command.{Command}
use Rattle.pc_script.specs.declared.command.Command.TheVariants.{Enclave, Policy}
use Rattle.pc_policy.specs.Names.{is_usual}
use Rattle.pc_policy.specs.declared.named.PolicyName.{PolicyName}

-- a command, on a line
abbrev pub command_line : Command → List ℕ
command_line command = command_text command ++ codes "\n"

-- the commands by which a session opens the world: where agents do not go by the usual policy, in version 3
abbrev pub opening_text : Limits → PolicyName → List ℕ
opening_text limits policy =
    if is_usual policy then command_line (Enclave limits)
    else codes "version 3\n" ++ (command_line (Enclave limits) ++ command_line (Policy policy))

-- a comment that tells the variant, and these commands
abbrev pub head_text : Limits → Variant → List ℕ
head_text limits variant = variant_text variant ++ codes "\n" ++ opening_text limits variant.policy
