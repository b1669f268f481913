use Rattle.std.proofs.Common.{rules, ap, ◌≡◌, ◌∙◌}
use Rattle.clap.specs.Walk.{rule_of}
use Rattle.pc_program.specs.CommandLine.{option}
use Rattle.pc_program.proofs.command_line.parsers.option_of.Goals as goal

pub returns-clause-rule : goal.returns-clause-rule
returns-clause-rule c =
    let set : rule_of c.action.result ≡ option c.args.name.now = search rules in
    ap rule_of c.help.ensures ∙ set
