use Rattle.std.proofs.Common.{◌≡◌, ◌∙◌, ap, Some, None, codes, rules, string_bytes}
use Rattle.clap.specs.Matches.{found_of, first_value}
use Rattle.clap.proofs.WalkLemmas.{first_value-rows}
use Rattle.pc_program.proofs.command_line.script_of.Goals as goal

pub returns-in-None : goal.returns-in-None
returns-in-None c =
    let given : None ≡ first_value (found_of c.args.matches.now) (codes "script") = search rules in
    given ∙ first_value-rows (found_of c.args.matches.now) (codes "script")

pub returns-in_ok-from_str-in-Some : goal.returns-in_ok-from_str-in-Some
returns-in_ok-from_str-in-Some c =
    let given : Some c.in-Some.name.now ≡ first_value (found_of c.args.matches.now) (codes "script") = search rules in
    let copied : string_bytes c.in_ok-from_str-in-Some.field-0 ≡ c.in-Some.name.now = search rules in
    ap Some copied ∙ (given ∙ first_value-rows (found_of c.args.matches.now) (codes "script"))
