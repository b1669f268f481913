use Rattle.std.proofs.Common.{◌≡◌, ◌∙◌, sym, Some, None, rules, refl}
use Rattle.clap.specs.Matches.{found_of, first_value}
use Rattle.clap.specs.Walk.{first_of, rows_of}
use Rattle.clap.proofs.WalkLemmas.{first_value-rows}
use Rattle.pc_program.proofs.command_line.is_absent.Goals as goal

pub returns-in-Some : goal.returns-in-Some
returns-in-Some c =
    let given : Some c.in-Some._word.now ≡ first_value (found_of c.args.matches.now) c.args.name.now = search rules in
    let read : Some c.in-Some._word.now ≡ first_of c.args.name.now (rows_of (found_of c.args.matches.now)) =
    given ∙ first_value-rows (found_of c.args.matches.now) c.args.name.now in
    (λ t. cc, λ e. cc)

pub returns-in-None : goal.returns-in-None
returns-in-None c =
    let given : None ≡ first_value (found_of c.args.matches.now) c.args.name.now = search rules in
    let read : None ≡ first_of c.args.name.now (rows_of (found_of c.args.matches.now)) =
    given ∙ first_value-rows (found_of c.args.matches.now) c.args.name.now in
    (λ t. sym read, λ e. refl)
