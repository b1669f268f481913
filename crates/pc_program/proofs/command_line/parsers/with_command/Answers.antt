use Rattle.std.proofs.Common.{◌≡◌, ◌∙◌, ap, refl, true}
use Rattle.std.proofs.lemmas.Result.{IfOk-weaker}
use Rattle.clap.specs.Simple.{App, app_of, with_subcommand}
use Rattle.clap.proofs.SimpleLemmas.{plain_fields}
use Rattle.pc_program.specs.Inner.FirstWord.{parser_of}
use Rattle.pc_program.specs.declared.command_line.parsers.Subcommand.{Subcommand}
use Rattle.pc_program.specs.declared.command_line.parsers.Subcommand.TheVariants as command
use Rattle.pc_program.proofs.command_line.parsers.with_command.Goals as goal

-- no command has a setting that changes how words are read
plain : (c : Subcommand) → (parser_of c).top.is_plain ≡ true
plain command.Replay = refl
plain command.Explain = refl
plain command.Draw = refl
plain command.Run = refl
plain command.Session = refl
plain command.Lab = refl

pub returns : goal.returns
returns c =
    let is : app_of c.in_ok-command_parser.field-0 ≡ parser_of c.args.command = c.in_ok-command_parser.ensures in
    IfOk-weaker c.subcommand.result _ _ (λ more h.
    h.shape (plain_fields c.in_ok-command_parser.field-0 (ap (λ (a : App). a.top.is_plain) is ∙ plain c.args.command)).globals
    ∙ ap (λ (a : App). with_subcommand (app_of c.args.parser) a.top) is) c.subcommand.ensures
