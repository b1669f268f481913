use Rattle.std.proofs.Common.{rules, ap, ap₂, codes, ◌≡◌, ◌∙◌}
use Rattle.std.proofs.lemmas.Result.{IfOk-weaker}
use Rattle.clap.specs.Simple.{app_of, app_of_fields, new_app, new_rule, with_rule}
use Rattle.clap.specs.Walk.{rule_of}
use Rattle.pc_program.proofs.command_line.parsers.parser_of_file.Goals as goal

pub returns : goal.returns
returns c =
    let file_is : rule_of c.help-file.result ≡ new_rule (codes "FILE") = ap rule_of c.help-file.ensures ∙ c.new.ensures.rule in
    let named : app_of c.after_help.result ≡ new_app c.args.name.now =
    ap app_of_fields c.after_help.ensures ∙ ap app_of_fields c.about.ensures ∙ c.new-2.ensures.app in
    IfOk-weaker c.arg.result _ _ (λ parser h. h.shape (search rules) ∙ ap₂ with_rule named file_is) c.arg.ensures
