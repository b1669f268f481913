use Rattle.std.proofs.Common.{◌≡◌, ◌∙◌, ap, sym, subst, refl, Some, None, rules, string_bytes}
use Rattle.clap.specs.Matches.{found_of, first_value}
use Rattle.clap.proofs.WalkLemmas.{first_value-rows}
use Rattle.pc_program.specs.CommandLine.{IsSpelled}
use Rattle.pc_program.specs.Numbers.{IsWritten, SpellsNone}
use Rattle.pc_program.proofs.command_line.numbers_of.Goals as goal

pub returns-in_default-clause-spelled : goal.returns-in_default-clause-spelled
returns-in_default-clause-spelled c =
    let given : None ≡ first_value (found_of c.args.matches.now) c.args.option.now = search rules in
    subst (λ word. IsSpelled word None) (given ∙ first_value-rows (found_of c.args.matches.now) c.args.option.now) refl

pub returns-in-Some-numbers_in-clause-spelled : goal.returns-in-Some-numbers_in-clause-spelled
returns-in-Some-numbers_in-clause-spelled c =
    let numbers = c.in-Some-numbers_in.numbers in
    let given : Some c.in-Some.word.now ≡ first_value (found_of c.args.matches.now) c.args.option.now = search rules in
    let spelled : IsWritten c.in-Some.word.now numbers = subst (λ word. IsWritten word numbers) c.as_bytes.ensures.value c.in-Some-numbers_in.ensures in
    subst (λ word. IsSpelled word (Some numbers)) (given ∙ first_value-rows (found_of c.args.matches.now) c.args.option.now) spelled

pub returns-in_ok-word-in-None-clause-wrong : goal.returns-in_ok-word-in-None-clause-wrong
returns-in_ok-word-in-None-clause-wrong c =
    let copied : string_bytes c.in_ok-word-in-None.word ≡ c.in-Some.word.now = search rules in
    let given : Some c.in-Some.word.now ≡ first_value (found_of c.args.matches.now) c.args.option.now = search rules in
    let none : SpellsNone c.in-Some.word.now = subst SpellsNone c.as_bytes.ensures.value c.in-None.ensures in
    (refl, c.requires, (sym (given ∙ first_value-rows (found_of c.args.matches.now) c.args.option.now) ∙ ap Some (sym copied), subst SpellsNone (sym copied) none))
