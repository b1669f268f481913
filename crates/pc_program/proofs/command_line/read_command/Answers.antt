use Rattle.std.proofs.Common.{◌≡◌, ◌∙◌, sym, subst, map, Result, Ok, Err, IfOk, IfErr, List, [], inl, inr, rules}
use Rattle.clap.specs.Simple.{app_of, subcommand_of, subcommand_rows_of}
use Rattle.clap.specs.Kinds.{IsAmong}
use Rattle.clap.specs.Values.{kind_of}
use Rattle.clap.specs.Walk.{Text}
use Rattle.clap.specs.Faults.{fault_of}
use Rattle.pc_program.specs.CommandLine.{IsAsked, IsCommandMet, IsRefusal, IsWrongIn, pc_sim}
use Rattle.pc_program.specs.Inner.FirstWord.{first_word, program_for}
use Rattle.clap.specs.declared.error.kind.ErrorKind.TheVariants as kind
use Rattle.pc_program.proofs.Commands.{command_met}
use Rattle.pc_program.proofs.FirstWord.{is_free, is_plain, same_command, same_faults}
use Rattle.pc_program.proofs.command_line.read_command.Goals as goal

whatever : {A E P : Type 0} (r : Result A E) → P → IfOk r (λ _. P)
whatever (Ok a) p = p
whatever (Err e) p = search rules

pub returns-in-Ok-clause-taken : goal.returns-in-Ok-clause-taken
returns-in-Ok-clause-taken g c =
    let words : List Text = map g.S.AsStr.text c.args.words.now in
    let app : app_of c.in_ok-parser.parser ≡ program_for (first_word words) = search rules in
    let none : fault_of pc_sim words ≡ [] = sym (same_faults _ words app) ∙ c.in-Ok.ensures.kinds (is_free _ words app) in
    whatever c.command_of.result none

pub returns-in-Ok-clause-refused : goal.returns-in-Ok-clause-refused
returns-in-Ok-clause-refused g c =
    let words : List Text = map g.S.AsStr.text c.args.words.now in
    let app : app_of c.in_ok-parser.parser ≡ program_for (first_word words) = search rules in
    let none : fault_of pc_sim words ≡ [] = sym (same_faults _ words app) ∙ c.in-Ok.ensures.kinds (is_free _ words app) in
    subst (λ kinds. IfErr c.command_of.result (IsRefusal kinds)) (sym none) c.command_of.ensures.own

pub returns-in-Ok-clause-asked : goal.returns-in-Ok-clause-asked
returns-in-Ok-clause-asked g c =
    let words : List Text = map g.S.AsStr.text c.args.words.now in
    let app : app_of c.in_ok-parser.parser ≡ program_for (first_word words) = search rules in
    let met : subcommand_rows_of c.in-Ok.matches ≡ subcommand_of pc_sim words = (c.in-Ok.ensures.matches (is_plain _ words app)).1 ∙ same_command _ words app in
    subst (λ rows. IfOk c.command_of.result (IsAsked rows)) met c.command_of.ensures.asked

pub returns-in-Ok-clause-wrong : goal.returns-in-Ok-clause-wrong
returns-in-Ok-clause-wrong g c =
    let words : List Text = map g.S.AsStr.text c.args.words.now in
    let app : app_of c.in_ok-parser.parser ≡ program_for (first_word words) = search rules in
    let met : subcommand_rows_of c.in-Ok.matches ≡ subcommand_of pc_sim words = (c.in-Ok.ensures.matches (is_plain _ words app)).1 ∙ same_command _ words app in
    subst (λ rows. IfErr c.command_of.result (IsWrongIn rows)) met c.command_of.ensures.wrong

pub returns-in-Err-2-clause-refused : goal.returns-in-Err-2-clause-refused
returns-in-Err-2-clause-refused g c =
    let words : List Text = map g.S.AsStr.text c.args.words.now in
    let app : app_of c.in_ok-parser.parser ≡ program_for (first_word words) = search rules in
    let no_memory : kind_of c.in-Err.error ≡ kind.OutOfMemory → ⊥ = search rules in (
      no_memory,
      elim (c.in-Err.ensures.kinds (is_free _ words app)) [
        | inl memory ↦ absurd (no_memory memory)
        | inr among ↦ subst (IsAmong (kind_of c.in-Err.error)) (same_faults _ words app) among
      ],
    )

pub command_of-requires : goal.command_of-requires
command_of-requires g c =
    let words : List Text = map g.S.AsStr.text c.args.words.now in
    let app : app_of c.in_ok-parser.parser ≡ program_for (first_word words) = search rules in
    let none : fault_of pc_sim words ≡ [] = sym (same_faults _ words app) ∙ c.in-Ok.ensures.kinds (is_free _ words app) in
    let met : subcommand_rows_of c.in-Ok.matches ≡ subcommand_of pc_sim words = (c.in-Ok.ensures.matches (is_plain _ words app)).1 ∙ same_command _ words app in
    subst IsCommandMet (sym met) (command_met words none)
