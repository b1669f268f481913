use Rattle.std.proofs.Common.{◌≡◌, ◌∙◌, ap, sym, subst, refl, Some, None, true, false, codes, rules, string_bytes, nat_eq}
use Rattle.std.proofs.lemmas.Bool.{false≢true}
use Rattle.std.specs.Cmp.Lexicographic.{same_text, pointwise}
use Rattle.clap.specs.Matches.{found_of, first_value}
use Rattle.clap.proofs.WalkLemmas.{first_value-rows}
use Rattle.pc_program.specs.CommandLine.{IsFrom}
use Rattle.pc_program.specs.declared.command_line.VariantsFrom.TheVariants as from
use Rattle.pc_program.proofs.command_line.variants_of.Goals as goal

pub returns-in-None : goal.returns-in-None
returns-in-None c =
    let given : None ≡ first_value (found_of c.args.matches.now) (codes "variants") = search rules in
    subst (λ word. IsFrom word from.Load) (given ∙ first_value-rows (found_of c.args.matches.now) (codes "variants")) refl

pub returns-in-Some : goal.returns-in-Some
returns-in-Some c =
    let given : Some c.in-Some.name.now ≡ first_value (found_of c.args.matches.now) (codes "variants") = search rules in
    let tested : true ≡ pointwise nat_eq c.in-Some.name.now (codes "-") = sym c.if-eq.true ∙ c.eq.ensures in
    subst (λ word. IsFrom word from.Input) (given ∙ first_value-rows (found_of c.args.matches.now) (codes "variants")) (ap Some (same_text c.in-Some.name.now (codes "-") tested))

pub returns-in_ok-from_str-in-Some-2 : goal.returns-in_ok-from_str-in-Some-2
returns-in_ok-from_str-in-Some-2 c =
    let name = c.in_ok-from_str-in-Some-2.field-0 in
    let given : Some c.in-Some.name.now ≡ first_value (found_of c.args.matches.now) (codes "variants") = search rules in
    let tested : false ≡ pointwise nat_eq c.in-Some.name.now (codes "-") = sym c.if-eq.false ∙ c.eq.ensures in
    let copied : string_bytes name ≡ c.in-Some.name.now = search rules in
    subst (λ word. IsFrom word (from.File name)) (given ∙ first_value-rows (found_of c.args.matches.now) (codes "variants"))
    (ap Some (sym copied), λ dash. false≢true (tested ∙ ap (λ word. pointwise nat_eq word (codes "-")) (sym copied ∙ dash)))
