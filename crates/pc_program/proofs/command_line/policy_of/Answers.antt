use Rattle.std.proofs.Common.{◌≡◌, ◌∙◌, ap, sym, false, subst, refl, Some, None, codes, rules, string_bytes}
use Rattle.clap.specs.Matches.{found_of, first_value}
use Rattle.clap.proofs.WalkLemmas.{first_value-rows}
use Rattle.pc_program.specs.CommandLine.{IsPolicy, NamesNone}
use Rattle.pc_policy.specs.declared.named.OrderName.TheVariants.{Levels}
use Rattle.pc_program.proofs.command_line.policy_of.Goals as goal

pub returns-in_default-clause-named : goal.returns-in_default-clause-named
returns-in_default-clause-named c =
    let given : None ≡ first_value (found_of c.args.matches.now) (codes "policy") = search rules in
    subst (λ word. IsPolicy word (record { order = Levels; exact = false })) (given ∙ first_value-rows (found_of c.args.matches.now) (codes "policy")) refl

pub returns-in-Ok-clause-named : goal.returns-in-Ok-clause-named
returns-in-Ok-clause-named c =
    let policy = c.in-Ok.policy in
    let given : Some c.in-Some.word.now ≡ first_value (found_of c.args.matches.now) (codes "policy") = search rules in
    let bytes : c.as_bytes.result.now ≡ c.in-Some.word.now = search rules in
    let named : IsPolicy (Some c.in-Some.word.now) policy = subst (λ text. IsPolicy (Some text) policy) bytes c.in-Ok.ensures.ok in
    subst (λ word. IsPolicy word policy) (given ∙ first_value-rows (found_of c.args.matches.now) (codes "policy")) named

pub returns-in_ok-word-in-Err-clause-wrong : goal.returns-in_ok-word-in-Err-clause-wrong
returns-in_ok-word-in-Err-clause-wrong c =
    let copied : string_bytes c.in_ok-word-in-Err.word ≡ c.in-Some.word.now = search rules in
    let given : Some c.in-Some.word.now ≡ first_value (found_of c.args.matches.now) (codes "policy") = search rules in
    let bytes : c.as_bytes.result.now ≡ c.in-Some.word.now = search rules in
    let none : NamesNone c.in-Some.word.now = subst NamesNone bytes c.in-Err.ensures.err in
    (refl, sym (given ∙ first_value-rows (found_of c.args.matches.now) (codes "policy")) ∙ ap Some (sym copied), subst NamesNone (sym copied) none)
