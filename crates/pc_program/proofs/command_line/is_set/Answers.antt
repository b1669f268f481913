use Rattle.std.proofs.Common.{◌≡◌, ap, ◌∙◌, sym, Some, None, codes, rules, true, ℕ, List, Option, ◌↔◌, nat_eq, subst, refl}
use Rattle.std.specs.Cmp.Lexicographic.{same_text, pointwise}
use Rattle.clap.specs.Matches.{found_of, first_value}
use Rattle.clap.specs.Walk.{first_of, rows_of}
use Rattle.clap.proofs.WalkLemmas.{first_value-rows}
use Rattle.pc_program.proofs.command_line.is_set.Goals as goal

word_given : (word : List ℕ) (first : Option (List ℕ)) → Some word ≡ first → (true ≡ pointwise nat_eq word (codes "true")) ↔ (first ≡ Some (codes "true"))
word_given word None e = cc
word_given word (Some x) e =
    let same : x ≡ word = cc in
    (λ t. ap Some (same ∙ same_text word (codes "true") t), λ h. let alike : word ≡ codes "true" = cc in subst (λ w. true ≡ pointwise nat_eq w (codes "true")) (sym alike) refl)

pub returns-in-Some : goal.returns-in-Some
returns-in-Some c =
    let given : Some c.in-Some.word.now ≡ first_value (found_of c.args.matches.now) c.args.name.now = search rules in
    let read : Some c.in-Some.word.now ≡ first_of c.args.name.now (rows_of (found_of c.args.matches.now)) =
    given ∙ first_value-rows (found_of c.args.matches.now) c.args.name.now in
    let told = word_given c.in-Some.word.now (first_of c.args.name.now (rows_of (found_of c.args.matches.now))) read in
    let tested : c.eq.result ≡ pointwise nat_eq c.in-Some.word.now (codes "true") = c.eq.ensures in
    (λ t. told.0 (sym t ∙ tested), λ e. tested ∙ sym (told.1 e))

pub returns-in-None : goal.returns-in-None
returns-in-None c =
    let given : None ≡ first_value (found_of c.args.matches.now) c.args.name.now = search rules in
    let read : None ≡ first_of c.args.name.now (rows_of (found_of c.args.matches.now)) = given ∙ first_value-rows (found_of c.args.matches.now) c.args.name.now in
    (λ t. cc, λ e. let no : None ≡ Some (codes "true") = read ∙ e in cc)
