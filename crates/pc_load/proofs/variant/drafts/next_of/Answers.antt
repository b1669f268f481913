use Rattle.std.proofs.Common.{◌≡◌, false, not, inl, refl, rules}
use Rattle.std.specs.Prelude.{bytes_eq}
use Rattle.std.specs.List.{list_all}
use Rattle.pc_load.specs.Variants.{choice_in, is_variant}
use Rattle.pc_load.proofs.Choices.{none_of_both}
use Rattle.pc_load.proofs.variant.drafts.next_of.Goals as goal

pub returns-then-not-is_new-clause-answers : goal.returns-then-not-is_new-clause-answers
returns-then-not-is_new-clause-answers c =
    let taken : list_all (λ other. not (bytes_eq other.name.items c.args.draft.now.name.now)) c.args.before.now ≡ false = search rules in
    inl (none_of_both (is_variant (choice_in c.args.draft.now)) _ taken, refl)
