-- That what is recorded of notices, and then of others, is what is recorded of all of them.
use Rattle.std.proofs.Common.{◌≡◌, ℕ, ◌+◌, Bool, List, [], ◌∷◌, ◌++◌, Option, cond, refl, sym, ap, ◌∙◌}
use Rattle.std.specs.Prelude.{count_by}
use Rattle.std.proofs.Math.Nat.{add_assoc, add-zero}
use Rattle.std.proofs.lemmas.List.Sums.{sum_by-append}
use Rattle.std.specs.Io.KnownBytes.{Keeps}
use Rattle.std.proofs.KnownBytes.{Keeps-refl, Keeps-trans}
use Rattle.pc_script.specs.Scripts.{Notice, answered, faulted, version_named}
use Rattle.pc_script.specs.declared.outcome.Outcome.{Outcome}
use Rattle.pc_script.specs.declared.outcome.Outcome.TheVariants.{FaultLine}
use Rattle.pc_policy.specs.declared.named.PolicyName.{PolicyName}
use Rattle.pc_draw.specs.Pictures.{policy_by}
use Rattle.pc_draw.specs.Inner.Recorded.{Kept, Records, is_answer, is_refusal, end_by, policy_told}

pub end_both : (notices further : List Notice) (outcome : Outcome)
    → end_by (notices ++ further) outcome ≡ end_by further (end_by notices outcome)
end_both [] further outcome = refl
end_both (version_named version ∷ notices) further outcome = end_both notices further outcome
end_both (answered response ∷ notices) further outcome = end_both notices further outcome
end_both (faulted number ∷ notices) further outcome = end_both notices further (FaultLine number)

pub policy_both : (notices further : List Notice) (policy : Option PolicyName)
    → policy_told (notices ++ further) policy ≡ policy_told further (policy_told notices policy)
policy_both [] further policy = refl
policy_both (version_named version ∷ notices) further policy = policy_both notices further policy
policy_both (answered response ∷ notices) further policy = policy_both notices further (policy_by policy response)
policy_both (faulted number ∷ notices) further policy = policy_both notices further policy

pub count_both : (test : Notice → Bool) (notices further : List Notice)
    → count_by test (notices ++ further) ≡ count_by test notices + count_by test further
count_both test notices further = sum_by-append (λ notice. cond (test notice) 1 0) notices further

-- counts are added
counted : (test : Notice → Bool) (notices further : List Notice) (kept now then' : ℕ)
    → now ≡ kept + count_by test notices → then' ≡ now + count_by test further
    → then' ≡ kept + count_by test (notices ++ further)
counted test notices further kept now then' h k =
    k ∙ ap (λ n. n + count_by test further) h ∙ add_assoc kept (count_by test notices) (count_by test further)
    ∙ ap (λ n. kept + n) (sym (count_both test notices further))

records_both : (notices further : List Notice) {before now then' : Kept}
    → Records notices before now → Records further now then' → Records (notices ++ further) before then'
records_both notices further {before} {now} {then'} h k =
    record {
      kept_is = counted is_answer notices further before.commands now.commands then'.commands h.kept_is k.kept_is;
      refused_is =
          counted is_refusal notices further before.refused now.refused then'.refused h.refused_is k.refused_is;
      policy_is = k.policy_is ∙ ap (policy_told further) h.policy_is ∙ sym (policy_both notices further before.policy);
      outcome_is = k.outcome_is ∙ ap (end_by further) h.outcome_is ∙ sym (end_both notices further before.outcome);
    }

pub told_nothing : (known : Option (List ℕ)) (so_far : Kept) → Keeps known known × Records [] so_far so_far
told_nothing known so_far = (
  Keeps-refl known,
  record {
    kept_is = sym (add-zero so_far.commands);
    refused_is = sym (add-zero so_far.refused);
    policy_is = refl;
    outcome_is = refl;
  },
)

pub told_more : (before here after : Option (List ℕ)) (notices further : List Notice) {first now then' : Kept}
    → Keeps before here × Records notices first now → Keeps here after × Records further now then'
    → Keeps before after × Records (notices ++ further) first then'
told_more before here after notices further h k =
    (Keeps-trans before here after h.0 k.0, records_both notices further h.1 k.1)

pub told_kept : (before here after : Option (List ℕ)) (notices : List Notice) {first now : Kept}
    → Keeps before here × Records notices first now → Keeps here after → Keeps before after × Records notices first now
told_kept before here after notices h k = (Keeps-trans before here after h.0 k, h.1)
