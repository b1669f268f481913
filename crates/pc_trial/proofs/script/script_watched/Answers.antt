use Rattle.std.proofs.Common.{◌≡◌, ◌∙◌, sym, subst, false, refl}
use Rattle.std.specs.List.{list_any}
use Rattle.pc_trial.proofs.Played.{missing, none_named, not_missing, same_bytes, some_named}
use Rattle.pc_trial.specs.Comparing.{is_named}
use Rattle.pc_trial.proofs.script.script_watched.Goals as goal

pub returns-in-Ok-clause-told : goal.returns-in-Ok-clause-told
returns-in-Ok-clause-told g c =
    record {
      variants = c.as_slice-variants.result.now;
      chosen = c.as_slice-variants.ensures;
      variant = c.in-Some.variant.now;
      there = c.in-Some.ensures.0;
      named = same_bytes _ _ c.in-Some.ensures.1 ∙ c.as_bytes.ensures.value;
      script = c.in-Ok.ensures.told;
    }

pub returns-in-Ok-clause-named : goal.returns-in-Ok-clause-named
returns-in-Ok-clause-named g c =
    let named = some_named c.as_bytes.result.now c.as_slice-variants.result.now c.args.variants.now c.in-Some.variant.now c.as_slice-variants.ensures c.in-Some.ensures.0 c.in-Some.ensures.1 in
    (λ same. cc, λ none. missing c.as_bytes.result.now c.args.name.now c.args.variants.now c.as_bytes.ensures.value named none)

pub returns-in-Err-clause-named : goal.returns-in-Err-clause-named
returns-in-Err-clause-named g c =
    let named = some_named c.as_bytes.result.now c.as_slice-variants.result.now c.args.variants.now c.in-Some.variant.now c.as_slice-variants.ensures c.in-Some.ensures.0 c.in-Some.ensures.1 in
    (λ same. absurd (not_missing c.in-Err.fault (sym c.fault_of.ensures ∙ cc)), λ none. missing c.as_bytes.result.now c.args.name.now c.args.variants.now c.as_bytes.ensures.value named none)

pub returns-in-None-clause-named : goal.returns-in-None-clause-named
returns-in-None-clause-named g c =
    let none = none_named c.as_bytes.result.now c.as_slice-variants.result.now c.args.variants.now c.as_slice-variants.ensures c.in-None.ensures in
    (λ same. subst (λ name. list_any (is_named name) c.args.variants.now ≡ false) c.as_bytes.ensures.value none, λ told. refl)
