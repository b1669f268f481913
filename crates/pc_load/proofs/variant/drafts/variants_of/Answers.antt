use Rattle.std.proofs.Common.{◌≡◌, ◌≤◌, ◌+◌, Err, length, map, take, subst, sym, rules}
use Rattle.pc_load.specs.Variants.{choice_in}
use Rattle.pc_load.proofs.Choices.{SoFar, finished_at, stopped_at, turn_at}
use Rattle.pc_load.proofs.variant.drafts.variants_of.Goals as goal

pub returns-in_err-variant-clause-answers : goal.returns-in_err-variant-clause-answers
returns-in_err-variant-clause-answers c =
    let fault = c.in_err-variant.field-0.0 in
    let is : c.from_residual.result ≡ Err fault = search rules in
    rw is (stopped_at c.args.drafts.now c.loop-draft.draft-index _ c.loop-draft.variants.items c.as_slice.result.now fault
    c.loop-draft-test.true c.as_slice.ensures.value c.loop-draft.invariant c.in_err-variant.ensures.answers)

pub loop-draft-preserved : goal.loop-draft-preserved
loop-draft-preserved c =
    let so_far = turn_at c.args.drafts.now c.loop-draft.draft-index _ c.loop-draft.variants.items c.as_slice.result.now c.in_ok-variant.variant
    c.loop-draft-test.true c.as_slice.ensures.value c.loop-draft.invariant c.in_ok-variant.ensures.there c.in_ok-variant.ensures.keeps in
    subst (SoFar (map choice_in (take (c.loop-draft.draft-index + 1) c.args.drafts.now))) (sym c.in_ok-push.ensures.items) so_far

pub returns-clause-ok : goal.returns-clause-ok
returns-clause-ok c =
    let all : length c.args.drafts.now ≤ c.loop-draft.draft-index = search rules in
    finished_at c.args.drafts.now c.loop-draft.draft-index c.loop-draft.variants.items all c.loop-draft.invariant
