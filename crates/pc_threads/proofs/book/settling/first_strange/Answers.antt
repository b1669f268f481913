use Rattle.std.proofs.Common.{◌<◌, ◌≤◌, length, not, true≢false, refl, sym, ◌∙◌, ap, subst, arith}
use Rattle.std.proofs.lemmas.List.{take_all}
use Rattle.std.proofs.lemmas.Option.{slice_get_read}
use Rattle.pc_kernel.specs.Reads.{seen, kinds_read}
use Rattle.pc_threads.specs.Settling.{AreOfRun}
use Rattle.pc_threads.proofs.Merged.{of_run_more}
use Rattle.pc_threads.proofs.book.settling.first_strange.Goals as goal

pub returns-then-is_err : goal.returns-then-is_err
returns-then-is_err c =
    let low : c.loop-place.place < length c.args.views.now = omega arith in
    record {
      view = c.index-views-place.result;
      there = slice_get_read c.args.views.now (length c.args.views.now) c.loop-place.place c.index-views-place.result refl low c.index-views-place.is;
      before = c.loop-place.invariant;
      strange = λ of_run. true≢false (sym (c.audit.ensures.exact.1 of_run) ∙ c.is_err.ensures.negation ∙ ap not c.if-is_err.true);
    }

pub loop-place-preserved : goal.loop-place-preserved
loop-place-preserved c =
    let low : c.loop-place.place < length c.args.views.now = omega arith in
    of_run_more c.args.views.now c.loop-place.place c.index-views-place.result low c.index-views-place.is (kinds_read (seen c.args.kernel.now)) c.loop-place.invariant
    (c.audit.ensures.exact.0 (c.is_err.ensures.negation ∙ ap not c.if-is_err.false))

pub returns : goal.returns
returns c =
    let most : length c.args.views.now ≤ c.loop-place.place = omega arith in
    subst (AreOfRun (kinds_read (seen c.args.kernel.now))) (take_all c.loop-place.place c.args.views.now most) c.loop-place.invariant
