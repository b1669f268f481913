use Rattle.std.proofs.Common.{refl, [], ◌∙◌, Err, arith}
use Rattle.pc_script.specs.Inner.Talks.{none, one_more}
use Rattle.pc_script.proofs.Pieces.{behind_first, cut_none, cut_one, first_shorter}
use Rattle.pc_script.proofs.Talking.{heard_more, heard_until, or_until}
use Rattle.pc_script.proofs.Walking.{passed_fault}
use Rattle.pc_script.proofs.session.Talk.take_whole.Goals as goal

pub loop-line-init : goal.loop-line-init
loop-line-init g c = record { heard = ([], none, cut_none c.args.text.now); behind = ([], refl); passes = refl; counted = omega arith }

pub loop-line-smaller : goal.loop-line-smaller
loop-line-smaller g c = first_shorter _ _ _ c.in-Some.ensures

pub loop-line-preserved : goal.loop-line-preserved
loop-line-preserved g c =
    let so_far = c.loop-line.invariant.heard in
    let first = c.in-Some.ensures in
    record {
      heard = (
        _,
        heard_more g.M.Machine.StandsAfter g.O.Observer.Tells so_far.1 (one_more c.in-Ok.ensures.ok none),
        cut_one _ _ _ _ so_far.0 so_far.2 first,
      );
      behind = behind_first _ c.loop-line.invariant.behind.0 _ _ _ c.loop-line.invariant.behind.1 first;
      passes = c.in-Ok.ensures.passes ∙ c.loop-line.invariant.passes;
      counted = omega (arith, c.in-Ok.ensures.counted, c.loop-line.invariant.counted, first_shorter _ _ _ first);
    }

pub returns-in-Err-clause-err : goal.returns-in-Err-clause-err
returns-in-Err-clause-err g c = λ fault is.
    let so_far = c.loop-line.invariant.heard in
    or_until (c.take.ensures.err fault (passed_fault c.take.result (Err c.in-Err.fault) c.in-Err.fault c.in-Err.fault fault c.in-Err.is refl refl is))
    (λ counts. omega (arith, counts, c.loop-line.invariant.counted))
    (λ lacks. heard_until g.M.Machine.StandsAfter g.O.Observer.Tells g.M.Machine.RanOut _ _ _ _ so_far.1 so_far.2 c.in-Some.ensures lacks)

pub returns-in-Err-clause-passes : goal.returns-in-Err-clause-passes
returns-in-Err-clause-passes g c = c.take.ensures.passes ∙ c.loop-line.invariant.passes

pub returns-clause-ok : goal.returns-clause-ok
returns-clause-ok g c = (c.loop-line.invariant.heard.0, c.loop-line.invariant.heard.1, c.loop-line.invariant.heard.2, c.in_default.ensures)

pub returns-clause-behind : goal.returns-clause-behind
returns-clause-behind g c = c.loop-line.invariant.behind

pub returns-clause-passes : goal.returns-clause-passes
returns-clause-passes g c = c.loop-line.invariant.passes

pub returns-clause-counted : goal.returns-clause-counted
returns-clause-counted g c = c.loop-line.invariant.counted
