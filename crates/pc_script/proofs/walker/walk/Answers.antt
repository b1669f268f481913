use Rattle.std.proofs.Common.{refl, ℕ, ◌+◌, List, Bor, length, drop, arith}
use Rattle.std.proofs.lemmas.Iterator.Consumers.{YieldsList-from_first, YieldsList-turn, YieldsList-so_far, YieldsList-end}
use Rattle.std.proofs.lemmas.List.{length_push, map-append, length-map}
use Rattle.std.proofs.lemmas.Result.{err_from_is_err_and}
use Rattle.pc_script.specs.Left.{lines_left}
use Rattle.pc_script.specs.Text.{lines}
use Rattle.pc_script.specs.declared.outcome.ScriptFault.TheVariants.{OutOfMemory}
use Rattle.pc_script.proofs.Splits.{list_at, lines-few}
use Rattle.pc_script.proofs.Walking.{or_then, passed_fault, walked_none, walked_more, walked_all, walked_to_fault, walked_until}
use Rattle.pc_script.proofs.walker.walk.Goals as goal

pub loop-text-init : goal.loop-text-init
loop-text-init g c = record {
  counted = refl;
  walked = walked_none g.M.Machine.StandsAfter g.O.Observer.Tells g.met.O.Observer.tells_nothing g.met.O.Observer.tells_more _ c.new-walk.ensures.open c.new-walk.ensures.version c.new-walk.ensures.fresh;
}

pub overflow_add-number : goal.overflow_add-number
overflow_add-number g c =
    let all = lines c.args.text.now in
    let road = YieldsList-from_first (λ (line : Bor (List ℕ)). line.now) lines_left {s = c.into_iter-text-iterator.result} all (cc) in
    let turn = YieldsList-turn road c.loop-text.yielded _ c.loop-text.yielded_by c.next.result c.next.new.self c.in-Some.text c.in-Some.is c.next.ensures.steps in
    omega (arith, turn.0, c.loop-text.invariant.counted, lines-few c.args.text.now, c.requires.short)

pub returns-in_err-take-clause-no_memory : goal.returns-in_err-take-clause-no_memory
returns-in_err-take-clause-no_memory g c = λ is.
    let all = lines c.args.text.now in
    let road = YieldsList-from_first (λ (line : Bor (List ℕ)). line.now) lines_left {s = c.into_iter-text-iterator.result} all (cc) in
    let passed = err_from_is_err_and c.from_residual.result c.from_residual.ensures.1 in
    let memory = passed_fault c.take.result c.from_residual.result c.in_err-take.field-0.0 passed.0 OutOfMemory c.in_err-take.was passed.2 passed.1 is in
    let turn = YieldsList-turn road c.loop-text.yielded _ c.loop-text.yielded_by c.next.result c.next.new.self c.in-Some.text c.in-Some.is c.next.ensures.steps in
    let front = YieldsList-so_far road c.loop-text.yielded _ c.loop-text.yielded_by in
    let whole = list_at all _ c.in-Some.text.now (length c.loop-text.yielded) front turn.0 turn.1 in
    or_then (c.take.ensures.err OutOfMemory memory)
    (walked_until g.M.Machine.StandsAfter g.O.Observer.Tells g.met.O.Observer.tells_nothing g.met.O.Observer.tells_more g.M.Machine.IsRun g.met.M.Machine.is_run_after
    g.M.Machine.RanOut (drop (length c.loop-text.yielded + 1) all) all whole c.loop-text.invariant.walked)

pub returns-then-not-branch-clause-ok : goal.returns-then-not-branch-clause-ok
returns-then-not-branch-clause-ok g c =
    let all = lines c.args.text.now in
    let road = YieldsList-from_first (λ (line : Bor (List ℕ)). line.now) lines_left {s = c.into_iter-text-iterator.result} all (cc) in
    let turn = YieldsList-turn road c.loop-text.yielded _ c.loop-text.yielded_by c.next.result c.next.new.self c.in-Some.text c.in-Some.is c.next.ensures.steps in
    let front = YieldsList-so_far road c.loop-text.yielded _ c.loop-text.yielded_by in
    let whole = list_at all _ c.in-Some.text.now (length c.loop-text.yielded) front turn.0 turn.1 in
    let stops = rw c.if-not-branch.true at c.in_ok-take.ensures.ok in
    walked_to_fault g.M.Machine.StandsAfter g.O.Observer.Tells g.met.O.Observer.tells_nothing g.met.O.Observer.tells_more g.M.Machine.IsRun g.met.M.Machine.is_run_after
    (c.loop-text.number + 1) (drop (length c.loop-text.yielded + 1) all) all
    (omega (arith, length-map c.loop-text.yielded (λ (line : Bor (List ℕ)). line.now), c.loop-text.invariant.counted)) whole c.loop-text.invariant.walked stops

pub loop-text-preserved : goal.loop-text-preserved
loop-text-preserved g c =
    let taken = rw c.if-not-branch.false at c.in_ok-take.ensures.ok in
    record {
      counted = omega (arith, length_push c.loop-text.yielded c.in-Some.text, c.loop-text.invariant.counted);
      walked = rw map-append (walked_more g.M.Machine.StandsAfter g.O.Observer.Tells g.met.O.Observer.tells_nothing g.met.O.Observer.tells_more c.loop-text.invariant.walked taken);
    }

pub returns-clause-ok : goal.returns-clause-ok
returns-clause-ok g c =
    let all = lines c.args.text.now in
    let road = YieldsList-from_first (λ (line : Bor (List ℕ)). line.now) lines_left {s = c.into_iter-text-iterator.result} all (cc) in
    let ended = YieldsList-end road c.loop-text.yielded _ c.loop-text.yielded_by c.next.result c.next.new.self c.in-None.is c.next.ensures.steps in
    walked_all g.M.Machine.StandsAfter g.O.Observer.Tells g.met.O.Observer.tells_nothing g.met.O.Observer.tells_more g.M.Machine.IsRun g.met.M.Machine.is_run_after all ended.0 c.loop-text.invariant.walked
