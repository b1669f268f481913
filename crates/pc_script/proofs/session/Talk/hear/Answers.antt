use Rattle.std.proofs.Common.{arith}
use Rattle.pc_script.proofs.Pieces.{all_behind, behind_line, behind_more, end_empty, first_shorter}
use Rattle.pc_script.proofs.Talking.{if_ok, leaves_behind, leaves_none, or_until, until_behind}
use Rattle.pc_script.proofs.session.Talk.hear.Goals as goal

pub returns-in_default-clause-ok : goal.returns-in_default-clause-ok
returns-in_default-clause-ok g c = λ passed over.
    let text = c.args.text.now in
    leaves_none g.M.Machine.StandsAfter g.O.Observer.Tells passed text _ _ c.if-not-self.false (end_empty text) over c.in_default.ensures

pub returns-in_default-clause-behind : goal.returns-in_default-clause-behind
returns-in_default-clause-behind g c = all_behind c.args.text.now _ (end_empty c.args.text.now)

pub returns-clause-ok : goal.returns-clause-ok
returns-clause-ok g c =
    if_ok c.take_and_keep-2.result c.take_and_keep-2.ensures.ok
    (λ rest leaves passed over. leaves_behind g.M.Machine.StandsAfter g.O.Observer.Tells c.args.text.now _ c.in-Some.more.now _ passed _ _ c.if-not-self.false over c.in-Some.ensures
    c.in-Ok.ensures.ok leaves)

pub returns-clause-behind : goal.returns-clause-behind
returns-clause-behind g c =
    if_ok c.take_and_keep-2.result c.take_and_keep-2.ensures.behind
    (λ rest b. behind_more c.args.text.now c.in-Some.more.now _ (behind_line c.args.text.now _ c.in-Some.more.now c.in-Some.ensures) b)

pub returns-clause-err : goal.returns-clause-err
returns-clause-err g c = λ fault is.
    or_until (c.take_and_keep-2.ensures.err fault is)
    (λ counts. omega (arith, counts, c.in-Ok.ensures.counted, first_shorter c.args.text.now _ c.in-Some.more.now c.in-Some.ensures))
    (λ finds passed over. until_behind g.M.Machine.StandsAfter g.O.Observer.Tells g.M.Machine.RanOut c.args.text.now _ c.in-Some.more.now passed _ c.if-not-self.false over c.in-Some.ensures
    c.in-Ok.ensures.ok finds)
