use Rattle.pc_script.proofs.Pieces.{all_behind, behind_more, end_empty}
use Rattle.pc_script.proofs.session.Talk.take_and_keep.Goals as goal

pub returns-then-rest-clause-behind : goal.returns-then-rest-clause-behind
returns-then-rest-clause-behind g c =
    let rest = c.in-Ok.rest.now in
    behind_more c.args.text.now rest _ c.in-Ok.ensures.behind (all_behind rest _ (end_empty rest))
