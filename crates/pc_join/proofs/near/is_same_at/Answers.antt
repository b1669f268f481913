use Rattle.std.proofs.Common.{inl, inr}
use Rattle.pc_join.proofs.Comparing.{absent_same}
use Rattle.pc_join.proofs.near.is_same_at.Goals as goal
use Rattle.pc_join.proofs.near.is_same_at.Goals.{then-place-eq0-via-then-place-eq0, then-place-eq0-via-else-place-eq0+then-other-eq0}

pub returns-then-place-eq0 : goal.returns-then-place-eq0
returns-then-place-eq0 g c =
    let by = absent_same g.V.PartialEq.eq c.args.place c.args.other c.args.entries.now c.args.others.now c.requires.within c.requires.other_within in
    elim c.then-place-eq0.branch [
      | then-place-eq0-via-then-place-eq0 w ↦ by (inl w.if-place-eq0.true)
      | then-place-eq0-via-else-place-eq0+then-other-eq0 w ↦ by (inr w.if-other-eq0.true)
    ]
