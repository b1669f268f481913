use Rattle.pc_join.proofs.Apart.{took}
use Rattle.pc_join.proofs.numbers.merge.Goals as goal

pub turns-preserved : goal.turns-preserved
turns-preserved c =
    took c.args.joined.now.items c.args.first.now c.args.other.now c.turns.joined.items c.append.new.ranges.items c.in-Some.turn.entry c.in_ok-append-in-Some.ensures.ok
    c.turns.left.now c.turns.right.now c.in-Some.turn.first.now c.in-Some.turn.other.now c.turns.invariant c.in-Some.ensures
