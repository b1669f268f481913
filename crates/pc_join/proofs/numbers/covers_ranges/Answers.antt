use Rattle.pc_join.proofs.Walks.{walk_on, walk_found, walk_before, walk_after, walk_none, no_items}
use Rattle.pc_join.proofs.numbers.covers_ranges.Goals as goal
use Rattle.pc_join.proofs.numbers.covers_ranges.Goals.{else-first-range-2-via-then-first-range-2+else-range-first, else-first-range-2-via-else-first-range-2}
use Rattle.std.proofs.lemmas.Bool.{false≢true}

pub returns-in_default-split_first : goal.returns-in_default-split_first
returns-in_default-split_first c =
    (λ e. absurd (false≢true e), λ all. absurd (walk_none c.args.mine.now c.args.others.now c.walk.held.now c.walk.asked.now c.in-Some.range.now c.in-Some.more.now c.walk.invariant (no_items c.walk.held.now c.in_default-split_first.ensures.cases) c.in-Some.ensures.cases.0 all))

pub walk-preserved-then-first-range : goal.walk-preserved-then-first-range
walk-preserved-then-first-range c =
    walk_on c.args.mine.now c.args.others.now c.walk.held.now c.walk.asked.now c.walk.invariant c.in-Some-split_first.first.now c.in-Some.range.now c.in-Some-split_first.rest.now c.in-Some.more.now
    c.in-Some-split_first.ensures.cases.0 c.in-Some.ensures.cases.0 c.if-first-range.true

pub walk-preserved : goal.walk-preserved
walk-preserved c =
    walk_found c.args.mine.now c.args.others.now c.walk.held.now c.walk.asked.now c.walk.invariant c.in-Some-split_first.first.now c.in-Some.range.now c.in-Some-split_first.rest.now c.in-Some.more.now
    c.in-Some-split_first.ensures.cases.0 c.in-Some.ensures.cases.0 c.if-first-range-2.true c.if-range-first.true

pub returns-else-first-range-2 : goal.returns-else-first-range-2
returns-else-first-range-2 c = (
  λ e. absurd (false≢true e),
  λ all. elim c.else-first-range-2.branch [
    | else-first-range-2-via-then-first-range-2+else-range-first w ↦ absurd (walk_after c.args.mine.now c.args.others.now c.walk.held.now c.walk.asked.now c.walk.invariant c.in-Some-split_first.first.now c.in-Some.range.now c.in-Some-split_first.rest.now c.in-Some.more.now c.in-Some-split_first.ensures.cases.0 c.in-Some.ensures.cases.0 c.if-first-range.false w.if-range-first.false all)
    | else-first-range-2-via-else-first-range-2 w ↦ absurd (walk_before c.args.mine.now c.args.others.now c.walk.held.now c.walk.asked.now c.walk.invariant c.in-Some-split_first.first.now c.in-Some.range.now c.in-Some-split_first.rest.now c.in-Some.more.now c.in-Some-split_first.ensures.cases.0 c.in-Some.ensures.cases.0 w.if-first-range-2.false all)
  ],
)
