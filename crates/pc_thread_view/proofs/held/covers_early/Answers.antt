use Rattle.std.proofs.Common.{arith, ◌≢◌}
use Rattle.std.proofs.lemmas.Bool.{false≢true}
use Rattle.pc_thread_view.proofs.Among.{walk_prefix, next_positive, walk_none, walk_on, walk_found, walk_missing, no_items}
use Rattle.pc_thread_view.proofs.held.covers_early.Goals as goal

pub walk-preserved-then-next-upto : goal.walk-preserved-then-next-upto
walk-preserved-then-next-upto c = walk_prefix c.args.upto c.args.mine.now c.args.others.now c.walk.held.now c.walk.asked.now c.walk.invariant c.in-Some.next.now c.in-Some.more.now c.in-Some.ensures.cases.0 (next_positive c.args.upto c.args.mine.now c.args.others.now c.walk.held.now c.walk.asked.now c.walk.invariant c.in-Some.next.now c.in-Some.more.now c.in-Some.ensures.cases.0) c.if-next-upto.true

pub returns-in_default-split_first : goal.returns-in_default-split_first
returns-in_default-split_first c = (λ e. absurd (false≢true e), λ all. absurd (walk_none c.args.upto c.args.mine.now c.args.others.now c.walk.held.now c.walk.asked.now c.walk.invariant c.in-Some.next.now c.in-Some.more.now c.in-Some.ensures.cases.0 c.if-next-upto.false (no_items c.walk.held.now c.in_default-split_first.ensures.cases) all))

pub walk-preserved-then-first-next : goal.walk-preserved-then-first-next
walk-preserved-then-first-next c = walk_on c.args.upto c.args.mine.now c.args.others.now c.walk.held.now c.walk.asked.now c.walk.invariant c.in-Some.next.now c.in-Some.more.now c.in-Some.ensures.cases.0 c.in-Some-split_first.first.now c.in-Some-split_first.rest.now c.in-Some-split_first.ensures.cases.0 c.if-first-next.true

pub walk-preserved : goal.walk-preserved
walk-preserved c = walk_found c.args.upto c.args.mine.now c.args.others.now c.walk.held.now c.walk.asked.now c.walk.invariant c.in-Some.next.now c.in-Some.more.now c.in-Some.ensures.cases.0 c.in-Some-split_first.first.now c.in-Some-split_first.rest.now c.in-Some-split_first.ensures.cases.0 c.if-first-next-2.true

pub returns-else-first-next-2 : goal.returns-else-first-next-2
returns-else-first-next-2 c = (λ e. absurd (false≢true e), λ all. absurd (walk_missing c.args.upto c.args.mine.now c.args.others.now c.walk.held.now c.walk.asked.now c.walk.invariant c.in-Some.next.now c.in-Some.more.now c.in-Some.ensures.cases.0 c.in-Some-split_first.first.now c.in-Some-split_first.rest.now c.in-Some-split_first.ensures.cases.0 c.if-next-upto.false (let h = c.if-first-next.false in let g : c.in-Some-split_first.first.now.0 ≢ c.in-Some.next.now.0 = c.if-first-next-2.false in omega arith) all))
