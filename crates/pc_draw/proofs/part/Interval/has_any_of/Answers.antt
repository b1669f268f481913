use Rattle.std.proofs.lemmas.Bool.{lt-ltb, ltb-true}
use Rattle.pc_draw.proofs.Intervals.{any_of, below_of}
use Rattle.pc_draw.proofs.part.Interval.has_any_of.Goals as goal

pub returns-then-first-last : goal.returns-then-first-last
returns-then-first-last c =
    let asked = c.args.self.now in
    let first = c.args.first in
    let count = c.args.count in (
      λ yes. any_of asked first count c.if-first-last.true.0 c.if-first-last.true.1 (rw c.saturating_sub.ensures at (ltb-true c.saturating_sub.result count yes)),
      λ has. lt-ltb c.saturating_sub.result count (rw c.saturating_sub.ensures (below_of asked first count has)),
    )
