use Rattle.std.proofs.Common.{refl}
use Rattle.std.proofs.lemmas.List.Sorted.{length_permutation}
use Rattle.pc_table.proofs.figures.figures_in.Goals as goal

pub returns : goal.returns
returns c = λ ticks perm.
    let waits = length_permutation ticks c.args.ascending.now perm in
    let p50 = c.percentile.ensures ticks perm in
    let p90 = c.percentile-2.ensures ticks perm in
    let p99 = c.percentile-3.ensures ticks perm in
    rw waits (rw p50 (rw p90 (rw p99 refl)))
