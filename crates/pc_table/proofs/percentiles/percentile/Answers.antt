use Rattle.std.proofs.Common.{◌≡◌, ◌-◌, ◌∙◌, sym, ap, length, arith}
use Rattle.std.specs.List.{slice_get}
use Rattle.std.proofs.lemmas.Grind.{common_steps}
use Rattle.std.proofs.lemmas.Option.{gets}
use Rattle.pc_table.proofs.Ranks.{percentile_there}
use Rattle.pc_table.specs.Percentiles.{rank_in}
use Rattle.pc_table.proofs.percentiles.percentile.Goals as goal

pub returns : goal.returns
returns c = λ numbers perm.
    let told = percentile_there c.args.percent numbers c.args.ascending.now perm c.requires.ascending c.requires.low c.requires.high in
    let place : c.saturating_sub.result ≡ rank_in c.args.percent (length c.args.ascending.now) - 1 = c.saturating_sub.ensures ∙ ap (λ n. n - 1) c.rank_in-rank.ensures in
    let found : c.copied.result ≡ slice_get c.args.ascending.now c.saturating_sub.result = grind (arith, common_steps, gets) in
    found ∙ ap (slice_get c.args.ascending.now) place ∙ sym told
