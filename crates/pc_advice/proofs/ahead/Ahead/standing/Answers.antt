use Rattle.pc_advice.specs.Behind.{standing_behind}
use Rattle.pc_advice.proofs.Shown.{by_reads}
use Rattle.pc_advice.proofs.ahead.Ahead.standing.Goals as goal

pub returns : goal.returns
returns c = by_reads (λ r steps. standing_behind r c.args.thread steps) _ _ _ _ c.stands.result c.stands.ensures c.kernel.ensures c.steps.ensures.steps
