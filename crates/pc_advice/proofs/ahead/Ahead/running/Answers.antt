use Rattle.pc_advice.specs.Behind.{running_behind}
use Rattle.pc_advice.proofs.Shown.{by_reads}
use Rattle.pc_advice.proofs.ahead.Ahead.running.Goals as goal

pub returns : goal.returns
returns c = by_reads (λ r steps. running_behind r c.args.cpu steps) _ _ _ _ c.running.result c.running.ensures c.kernel.ensures c.steps.ensures.steps
