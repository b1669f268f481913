use Rattle.pc_advice.specs.Behind.{posts_behind}
use Rattle.pc_advice.proofs.Shown.{by_reads}
use Rattle.pc_advice.proofs.ahead.Ahead.posts.Goals as goal

pub returns : goal.returns
returns c = by_reads (λ r steps. posts_behind r c.args.queue steps) _ _ _ _ c.posts.result c.posts.ensures c.kernel.ensures c.steps.ensures.steps
