use Rattle.std.proofs.Common.{◌++◌, ap, ◌∙◌}
use Rattle.pc_messages.specs.Items.{pairs_in}
use Rattle.pc_view.specs.Prefixes.{reports}
use Rattle.pc_run_queue.specs.Runs.{refreshed_as}
use Rattle.pc_agent.specs.PlainAgent.{threads_in}
use Rattle.pc_world.proofs.laws.agents_by_levels_copy_by_level.Goals as goal

pub returns : goal.returns
returns c run cpu items p is =
    let set = p.known ++ pairs_in items in
    let list =
    ap (λ ranks. refreshed_as ranks (reports run set) cpu p.list (threads_in items)) is
    ∙ c.levels_come_by_level.ensures (reports run set) cpu p.list (threads_in items) in
    λ i. record p { known = set; list = list i }
