use Rattle.std.proofs.Common.{sym, subst, ◌∙◌}
use Rattle.pc_kernel.specs.Reads.{seen}
use Rattle.pc_run_queue.specs.Runs.{runs_in}
use Rattle.pc_agent.specs.PlainAgent.{is_wanted, may_take}
use Rattle.pc_agent.proofs.Wanted.{IsAt, went_on}
use Rattle.pc_agent.proofs.steal.candidate.Goals as goal

pub loop-wanted-preserved : goal.loop-wanted-preserved
loop-wanted-preserved c =
    let runs = runs_in c.args.view.now c.args.cpu in
    let here = subst (IsAt (is_wanted runs c.args.list.now) (may_take (seen c.args.kernel.now) runs c.args.list.now)) c.in-Some.is c.loop-wanted.invariant in
    went_on (seen c.args.kernel.now) runs c.args.list.now c.in-Some.thread here (sym c.idles.ensures ∙ c.if-idles.false) c.wanted_after-wanted.result c.wanted_after-wanted.ensures
