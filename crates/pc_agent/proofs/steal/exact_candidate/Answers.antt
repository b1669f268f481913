use Rattle.std.proofs.Common.{Some, ◌+◌, sym, subst, ◌∙◌}
use Rattle.pc_kernel.specs.Reads.{seen}
use Rattle.pc_policy.specs.Rankings.{ranks_of}
use Rattle.pc_run_queue.specs.Runs.{runs_in}
use Rattle.pc_agent.specs.PlainAgent.{candidates, is_wanted, known_in}
use Rattle.pc_agent.specs.Running.{FindsFirst}
use Rattle.pc_agent.specs.Inner.Exactly.{exact_by}
use Rattle.pc_agent.proofs.Firsts.{FirstPast, IsWanted, all_looked, looked, moved, none_past, nowhere, somewhere, wanted_from, wanted_least}
use Rattle.pc_agent.proofs.steal.exact_candidate.Goals as goal

pub loop-wanted-init : goal.loop-wanted-init
loop-wanted-init c = (
  wanted_least (is_wanted (runs_in c.args.view.now c.args.cpu) c.args.list.now) c.args.least c.requires.least,
  none_past (exact_by (ranks_of c.args.order.now)) (seen c.args.kernel.now) (known_in c.args.view.now) c.args.cpu c.args.list.now c.args.least c.requires.least,
)

pub loop-wanted-preserved : goal.loop-wanted-preserved
loop-wanted-preserved c =
    let rules = exact_by (ranks_of c.args.order.now) in
    let r = seen c.args.kernel.now in
    let known = known_in c.args.view.now in
    let cpu = c.args.cpu in
    let list = c.args.list.now in
    let wanted = is_wanted (runs_in c.args.view.now cpu) list in
    let stands = candidates rules r known cpu list in
    let thread = c.in-Some.thread in
    let is_wanted_here = subst (IsWanted wanted) c.in-Some.is c.loop-wanted.invariant.0 in
    let past = subst (λ next. FirstPast stands next c.loop-wanted.first) c.in-Some.is c.loop-wanted.invariant.1 in
    let place = somewhere rules r known cpu list thread is_wanted_here ∙ sym c.exact_place-place.ensures in
    let more = subst (FirstPast stands (Some (thread + 1))) (sym c.earlier-first.ensures) (looked stands thread c.loop-wanted.first c.exact_place-place.result place past) in (
      wanted_from wanted (thread + 1) c.wanted_after-wanted.result c.wanted_after-wanted.ensures,
      moved stands wanted (nowhere rules r known cpu list) thread c.wanted_after-wanted.result c.earlier-first.result c.wanted_after-wanted.ensures more,
    )

pub returns : goal.returns
returns c =
    let stands = candidates (exact_by (ranks_of c.args.order.now)) (seen c.args.kernel.now) (known_in c.args.view.now) c.args.cpu c.args.list.now in
    let all = subst (λ next. FirstPast stands next c.loop-wanted.first) c.in_default.is c.loop-wanted.invariant.1 in
    subst (FindsFirst stands) (sym c.name_in.ensures) (all_looked stands c.loop-wanted.first all)
