use Rattle.std.proofs.Common.{sym, ◌∙◌}
use Rattle.pc_kernel.specs.Reads.{seen}
use Rattle.pc_agent.proofs.Ready.{looked, unready_refused}
use Rattle.pc_agent.proofs.pick.pick_from.Goals as goal

pub returns-in-Some-clause-picks : goal.returns-in-Some-clause-picks
returns-in-Some-clause-picks c = unready_refused (seen c.args.kernel.now) c.args.cpu c.args.aseq c.args.list.now c.in-Some.refusal (sym c.unready.ensures ∙ c.in-Some.is)

pub returns-clause-picks : goal.returns-clause-picks
returns-clause-picks c =
    looked c.args.cpu c.args.aseq c.commit_first.result c.args.list.now c.commit_first.new.list c.args.kernel.now c.commit_first.new.kernel (sym c.unready.ensures ∙ c.in_default.is) c.commit_first.ensures.first
