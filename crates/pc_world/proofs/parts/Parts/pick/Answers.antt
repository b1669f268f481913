use Rattle.std.proofs.Common.{refl, Ok, Err}
use Rattle.pc_world.proofs.Own.{pick_done, pick_refused_by}
use Rattle.pc_calls.specs.declared.refusal.Refusal.TheVariants.{BadCpu}
use Rattle.pc_agent.specs.Counts.{pick_counted}
use Rattle.pc_world.proofs.Counting.{counts_more, counts_nowhere, nowhere}
use Rattle.pc_world.proofs.parts.Parts.pick.Goals as goal

pub returns-in-Ok-clause-handles : goal.returns-in-Ok-clause-handles
returns-in-Ok-clause-handles c =
    pick_done c.runs_go_on.ensures c.args.self.now _ c.args.cpu c.in-Some.place c.index_mut.result.now c.pick.new.self c.in-Some.ensures c.index_mut.ensures.value refl c.args.aseq c.in-Ok.thread c.in-Ok.ensures.picks refl

pub returns-in-Err-clause-handles : goal.returns-in-Err-clause-handles
returns-in-Err-clause-handles c =
    pick_refused_by c.runs_go_on.ensures c.args.self.now _ c.args.cpu c.in-Some.place c.index_mut.result.now c.pick.new.self c.in-Some.ensures c.index_mut.ensures.value refl c.args.aseq c.in-Err.refusal c.in-Err.ensures.picks c.in-Err.ensures.goes_on.err refl

pub returns-in_default-clause-counts : goal.returns-in_default-clause-counts
returns-in_default-clause-counts c =
    counts_nowhere c.args.self.now c.args.cpu (pick_counted (Err BadCpu)) (nowhere c.args.self.now c.args.cpu c.place.result c.place.ensures c.in_default.not-Some)

pub returns-in-Ok-clause-counts : goal.returns-in-Ok-clause-counts
returns-in-Ok-clause-counts c =
    counts_more c.args.self.now c.args.cpu c.in-Some.place c.index_mut.result.now c.pick.new.self c.in-Some.ensures c.index_mut.ensures.value (pick_counted (Ok c.in-Ok.thread)) c.in-Ok.ensures.same.counts

pub returns-in-Err-clause-counts : goal.returns-in-Err-clause-counts
returns-in-Err-clause-counts c =
    counts_more c.args.self.now c.args.cpu c.in-Some.place c.index_mut.result.now c.pick.new.self c.in-Some.ensures c.index_mut.ensures.value (pick_counted (Err c.in-Err.refusal)) c.in-Err.ensures.same.counts
