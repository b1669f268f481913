use Rattle.std.proofs.Common.{refl, Ok, Err}
use Rattle.pc_world.proofs.Own.{consume_done, consume_refused}
use Rattle.pc_calls.specs.declared.refusal.Refusal.TheVariants.{BadCpu}
use Rattle.pc_agent.specs.Counts.{consume_counted}
use Rattle.pc_world.proofs.Counting.{counts_more, counts_nowhere, nowhere}
use Rattle.pc_world.proofs.parts.Parts.consume.Goals as goal

pub returns-in-Ok-clause-handles : goal.returns-in-Ok-clause-handles
returns-in-Ok-clause-handles c =
    consume_done c.runs_go_on.ensures c.args.self.now _ c.args.cpu c.in-Some.place c.index_mut.result.now c.consume.new.self c.in-Some.ensures c.index_mut.ensures.value refl c.in-Ok.items c.in-Ok.ensures.consumes refl

pub returns-in-Err-clause-handles : goal.returns-in-Err-clause-handles
returns-in-Err-clause-handles c =
    consume_refused c.runs_go_on.ensures c.args.self.now _ c.args.cpu c.in-Some.place c.index_mut.result.now c.consume.new.self c.in-Some.ensures c.index_mut.ensures.value refl c.in-Err.refusal c.in-Err.ensures.consumes c.in-Err.ensures.agent_err c.in-Err.ensures.goes_on.err refl

pub returns-in_default-clause-counts : goal.returns-in_default-clause-counts
returns-in_default-clause-counts c =
    counts_nowhere c.args.self.now c.args.cpu (consume_counted (Err BadCpu)) (nowhere c.args.self.now c.args.cpu c.place.result c.place.ensures c.in_default.not-Some)

pub returns-in-Ok-clause-counts : goal.returns-in-Ok-clause-counts
returns-in-Ok-clause-counts c =
    counts_more c.args.self.now c.args.cpu c.in-Some.place c.index_mut.result.now c.consume.new.self c.in-Some.ensures c.index_mut.ensures.value (consume_counted (Ok c.in-Ok.items)) c.in-Ok.ensures.same.counts

pub returns-in-Err-clause-counts : goal.returns-in-Err-clause-counts
returns-in-Err-clause-counts c =
    counts_more c.args.self.now c.args.cpu c.in-Some.place c.index_mut.result.now c.consume.new.self c.in-Some.ensures c.index_mut.ensures.value (consume_counted (Err c.in-Err.refusal)) c.in-Err.ensures.same.counts
