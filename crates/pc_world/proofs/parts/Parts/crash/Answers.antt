use Rattle.std.proofs.Common.{refl}
use Rattle.pc_world.proofs.Own.{crash_done}
use Rattle.pc_world.proofs.Counting.{counts_none}
use Rattle.pc_world.proofs.parts.Parts.crash.Goals as goal

pub returns-in-Ok-clause-handles : goal.returns-in-Ok-clause-handles
returns-in-Ok-clause-handles c =
    crash_done c.runs_go_on.ensures c.args.self.now _ c.args.cpu c.in-Some.place c.index_mut.result.now c.restart.new.self c.in-Some.ensures c.index_mut.ensures.value refl c.in-Ok.ensures.step c.restart.ensures.fresh refl

pub returns-in-Ok-clause-counts : goal.returns-in-Ok-clause-counts
returns-in-Ok-clause-counts c =
    counts_none c.args.self.now c.args.cpu c.in-Some.place c.index_mut.result.now c.restart.new.self c.in-Some.ensures c.index_mut.ensures.value c.restart.ensures.counts
