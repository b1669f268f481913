use Rattle.std.proofs.Common.{ap}
use Rattle.std.specs.Option.{option_copied}
use Rattle.pc_kernel.proofs.Pending.{runs_known}
use Rattle.pc_kernel.proofs.tables.Tables.leaver.Goals as goal

pub post_fault-requires : goal.post_fault-requires
post_fault-requires c =
    runs_known c.args.self.now (option_copied c.cpu.result) c.args.cpu c.in-Some-running.thread c.in-Some.entry.now c.is_sound.ensures c.cpu.ensures.row (ap option_copied c.in-Some.is) c.in-Some-running.is

pub returns-in-None-post_fault-clause-known : goal.returns-in-None-post_fault-clause-known
returns-in-None-post_fault-clause-known c =
    runs_known c.args.self.now (option_copied c.cpu.result) c.args.cpu c.in-Some-running.thread c.in-Some.entry.now c.is_sound.ensures c.cpu.ensures.row (ap option_copied c.in-Some.is) c.in-Some-running.is
