use Rattle.std.proofs.Common.{rules, arith}
use Rattle.pc_kernel.specs.Reads.{seen}
use Rattle.pc_lab.proofs.Accounting.{ended_all, ended_more}
use Rattle.pc_lab.proofs.account.have_ended.Goals as goal

pub loop-place-preserved : goal.loop-place-preserved
loop-place-preserved c =
    ended_more c.args.threads.now (seen c.args.kernel.now) c.loop-place.place c.index-threads-place.result c.loop-place.invariant c.loop-place-test.true
    c.index-threads-place.is (c.has_ended.ensures (search rules))

pub returns : goal.returns
returns c = λ yes. ended_all c.args.threads.now (seen c.args.kernel.now) c.loop-place.place c.loop-place.invariant (omega (arith, c.loop-place-test.false))
