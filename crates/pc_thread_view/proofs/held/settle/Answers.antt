use Rattle.pc_thread_view.specs.Inner.Held.{told}
use Rattle.pc_thread_view.proofs.Settling.{settling_on, settled}
use Rattle.pc_thread_view.proofs.held.settle.Goals as goal

pub loop-preserved : goal.loop-preserved
loop-preserved c = settling_on (told c.args.held.now) (told c.loop.held) (told c.absorb.new.held) c.loop.invariant (c.absorb.ensures.done c.loop-test.true)

pub returns : goal.returns
returns c = let e = c.absorb.ensures.none c.loop-test.false in settled (told c.args.held.now) (told c.loop.held) (told c.absorb.new.held) c.loop.invariant e.0 e.1
