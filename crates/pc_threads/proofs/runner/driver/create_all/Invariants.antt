use Rattle.pc_threads.specs.Inner.Shares.{HasPosted}
use Rattle.pc_threads.proofs.runner.driver.create_all.Given as goal

-- so many threads were created
abbrev pub invariant-loop-plan : goal.invariant-loop-plan
invariant-loop-plan g l = HasPosted l.plan-index l.plan-index 0 0 0 l.initial.purse l.purse
