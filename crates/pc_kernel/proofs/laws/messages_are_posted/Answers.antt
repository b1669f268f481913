use Rattle.pc_kernel.proofs.Posts.{always_told}
use Rattle.pc_kernel.proofs.laws.messages_are_posted.Goals as goal

pub returns-clause-posted : goal.returns-clause-posted
returns-clause-posted c limits calls t m there = (always_told limits calls).posted t m there

pub returns-clause-of_the_run : goal.returns-clause-of_the_run
returns-clause-of_the_run c limits calls q m there = (always_told limits calls).of_run q m there
