use Rattle.std.proofs.Common.{length}
use Rattle.pc_script.proofs.Joining.{SoFar}
use Rattle.pc_script.specs.Inner.Taking.{words_left}
use Rattle.pc_script.proofs.policy.text_left.Given as goal

abbrev pub invariant-loop-word : goal.invariant-loop-word
invariant-loop-word l = SoFar (words_left l.fn.words) (words_left l.words) l.text.items

abbrev pub decreases-loop-word : goal.decreases-loop-word
decreases-loop-word l = length (words_left l.words)
