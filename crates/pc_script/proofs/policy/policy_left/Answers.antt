use Rattle.std.proofs.Common.{arith}
use Rattle.pc_policy.proofs.Policies.{policy_short}
use Rattle.pc_script.specs.Grammar.{spaced}
use Rattle.pc_script.specs.Inner.Taking.{words_left}
use Rattle.pc_script.proofs.policy.policy_left.Goals as goal

-- what is longer than any policy's text is none
pub returns-in-None-clause-err : goal.returns-in-None-clause-err
returns-in-None-clause-err c = λ any is.
    let long = c.in-None.ensures in
    omega (arith, long, policy_short (spaced (words_left c.args.words.now)) any is)
