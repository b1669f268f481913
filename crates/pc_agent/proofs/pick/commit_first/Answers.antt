use Rattle.std.proofs.Common.{ap, rules, subst, ◌∙◌}
use Rattle.pc_messages.specs.Run.{Extends}
use Rattle.pc_kernel.specs.Reads.{seen, kinds_read}
use Rattle.pc_agent.proofs.pick.commit_first.Goals as goal

pub returns-in-Ok-clause-goes_on : goal.returns-in-Ok-clause-goes_on
returns-in-Ok-clause-goes_on c = record {
  limits = c.commit.ensures.limits ∙ ap (λ k. k.limits) c.loop-name.invariant.0;
  extends = subst (λ k. Extends (kinds_read (seen c.commit.new.self)) (kinds_read (seen k))) c.loop-name.invariant.0 c.commit.ensures.extends;
  err = tt;
}

pub returns-in-Ok-clause-kept : goal.returns-in-Ok-clause-kept
returns-in-Ok-clause-kept c ranks view cpu h = c.in-Some.ensures.kept ranks view cpu (c.loop-name.invariant.2 ranks view cpu h)

pub loop-name-preserved : goal.loop-name-preserved
loop-name-preserved c = (search rules, search rules, λ ranks view cpu h. c.in-Some.ensures.kept ranks view cpu (c.loop-name.invariant.2 ranks view cpu h))

pub returns-clause-kept : goal.returns-clause-kept
returns-clause-kept c ranks view cpu h = c.in_default.ensures.kept ranks view cpu (c.loop-name.invariant.2 ranks view cpu h)
