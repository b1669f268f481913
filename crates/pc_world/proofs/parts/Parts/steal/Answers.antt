use Rattle.std.proofs.Common.{◌≡◌, Err, OnErr, refl, sym, subst, ap, ◌∙◌, Ok}
use Rattle.std.proofs.lemmas.List.{length-set}
use Rattle.pc_calls.specs.declared.limits.Limits.{Limits}
use Rattle.pc_agent.specs.Publishing.{WhateverShown}
use Rattle.pc_agent.specs.Running.{Steals}
use Rattle.pc_agent.specs.Shows.{cpu_of, counts_of}
use Rattle.pc_world.proofs.Places.{agent_at, agent_cpu, own_after}
use Rattle.pc_world.proofs.Own.{steal_done, steal_refused, steal_ran_out}
use Rattle.pc_calls.specs.declared.refusal.CallFault.TheVariants.{Refused}
use Rattle.pc_calls.specs.declared.refusal.Refusal.TheVariants.{BadCpu}
use Rattle.pc_agent.specs.Counts.{steal_counted}
use Rattle.pc_world.proofs.Counting.{counts_more, counts_none, counts_nowhere, nowhere}
use Rattle.pc_world.proofs.parts.Parts.steal.Goals as goal

pub returns-in-Ok-clause-handles : goal.returns-in-Ok-clause-handles
returns-in-Ok-clause-handles c =
    steal_done c.runs_go_on.ensures c.args.self.now _ c.args.cpu c.in-Some.place c.index_mut.result.now c.steal.new.self c.in-Some.ensures c.index_mut.ensures.value refl c.in-Ok.thread c.in-Ok.ensures.steals refl

pub returns-in-Refused-clause-handles : goal.returns-in-Refused-clause-handles
returns-in-Refused-clause-handles c =
    steal_refused c.runs_go_on.ensures c.args.self.now _ c.args.cpu c.in-Some.place c.index_mut.result.now c.steal.new.self c.in-Some.ensures c.index_mut.ensures.value refl c.in-Refused.refusal
    (subst (λ r. WhateverShown c.args.self.now.kernel c.index_mut.result.now (λ P run p. Steals P run p r (cpu_of c.index_mut.result.now) c.steal.new.self c.steal.new.kernel)) (c.in-Err.is ∙ ap Err c.in-Refused.is) c.steal.ensures.steals)
    (subst (λ r. OnErr r (c.steal.new.kernel ≡ c.args.self.now.kernel)) c.in-Err.is c.steal.ensures.goes_on.err) refl c.steal.ensures.same.view
    (subst (λ r. OnErr r (c.steal.new.self.list ≡ c.index_mut.result.now.list)) c.in-Err.is c.steal.ensures.list_err) c.steal.ensures.sent c.steal.ensures.same.rules

pub returns-in-OutOfMemory-clause-handles : goal.returns-in-OutOfMemory-clause-handles
returns-in-OutOfMemory-clause-handles c =
    steal_ran_out c.runs_go_on.ensures c.args.self.now _ c.args.cpu c.in-Some.place c.index_mut.result.now c.steal.new.self c.in-Some.ensures c.index_mut.ensures.value refl _
    (subst (λ r. WhateverShown c.args.self.now.kernel c.index_mut.result.now (λ P run p. Steals P run p r (cpu_of c.index_mut.result.now) c.steal.new.self c.steal.new.kernel)) (c.in-Err.is ∙ ap Err c.in-OutOfMemory.is) c.steal.ensures.steals)
    (subst (λ r. OnErr r (c.steal.new.kernel ≡ c.args.self.now.kernel)) c.in-Err.is c.steal.ensures.goes_on.err) refl c.steal.ensures.same.view
    (subst (λ r. OnErr r (c.steal.new.self.list ≡ c.index_mut.result.now.list)) c.in-Err.is c.steal.ensures.list_err) c.steal.ensures.sent c.steal.ensures.same.rules

pub invariant_of-self : goal.invariant_of-self
invariant_of-self c =
    let world = c.args.self.now in
    let place = c.in-Some.place in
    let was = agent_at world c.args.cpu place c.index_mut.result.now _ c.in-Some.ensures c.index_mut.ensures.value in
    record {
      as_many = length-set world.agents.items place c.steal.new.self ∙ world.as_many ∙ ap (λ (l : Limits). l.cpus) (sym c.steal.ensures.goes_on.limits);
      own = own_after world.agents.items place c.steal.new.self world.own (c.steal.ensures.same.cpu ∙ agent_cpu world c.args.cpu c.index_mut.result.now was ∙ sym c.in-Some.ensures.is);
    }

pub returns-in_default-clause-counts : goal.returns-in_default-clause-counts
returns-in_default-clause-counts c =
    counts_nowhere c.args.self.now c.args.cpu (steal_counted (Err (Refused BadCpu))) (nowhere c.args.self.now c.args.cpu c.place.result c.place.ensures c.in_default.not-Some)

pub returns-in-Ok-clause-counts : goal.returns-in-Ok-clause-counts
returns-in-Ok-clause-counts c =
    counts_more c.args.self.now c.args.cpu c.in-Some.place c.index_mut.result.now c.steal.new.self c.in-Some.ensures c.index_mut.ensures.value (steal_counted (Ok c.in-Ok.thread)) c.in-Ok.ensures.same.counts

pub returns-in-Refused-clause-counts : goal.returns-in-Refused-clause-counts
returns-in-Refused-clause-counts c =
    counts_more c.args.self.now c.args.cpu c.in-Some.place c.index_mut.result.now c.steal.new.self c.in-Some.ensures c.index_mut.ensures.value (steal_counted (Err (Refused c.in-Refused.refusal)))
    (c.steal.ensures.same.counts ∙ ap (λ r. steal_counted r (counts_of c.index_mut.result.now)) (c.in-Err.is ∙ ap Err c.in-Refused.is))

pub returns-in-OutOfMemory-clause-counts : goal.returns-in-OutOfMemory-clause-counts
returns-in-OutOfMemory-clause-counts c =
    counts_none c.args.self.now c.args.cpu c.in-Some.place c.index_mut.result.now c.steal.new.self c.in-Some.ensures c.index_mut.ensures.value
    (c.steal.ensures.same.counts ∙ ap (λ r. steal_counted r (counts_of c.index_mut.result.now)) (c.in-Err.is ∙ ap Err c.in-OutOfMemory.is))
