use Rattle.std.proofs.Common.{Err, length, refl, subst, ap, ◌∙◌}
use Rattle.pc_kernel.specs.PlainKernel.{content}
use Rattle.pc_agent.specs.Publishing.{IsPublished, WhateverShown}
use Rattle.pc_agent.specs.Shows.{cpu_of}
use Rattle.pc_agent.specs.Wires.{Keeps}
use Rattle.pc_world.proofs.Own.{publish_done, publish_refused, publish_ran_out}
use Rattle.pc_world.proofs.Counting.{counts_none}
use Rattle.pc_world.proofs.parts.Parts.publish.Goals as goal

pub returns-in-Ok-clause-handles : goal.returns-in-Ok-clause-handles
returns-in-Ok-clause-handles c =
    publish_done c.runs_go_on.ensures c.args.self.now _ c.args.cpu c.in-Some.place c.index_mut.result.now c.publish.new.self c.in-Some.ensures c.index_mut.ensures.value refl c.args.fails c.set_refuses.new.self c.set_refuses.ensures.sent c.set_refuses.ensures.refuses refl
    _ c.in-Ok.items (ap length c.sent.ensures.same) c.in-Ok.ensures.publishes

pub returns-in-Err-WireFault-clause-handles : goal.returns-in-Err-WireFault-clause-handles
returns-in-Err-WireFault-clause-handles c =
    publish_refused c.runs_go_on.ensures c.args.self.now _ c.args.cpu c.in-Some.place c.index_mut.result.now c.publish.new.self c.in-Some.ensures c.index_mut.ensures.value refl c.args.fails c.set_refuses.new.self c.set_refuses.ensures.sent c.set_refuses.ensures.refuses refl
    (subst (λ r. WhateverShown c.args.self.now.kernel c.index_mut.result.now (λ P run p. IsPublished Keeps (content P (cpu_of c.index_mut.result.now)) run p r (cpu_of c.index_mut.result.now) c.publish.new.self c.set_refuses.new.self c.publish.new.wire))
    (c.in-Err-WireFault.is ∙ ap Err c.in-Err-WireFault.field-0-is) c.publish.ensures.publishes)

pub returns-in-Err-OutOfMemory-clause-handles : goal.returns-in-Err-OutOfMemory-clause-handles
returns-in-Err-OutOfMemory-clause-handles c =
    publish_ran_out c.runs_go_on.ensures c.args.self.now _ c.args.cpu c.in-Some.place c.index_mut.result.now c.publish.new.self c.in-Some.ensures c.index_mut.ensures.value refl c.args.fails c.set_refuses.new.self c.set_refuses.ensures.sent c.set_refuses.ensures.refuses refl
    _
    (subst (λ r. WhateverShown c.args.self.now.kernel c.index_mut.result.now (λ P run p. IsPublished Keeps (content P (cpu_of c.index_mut.result.now)) run p r (cpu_of c.index_mut.result.now) c.publish.new.self c.set_refuses.new.self c.publish.new.wire))
    (c.in-Err-OutOfMemory.is ∙ ap Err c.in-Err-OutOfMemory.field-0-is) c.publish.ensures.publishes)

pub returns-in-Ok-clause-counts : goal.returns-in-Ok-clause-counts
returns-in-Ok-clause-counts c =
    counts_none c.args.self.now c.args.cpu c.in-Some.place c.index_mut.result.now c.publish.new.self c.in-Some.ensures c.index_mut.ensures.value c.publish.ensures.counts

pub returns-in-Err-WireFault-clause-counts : goal.returns-in-Err-WireFault-clause-counts
returns-in-Err-WireFault-clause-counts c =
    counts_none c.args.self.now c.args.cpu c.in-Some.place c.index_mut.result.now c.publish.new.self c.in-Some.ensures c.index_mut.ensures.value c.publish.ensures.counts

pub returns-in-Err-OutOfMemory-clause-counts : goal.returns-in-Err-OutOfMemory-clause-counts
returns-in-Err-OutOfMemory-clause-counts c =
    counts_none c.args.self.now c.args.cpu c.in-Some.place c.index_mut.result.now c.publish.new.self c.in-Some.ensures c.index_mut.ensures.value c.publish.ensures.counts
