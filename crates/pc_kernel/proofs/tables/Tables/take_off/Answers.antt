use Rattle.std.proofs.Common.{ap}
use Rattle.pc_kernel.specs.Inner.LastPosts.{KeptThread}
use Rattle.pc_kernel.proofs.LastPosts.{kinds_stay}
use Rattle.pc_kernel.proofs.Marked.{taken_off}
use Rattle.pc_kernel.proofs.tables.Tables.take_off.Goals as goal

pub invariant_of-self : goal.invariant_of-self
invariant_of-self c =
    (taken_off c.self.inside.limits c.self.inside.threads.items c.self.inside.cpus.items c.index-2.result c.args.thread c.index_mut-2.result.now c.set_on.new.self c.index.result c.args.cpu c.index_mut.result.now c.args.self.now c.self.invariant c.self.view_is c.index-2.ensures c.requires.known c.index_mut-2.ensures.value c.set_on.ensures c.index.ensures c.requires.there c.index_mut.ensures.value c.requires.runs).0

pub returns-clause-shown : goal.returns-clause-shown
returns-clause-shown c =
    (taken_off c.self.inside.limits c.self.inside.threads.items c.self.inside.cpus.items c.index-2.result c.args.thread c.index_mut-2.result.now c.set_on.new.self c.index.result c.args.cpu c.index_mut.result.now c.args.self.now c.self.invariant c.self.view_is c.index-2.ensures c.requires.known c.index_mut-2.ensures.value c.set_on.ensures c.index.ensures c.requires.there c.index_mut.ensures.value c.requires.runs).1

pub returns-clause-kinds : goal.returns-clause-kinds
returns-clause-kinds c =
    kinds_stay c.self.inside.limits c.self.inside.threads.items c.self.inside.cpus.items c.index-2.result c.args.thread c.index_mut-2.result.now c.set_on.new.self c.args.self.now c.self.view_is c.index-2.ensures c.requires.known c.index_mut-2.ensures.value (ap (λ (thread : KeptThread). thread.kinds) c.set_on.ensures)
