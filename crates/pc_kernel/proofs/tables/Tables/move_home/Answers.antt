use Rattle.std.proofs.Common.{ap}
use Rattle.pc_kernel.specs.Inner.LastPosts.{KeptThread}
use Rattle.pc_kernel.proofs.LastPosts.{kinds_stay}
use Rattle.pc_kernel.proofs.Marked.{housed}
use Rattle.pc_kernel.proofs.tables.Tables.move_home.Goals as goal

pub invariant_of-self : goal.invariant_of-self
invariant_of-self c =
    (housed c.self.inside.limits c.self.inside.threads.items c.self.inside.cpus.items c.index.result c.args.thread c.args.queue c.index_mut.result.now c.set_home.new.self c.args.self.now c.self.invariant c.self.view_is c.index.ensures c.requires.known c.index_mut.ensures.value c.set_home.ensures c.requires.there c.requires.nothing_waits).0

pub returns-clause-shown : goal.returns-clause-shown
returns-clause-shown c =
    (housed c.self.inside.limits c.self.inside.threads.items c.self.inside.cpus.items c.index.result c.args.thread c.args.queue c.index_mut.result.now c.set_home.new.self c.args.self.now c.self.invariant c.self.view_is c.index.ensures c.requires.known c.index_mut.ensures.value c.set_home.ensures c.requires.there c.requires.nothing_waits).1

pub returns-clause-kinds : goal.returns-clause-kinds
returns-clause-kinds c =
    kinds_stay c.self.inside.limits c.self.inside.threads.items c.self.inside.cpus.items c.index.result c.args.thread c.index_mut.result.now c.set_home.new.self c.args.self.now c.self.view_is c.index.ensures c.requires.known c.index_mut.ensures.value (ap (λ (thread : KeptThread). thread.kinds) c.set_home.ensures)
