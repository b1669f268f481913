use Rattle.pc_kernel.proofs.Marked.{aimed}
use Rattle.pc_kernel.proofs.tables.Tables.aim.Goals as goal

pub invariant_of-self : goal.invariant_of-self
invariant_of-self c =
    (aimed c.self.inside.limits c.self.inside.threads.items c.self.inside.cpus.items c.index.result c.args.queue c.index_mut.result.now c.args.self.now c.args.target c.self.invariant c.self.view_is c.index.ensures c.requires.there c.index_mut.ensures.value c.requires.target_there).0

pub returns-clause-shown : goal.returns-clause-shown
returns-clause-shown c =
    (aimed c.self.inside.limits c.self.inside.threads.items c.self.inside.cpus.items c.index.result c.args.queue c.index_mut.result.now c.args.self.now c.args.target c.self.invariant c.self.view_is c.index.ensures c.requires.there c.index_mut.ensures.value c.requires.target_there).1
