use Rattle.std.proofs.Common.{Some, true, refl}
use Rattle.pc_kernel.proofs.Marked.{marked}
use Rattle.pc_kernel.proofs.tables.Tables.doze.Goals as goal

pub invariant_of-self : goal.invariant_of-self
invariant_of-self c =
    (marked c.self.inside.limits c.self.inside.threads.items c.self.inside.cpus.items c.index.result c.args.cpu c.index_mut.result.now c.args.self.now (Some 0) true refl c.self.invariant c.self.view_is c.index.ensures c.requires.there c.index_mut.ensures.value).0

pub returns-clause-shown : goal.returns-clause-shown
returns-clause-shown c n =
    (marked c.self.inside.limits c.self.inside.threads.items c.self.inside.cpus.items c.index.result c.args.cpu c.index_mut.result.now c.args.self.now (Some n) true refl c.self.invariant c.self.view_is c.index.ensures c.requires.there c.index_mut.ensures.value).1
