use Rattle.pc_kernel.proofs.Marked.{cut}
use Rattle.pc_kernel.proofs.tables.Tables.cut.Goals as goal

pub invariant_of-self : goal.invariant_of-self
invariant_of-self c =
    (cut c.consume.result c.self.inside.limits c.self.inside.threads.items c.self.inside.cpus.items c.index.result c.args.cpu c.args.count c.index_mut-entry.result.now c.consume.new.self c.args.self.now c.self.invariant c.self.view_is c.index.ensures c.requires.there c.index_mut-entry.ensures.value c.requires.few c.consume.ensures.too_many c.consume.ensures.ok).0

pub returns-clause-shown : goal.returns-clause-shown
returns-clause-shown c =
    (cut c.consume.result c.self.inside.limits c.self.inside.threads.items c.self.inside.cpus.items c.index.result c.args.cpu c.args.count c.index_mut-entry.result.now c.consume.new.self c.args.self.now c.self.invariant c.self.view_is c.index.ensures c.requires.there c.index_mut-entry.ensures.value c.requires.few c.consume.ensures.too_many c.consume.ensures.ok).1
