use Rattle.std.proofs.Common.{◌<◌, subst}
use Rattle.pc_kernel.specs.Rows.{KernelRows}
use Rattle.pc_kernel.proofs.PostRefused.{home_there, post_refused}
use Rattle.pc_kernel.proofs.tables.Tables.post_fault.Goals as goal

pub queue_fault-requires : goal.queue_fault-requires
queue_fault-requires c =
    let k = c.self.inside in
    subst (λ (k : KernelRows). c.home.result < k.limits.cpus) c.self.view_is
    (home_there k.limits k.threads.items k.cpus.items c.index.result c.args.thread c.home.result c.index-entry.result.now c.args.self.now c.self.invariant c.self.view_is c.index.ensures c.requires c.index-entry.ensures c.home.ensures)

pub returns : goal.returns
returns c =
    post_refused c.self.inside.limits c.self.inside.threads.items c.self.inside.cpus.items c.index.result c.args.thread c.number.result c.home.result c.index-entry.result.now c.args.self.now c.queue_fault.result c.self.view_is c.index.ensures c.requires c.index-entry.ensures
    c.number.ensures.number c.if-number-self.false c.home.ensures c.queue_fault.ensures
