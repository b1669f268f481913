use Rattle.std.proofs.Common.{Some, None, sym, ◌∙◌, ap}
use Rattle.pc_queue.specs.declared.fault.QueueFault.TheVariants.{QueueFull, PostsSpent}
use Rattle.pc_kernel.specs.Inner.LastPosts.{thread_rows}
use Rattle.pc_kernel.proofs.PostRefused.{queue_refused}
use Rattle.pc_kernel.proofs.tables.Tables.queue_fault.Goals as goal

pub returns-in-None : goal.returns-in-None
returns-in-None c =
    queue_refused c.self.inside.limits (thread_rows c.self.inside.threads.items) c.self.inside.cpus.items c.index.result c.args.queue c.index-2.result.now c.args.self.now None c.self.invariant.kernel c.self.view_is c.index.ensures c.requires c.index-2.ensures c.in-None.ensures

pub returns-in-Some-QueueFull : goal.returns-in-Some-QueueFull
returns-in-Some-QueueFull c =
    queue_refused c.self.inside.limits (thread_rows c.self.inside.threads.items) c.self.inside.cpus.items c.index.result c.args.queue c.index-2.result.now c.args.self.now (Some QueueFull) c.self.invariant.kernel c.self.view_is c.index.ensures c.requires c.index-2.ensures
    (ap (λ e. Some e) (sym c.in-Some-QueueFull.field-0-is) ∙ c.in-Some-QueueFull.ensures)

pub returns-in-Some-PostsSpent : goal.returns-in-Some-PostsSpent
returns-in-Some-PostsSpent c =
    queue_refused c.self.inside.limits (thread_rows c.self.inside.threads.items) c.self.inside.cpus.items c.index.result c.args.queue c.index-2.result.now c.args.self.now (Some PostsSpent) c.self.invariant.kernel c.self.view_is c.index.ensures c.requires c.index-2.ensures
    (ap (λ e. Some e) (sym c.in-Some-PostsSpent.field-0-is) ∙ c.in-Some-PostsSpent.ensures)
