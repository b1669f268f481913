use Rattle.std.proofs.Common.{None, subst}
use Rattle.pc_kernel.specs.Inner.Entries.{rows}
use Rattle.pc_kernel.specs.Inner.LastPosts.{thread_rows}
use Rattle.pc_kernel.specs.Rows.{KernelRows}
use Rattle.pc_kernel.specs.Inner.Sends.{Sends, ticking}
use Rattle.pc_kernel.proofs.Grows.{are_targets}
use Rattle.pc_kernel.proofs.TickSent.{tables_ticked, tick_sends}
use Rattle.pc_kernel.proofs.tables.Tables.post_tick.Goals as goal

pub post-requires-clause-targets : goal.post-requires-clause-targets
post-requires-clause-targets c = are_targets c.self.inside.limits (thread_rows c.self.inside.threads.items) c.self.inside.cpus.items c.self.invariant.kernel

pub invariant_of-self-2 : goal.invariant_of-self-2
invariant_of-self-2 c =
    let k = c.self.inside in
    tables_ticked k.limits k.threads.items k.cpus.items c.post.new.cpus.items c.args.cpu c.in_ok-landing.landing c.self.invariant c.in_ok-landing.ensures.ok

pub returns-clause-ok : goal.returns-clause-ok
returns-clause-ok c =
    let k = c.self.inside in
    let it = c.in_ok-landing.landing in
    subst (λ (old : KernelRows). Sends (λ P. ticking P c.args.cpu) record { thread = None; number = None; queue = c.args.cpu; aseq = it.aseq; woken = it.woken } old (rows k.limits (thread_rows k.threads.items) c.post.new.cpus.items)) c.self.view_is
    (tick_sends k.limits (thread_rows k.threads.items) k.cpus.items c.post.new.cpus.items c.args.cpu it c.self.invariant.kernel c.in_ok-landing.ensures.ok)
