use Rattle.std.proofs.Common.{rules, ◌≡◌, ◌∷◌, [], ◌++◌, length}
use Rattle.pc_kernel.specs.Inner.LastPosts.{thread_rows}
use Rattle.pc_kernel.proofs.Grows.{are_targets}
use Rattle.pc_kernel.proofs.Added.{first_thread, pushed_thread, tables_add, sends_add, extends_add}
use Rattle.pc_kernel.proofs.tables.Tables.add.Goals as goal

pub post-requires-clause-targets : goal.post-requires-clause-targets
post-requires-clause-targets c = are_targets c.self.inside.limits (thread_rows c.self.inside.threads.items) c.self.inside.cpus.items c.self.invariant.kernel

pub invariant_of-self-2 : goal.invariant_of-self-2
invariant_of-self-2 c =
    let k = c.self.inside in
    let now : c.push.new.rows.items ≡ k.threads.items ++ first_thread c.args.queue c.args.kind c.in_ok-landing.landing.aseq ∷ [] =
    pushed_thread k.threads.items _ _ _ _ _ _ _ c.reserve.ensures.items c.in_ok-entry.ensures c.set_last_post.ensures c.push.ensures in
    let len : c.len.result ≡ length k.threads.items = search rules in
    tables_add k.limits k.threads.items c.push.new.rows.items k.cpus.items c.post.new.cpus.items c.args.queue c.len.result c.args.kind c.in_ok-landing.landing c.args.self.now c.self.invariant c.self.view_is len now c.in_ok-landing.ensures.ok
    c.requires.there c.requires.names c.requires.first

pub returns-clause-ok : goal.returns-clause-ok
returns-clause-ok c =
    let k = c.self.inside in
    let now : c.push.new.rows.items ≡ k.threads.items ++ first_thread c.args.queue c.args.kind c.in_ok-landing.landing.aseq ∷ [] =
    pushed_thread k.threads.items _ _ _ _ _ _ _ c.reserve.ensures.items c.in_ok-entry.ensures c.set_last_post.ensures c.push.ensures in
    let len : c.len.result ≡ length k.threads.items = search rules in
    sends_add k.limits k.threads.items c.push.new.rows.items k.cpus.items c.post.new.cpus.items c.args.queue c.len.result c.args.kind c.in_ok-landing.landing c.args.self.now c.self.invariant c.self.view_is len now c.in_ok-landing.ensures.ok

pub returns-clause-extends : goal.returns-clause-extends
returns-clause-extends c =
    let k = c.self.inside in
    let now : c.push.new.rows.items ≡ k.threads.items ++ first_thread c.args.queue c.args.kind c.in_ok-landing.landing.aseq ∷ [] =
    pushed_thread k.threads.items _ _ _ _ _ _ _ c.reserve.ensures.items c.in_ok-entry.ensures c.set_last_post.ensures c.push.ensures in
    extends_add k.limits k.threads.items c.push.new.rows.items k.cpus.items c.args.queue c.args.kind c.in_ok-landing.landing.aseq c.args.self.now c.self.view_is now
