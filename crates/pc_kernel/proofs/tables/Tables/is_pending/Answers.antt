use Rattle.std.proofs.Common.{◌∙◌, ◌-◌, nat_lt, sym, ap, arith}
use Rattle.std.proofs.lemmas.List.{length-map}
use Rattle.pc_kernel.specs.Inner.Entries.{row_of}
use Rattle.pc_kernel.proofs.PostRefused.{home_there, held_in_posts, pending_read}
use Rattle.pc_kernel.proofs.tables.Tables.is_pending.Goals as goal

pub index-requires-3 : goal.index-requires-3
index-requires-3 c =
    let k = c.self.inside in
    let there = home_there k.limits k.threads.items k.cpus.items c.index.result c.args.thread c.home.result c.index-entry.result.now c.args.self.now c.self.invariant c.self.view_is c.index.ensures c.requires c.index-entry.ensures c.home.ensures in
    let count = sym (length-map k.cpus.items row_of) ∙ c.self.invariant.kernel.sound.cpus in
    omega (arith, there, count, c.index-2.ensures)

pub overflow_sub-gone : goal.overflow_sub-gone
overflow_sub-gone c =
    let k = c.self.inside in
    let there = home_there k.limits k.threads.items k.cpus.items c.index.result c.args.thread c.home.result c.index-entry.result.now c.args.self.now c.self.invariant c.self.view_is c.index.ensures c.requires c.index-entry.ensures c.home.ensures in
    let held = held_in_posts k.limits k.threads.items k.cpus.items c.index-2.result c.home.result c.index-3.result.now c.self.invariant c.index-2.ensures there c.index-3.ensures in
    omega (arith, held, c.aseq.ensures.posts, c.len.ensures.items)

pub returns : goal.returns
returns c =
    let k = c.self.inside in
    let gone = c.aseq.result - c.len.result in
    ap (nat_lt gone) c.last_post.ensures
    ∙ pending_read k.limits k.threads.items k.cpus.items c.index.result c.args.thread c.index-entry.result.now c.index-2.result gone c.index-3.result.now c.args.self.now c.self.invariant c.self.view_is c.index.ensures c.requires c.index-entry.ensures
    (c.index-2.ensures ∙ c.home.ensures) c.index-3.ensures (λ i. c.aseq.ensures.posts i - c.len.ensures.items i)
