use Rattle.std.proofs.Common.{◌<◌, length, inl, inr}
use Rattle.std.proofs.lemmas.Bool.{cases_lt}
use Rattle.pc_kernel.proofs.PostAt.{is_posted}
use Rattle.pc_kernel.proofs.cpus.post.Goals as goal

pub returns-clause-ok : goal.returns-clause-ok
returns-clause-ok c =
    let e = c.index_mut-entry.result.now in
    let ok = c.in-Ok.ensures in
    let room : length e.queue.items < e.queue.room = elim (cases_lt (length e.queue.items) e.queue.room) [ inl h ↦ h | inr h ↦ absurd (let full = ok.full.1 h in cc) ] in
    let posts : e.queue.posts < e.queue.most = elim (cases_lt e.queue.posts e.queue.most) [ inl h ↦ h | inr h ↦ absurd (let spent = ok.spent.1 (room, h) in cc) ] in
    is_posted c.args.cpus.now.items c.rouse-woken.new.cpus.items c.args.queue c.index.result c.args.item e c.post.new.self
    record { aseq = c.aseq-aseq.result; woken = c.rouse-woken.result }
    c.index.ensures c.requires.there c.index_mut-entry.ensures.value room posts ok.ok c.rouse-woken.ensures.count c.rouse-woken.ensures.each c.aseq-aseq.ensures.posts c.rouse-woken.ensures.woken
