use Rattle.std.proofs.Common.{◌≡◌, unwrap_or}
use Rattle.std.specs.BTreeMap.{get}
use Rattle.std.specs.Ordering.{nat_cmp}
use Rattle.pc_queue.proofs.Count.{sets_count}
use Rattle.pc_queue.proofs.counts.raise.Goals as goal

pub returns-clause-ok : goal.returns-clause-ok
returns-clause-ok c =
    let e : c.unwrap_or-count.result ≡ unwrap_or (get nat_cmp c.args.held.now c.args.thread) 0 = cc in
    rw (← e) (sets_count c.args.held.now c.insert.new.self c.args.thread _ c.in_ok-insert.ensures.updates.0)
