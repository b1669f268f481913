use Rattle.std.proofs.Common.{◌+◌, drop}
use Rattle.pc_delta.proofs.Gathering.{gathering_start, gathering_on, gathering_done, next_entry, no_entry_left}
use Rattle.pc_delta.proofs.digest.known_numbers.Goals as goal

pub loop-entry-init : goal.loop-entry-init
loop-entry-init c = gathering_start c.args.held.now c.early-entry-items.result.now c.upto.result c.in_ok-numbers.numbers c.early-entry-items.ensures.value c.upto.ensures.value c.upto.ensures.sound c.in_ok-numbers.ensures.same c.in_ok-numbers.ensures.apart

pub insert-requires : goal.insert-requires
insert-requires c = (next_entry c.args.held.now c.early-entry-items.result.now c.loop-entry.entry-index c.entry-item.result c.loop-entry.numbers c.entry-item.is c.loop-entry-test.true c.loop-entry.invariant).rise.0

pub loop-entry-preserved : goal.loop-entry-preserved
loop-entry-preserved c = gathering_on c.args.held.now c.entry-item.result (drop (c.loop-entry.entry-index + 1) c.early-entry-items.result.now) c.loop-entry.numbers c.insert.new.self
    (next_entry c.args.held.now c.early-entry-items.result.now c.loop-entry.entry-index c.entry-item.result c.loop-entry.numbers c.entry-item.is c.loop-entry-test.true c.loop-entry.invariant)
    c.in_ok-insert.ensures.union c.insert.ensures.apart

pub returns-clause-same : goal.returns-clause-same
returns-clause-same c = gathering_done c.args.held.now c.loop-entry.numbers (no_entry_left c.args.held.now c.early-entry-items.result.now c.loop-entry.entry-index c.loop-entry.numbers c.loop-entry-test.false c.loop-entry.invariant)

pub returns-clause-apart : goal.returns-clause-apart
returns-clause-apart c = c.loop-entry.invariant.apart
