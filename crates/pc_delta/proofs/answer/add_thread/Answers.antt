use Rattle.std.proofs.Common.{[], sym, append-nil}
use Rattle.std.specs.Option.{option_copied}
use Rattle.pc_join.specs.ByName.{known_in}
use Rattle.pc_delta.proofs.Useful.{tell_start, tell_on, tells_none}
use Rattle.pc_delta.proofs.answer.add_thread.Goals as goal

pub loop-entry-init : goal.loop-entry-init
loop-entry-init g c = tell_start c.args.thread c.args.held.now (known_in g.K.Known.known (option_copied c.args.known)) c.args.parts.now.items c.early-entry-items.result.now
    c.folded_part.result c.append.new.items.items c.early-entry-items.ensures.sound c.early-entry-items.ensures.value c.folded_part.ensures c.in_ok-append.ensures

pub loop-entry-preserved : goal.loop-entry-preserved
loop-entry-preserved g c =
    let added = c.in_ok-place.ensures in
    tell_on c.args.thread c.args.held.now (known_in g.K.Known.known (option_copied c.args.known)) c.args.parts.now.items c.early-entry-items.result.now
    c.loop-entry.entry-index c.entry-item.result c.loop-entry.parts.items c.add_early.new.parts.items added.0 c.entry-item.is c.loop-entry-test.true c.loop-entry.invariant added.2 added.1

pub returns-then-has_all : goal.returns-then-has_all
returns-then-has_all g c = ([], sym (append-nil c.args.parts.now.items), tells_none c.args.thread c.args.held.now (known_in g.K.Known.known (option_copied c.args.known)) (c.has_all.ensures c.if-has_all.true))
