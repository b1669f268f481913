use Rattle.std.proofs.Common.{◌∙◌, sym, arith}
use Rattle.pc_thread_view.proofs.Settling.{absorbs_next, absorbs_known}
use Rattle.pc_thread_view.proofs.held.absorb.Goals as goal

pub returns-then-number-upto-2-clause-done : goal.returns-then-number-upto-2-clause-done
returns-then-number-upto-2-clause-done c t =
    absorbs_known c.args.held.now.prefix.upto c.args.held.now.prefix.state c.args.held.now.early.items c.in-Some.field-0-1.now c.leave_first.new.self.items c.in-Some.first.now c.requires
    (sym c.as_slice.ensures ∙ c.in-Some.ensures.cases.0) c.leave_first.ensures (omega (arith, c.upto-upto.ensures, c.if-number-upto-2.true))

pub returns-clause-done : goal.returns-clause-done
returns-clause-done c t =
    absorbs_next c.args.held.now.prefix.upto c.take.new.self.upto c.args.held.now.prefix.state c.take.new.self.state c.args.held.now.early.items c.in-Some.field-0-1.now c.leave_first-2.new.self.items c.in-Some.first.now c.requires
    (sym c.as_slice.ensures ∙ c.in-Some.ensures.cases.0) c.leave_first-2.ensures (omega (arith, c.upto-upto.ensures, c.if-number-upto.false, c.if-number-upto-2.false)) c.take.ensures.upto c.take.ensures.some c.take.ensures.folded
