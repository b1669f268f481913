use Rattle.std.proofs.Common.{subst, sym}
use Rattle.pc_thread_view.specs.Told.{IsOfThread}
use Rattle.pc_thread_view.specs.Inner.Held.{told}
use Rattle.pc_thread_view.proofs.Taking.{took, source_taking}
use Rattle.pc_thread_view.proofs.held.merge.Goals as goal

pub returns-in-None-clause-of_source : goal.returns-in-None-clause-of_source
returns-in-None-clause-of_source c = source_taking (told c.args.joined.now) c.args.first.now c.args.other.now (told c.turns.joined) c.turns.left.now c.turns.right.now c.turns.invariant

pub returns-in_err-append-in-Some-clause-of_source : goal.returns-in_err-append-in-Some-clause-of_source
returns-in_err-append-in-Some-clause-of_source c = λ s a b d. subst (λ v. IsOfThread v s) (sym c.in_err-append-in-Some.ensures.err) (source_taking (told c.args.joined.now) c.args.first.now c.args.other.now (told c.turns.joined) c.turns.left.now c.turns.right.now c.turns.invariant s a b d)

pub turns-preserved : goal.turns-preserved
turns-preserved c = took (told c.args.joined.now) c.args.first.now c.args.other.now (told c.turns.joined) (told c.append.new.held) c.in-Some.turn.entry c.in_ok-append-in-Some.ensures.ok c.in_ok-append-in-Some.ensures.last c.turns.left.now c.turns.right.now c.in-Some.turn.first.now c.in-Some.turn.other.now c.turns.invariant c.in-Some.ensures
