use Rattle.std.proofs.Common.{ℕ, List, ◌≡◌, subst, sym, ap, ◌∙◌, arith, ◌≢◌, ◌+◌}
use Rattle.pc_messages.specs.declared.kind.Kind.{Kind}
use Rattle.pc_thread_view.specs.Inner.Taking.{Gains, NoneAbove}
use Rattle.pc_thread_view.specs.Told.{RiseAbove, is_early}
use Rattle.pc_thread_view.proofs.Gaining.{gains_next, gains_push, none_push, rise_from}
use Rattle.pc_thread_view.proofs.held.append.Goals as goal

pub returns-then-number-upto-2-clause-ok : goal.returns-then-number-upto-2-clause-ok
returns-then-number-upto-2-clause-ok c =
    gains_next c.args.held.now.prefix.upto c.take.new.self.upto c.args.held.now.prefix.state c.take.new.self.state c.args.held.now.early.items c.args.number c.args.kind c.requires.sound c.requires.well_formed (c.if-number-upto-2.true ∙ ap (λ n. n + 1) c.upto-upto.ensures) c.take.ensures.upto c.requires.last c.take.ensures.some c.take.ensures.folded

pub ends_with-requires-clause-rise : goal.ends_with-requires-clause-rise
ends_with-requires-clause-rise c = subst (RiseAbove 0) (sym c.as_slice.ensures) (rise_from (c.args.held.now.prefix.upto + 1) 0 c.args.held.now.early.items (omega arith) c.requires.sound.gap)

pub returns-clause-ok : goal.returns-clause-ok
returns-clause-ok c =
    let early = c.args.held.now.early.items in
    let P : List (ℕ × Kind) → Type 0 = λ es. Gains (record { upto = c.args.held.now.prefix.upto; state = c.args.held.now.prefix.state; early = early }) c.args.number c.args.kind (record { upto = c.args.held.now.prefix.upto; state = c.args.held.now.prefix.state; early = es }) in
    subst P (sym c.in_ok-push.ensures.ok)
    (gains_push c.args.held.now.prefix.upto c.args.held.now.prefix.state early c.args.number c.args.kind c.requires.sound c.requires.well_formed (let h = c.if-number-upto.false in let g : c.args.number ≢ c.upto-upto.result + 1 = c.if-number-upto-2.false in let e : c.upto-upto.result ≡ c.args.held.now.prefix.upto = c.upto-upto.ensures in omega arith) c.requires.last
    (sym (ap (λ es. is_early es c.args.number) c.as_slice.ensures) ∙ sym c.ends_with.ensures ∙ c.if-ends_with.false))

pub returns-clause-last : goal.returns-clause-last
returns-clause-last c = subst (NoneAbove c.args.number) (sym c.in_ok-push.ensures.ok) (none_push c.args.number c.args.held.now.early.items _ c.requires.last (omega arith))
