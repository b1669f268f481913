use Rattle.std.proofs.Common.{◌+◌, ◌<◌, ◌≤◌, ◌≡◌, ◌^◌, length, take, sym, ap, ◌∙◌, subst, arith, ◌++◌, ◌∷◌, []}
use Rattle.std.proofs.lemmas.List.{take_more}
use Rattle.std.proofs.lemmas.List.Sums.{sum_by_more_le}
use Rattle.pc_messages.specs.State.{state_of, ran_given, ran_of}
use Rattle.pc_messages.proofs.States.{parts_of}
use Rattle.pc_view.proofs.Audits.{first_taken}
use Rattle.pc_view.proofs.auditing.state_of_first.Goals as goal

pub loop-place-init : goal.loop-place-init
loop-place-init c =
    let some : 0 < length c.args.history.now = omega (arith, c.requires.within, c.if-count-eq0.false) in
    ap state_of (first_taken c.args.history.now c.index-history-0.result some c.index-history-0.is) ∙ sym c.first.ensures ∙ c.in_ok-state.was

pub apply-state-requires : goal.apply-state-requires
apply-state-requires c =
    let less : c.loop-place.place < length c.args.history.now = omega (arith, c.requires.within, c.loop-place-test.true) in
    let so_far : ran_of (take c.loop-place.place c.args.history.now) ≡ c.loop-place.state.ran = (parts_of (take c.loop-place.place c.args.history.now) c.loop-place.state c.loop-place.invariant).ran in
    let sum = sum_by_more_le ran_given c.args.history.now c.loop-place.place c.index-history-place.result less in
    let sum_here : ran_of (take c.loop-place.place c.args.history.now) + ran_given c.index-history-place.result ≤ ran_of c.args.history.now = subst (λ k. ran_of (take c.loop-place.place c.args.history.now) + ran_given k ≤ ran_of c.args.history.now) (sym c.index-history-place.is) sum in
    let fits : ran_of c.args.history.now < 2 ^ 64 = c.requires.ran in
    omega (arith, so_far, sum_here, fits)

pub loop-place-preserved : goal.loop-place-preserved
loop-place-preserved c =
    let less : c.loop-place.place < length c.args.history.now = omega (arith, c.requires.within, c.loop-place-test.true) in
    ap state_of (take_more c.args.history.now c.loop-place.place c.index-history-place.result less ∙ ap (λ k. take c.loop-place.place c.args.history.now ++ k ∷ []) (sym c.index-history-place.is))
    ∙ c.apply-state.ensures.folded (take c.loop-place.place c.args.history.now) c.loop-place.invariant

pub returns : goal.returns
returns c =
    let at : c.loop-place.place ≡ c.args.count = omega (arith, c.loop-place.auto.place-end, c.loop-place-test.false, c.if-count-eq0.false) in
    sym c.loop-place.invariant ∙ ap (λ n. state_of (take n c.args.history.now)) at
