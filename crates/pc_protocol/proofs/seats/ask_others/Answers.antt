use Rattle.std.proofs.Common.{◌≡◌, ◌∙◌, ◌<◌, ◌+◌, length, set, refl, sym, ap, subst, arith}
use Rattle.pc_view.specs.Views.{pairs_of}
use Rattle.pc_protocol.specs.Seats.{AsksBelow}
use Rattle.pc_protocol.specs.declared.seats.Note.TheVariants as kept
use Rattle.pc_protocol.proofs.Seated.{asks_all, asks_next, asks_none, asks_on, is_told, length_set, seat_at}
use Rattle.pc_protocol.proofs.seats.ask_others.Goals.{then-place-index+in_ok-question+in_ok-push, else-place-index}
use Rattle.pc_protocol.proofs.seats.ask_others.Goals as goal

pub loop-place-init : goal.loop-place-init
loop-place-init c = (refl, asks_none c.args.cpu (pairs_of c.args.view.now) c.args.seats.now.items)

pub loop-place-preserved : goal.loop-place-preserved
loop-place-preserved c = elim c.if-place-index.branch [
  | then-place-index+in_ok-question+in_ok-push w ↦
      let first = c.args.seats.now.items in
      let seats = c.loop-place.seats.items in
      let place = c.loop-place.place in
      let known = pairs_of c.args.view.now in
      let seat = w.index_mut.result.now in
      let below = c.loop-place-test.true in
      let many = c.len-place-end.ensures in
      let ok = c.args.seats.now.ok in
      let same = c.loop-place.invariant.0 in
      let low : place < length seats = omega arith in
      let tells = is_told seats place seat low (seat_at seats place seat seat low w.index_mut.ensures.value) w.push.new.self (kept.Asks c.args.cpu w.in_ok-question.question) w.in_ok-push.ensures.items in
      let new = set seats place (record seat { notes = w.push.new.self }) in
      let is : c.if-place-index.seats.items ≡ new = ap (λ v. v.items) w.seats-is in (
        ap length is ∙ length_set seats place (record seat { notes = w.push.new.self }) ∙ same,
        subst (AsksBelow (place + 1) c.args.cpu known first) (sym is)
            (asks_next c.args.cpu known first place seats new (kept.Asks c.args.cpu w.in_ok-question.question) (λ e. w.if-place-index.true (e ∙ sym c.index.ensures))
            (λ asked h. (refl, λ m. w.in_ok-question.ensures m ∙ h m)) tells c.loop-place.invariant.1),
      )
  | else-place-index w ↦
      let is = ap (λ v. v.items) w.seats-is in
      let self : c.loop-place.place ≡ c.args.cpu = w.if-place-index.false ∙ c.index.ensures in (
        ap length is ∙ c.loop-place.invariant.0,
        subst (AsksBelow (c.loop-place.place + 1) c.args.cpu (pairs_of c.args.view.now) c.args.seats.now.items) (sym is)
            (asks_on c.args.cpu (pairs_of c.args.view.now) c.args.seats.now.items c.loop-place.place c.loop-place.seats.items self c.loop-place.invariant.1),
      )
]

pub returns-clause-asks : goal.returns-clause-asks
returns-clause-asks c =
    let past = c.loop-place-test.false in
    let many = c.len-place-end.ensures in
    let ok = c.args.seats.now.ok in
    let same = c.loop-place.invariant.0 in
    asks_all c.args.cpu (pairs_of c.args.view.now) c.args.seats.now.items c.loop-place.place c.loop-place.seats.items (omega arith) c.loop-place.invariant.1
