use Rattle.std.proofs.Common.{subst, sym, ap, arith, ◌≡◌, ◌∙◌, ◌+◌, ◌<◌, ◌≤◌, ◌≢◌, List, ℕ}
use Rattle.std.proofs.lemmas.Bool.{false≢true}
use Rattle.pc_messages.specs.declared.kind.Kind.{Kind}
use Rattle.pc_thread_view.specs.Inner.Held.{told}
use Rattle.pc_thread_view.specs.Told.{RiseAbove}
use Rattle.pc_thread_view.specs.Inner.Taking.{Gains, IsPlace}
use Rattle.pc_thread_view.proofs.Gaining.{rise_from}
use Rattle.pc_thread_view.proofs.Settling.{next_loose, next_gains}
use Rattle.pc_thread_view.proofs.Places.{gains_insert, lacks_told, next_lacks}
use Rattle.pc_thread_view.proofs.held.take_one.Goals as goal

-- between the two
past : (n m u : ℕ) → u ≡ m → u + 1 ≤ n → n ≢ u + 1 → m + 1 < n
past n m u k h e = omega arith

pub settle-requires : goal.settle-requires
settle-requires c = next_loose c.args.held.now.prefix.upto c.args.number c.take.new.self.upto c.args.held.now.prefix.state c.take.new.self.state c.args.held.now.early.items c.args.kind c.requires.sound c.requires.well_formed (c.if-number-next-2.true ∙ ap (λ n. n + 1) c.upto-next.ensures) c.take.ensures.upto c.take.ensures.some

pub returns-then-number-next-2-clause-ok : goal.returns-then-number-next-2-clause-ok
returns-then-number-next-2-clause-ok c = next_gains c.args.held.now.prefix.upto c.args.number c.take.new.self.upto c.args.held.now.prefix.state c.take.new.self.state c.args.held.now.early.items c.args.kind c.requires.sound c.requires.well_formed (c.if-number-next-2.true ∙ ap (λ n. n + 1) c.upto-next.ensures) c.take.ensures.upto c.take.ensures.some (told c.settle.new.held) c.take.ensures.folded c.settle.ensures

pub place_of-requires : goal.place_of-requires
place_of-requires c = subst (RiseAbove 0) (sym c.as_slice.ensures) (rise_from (c.args.held.now.prefix.upto + 1) 0 c.args.held.now.early.items (omega arith) c.requires.sound.gap)

pub returns-clause-ok : goal.returns-clause-ok
returns-clause-ok c =
    let early = c.args.held.now.early.items in
    let P : List (ℕ × Kind) → Type 0 = λ es. Gains (told c.args.held.now) c.args.number c.args.kind (record { upto = c.args.held.now.prefix.upto; state = c.args.held.now.prefix.state; early = es }) in
    subst P (sym c.in_ok-insert.ensures.ok)
    (gains_insert c.args.held.now.prefix.upto c.args.held.now.prefix.state early c.args.number c.in-Some.place c.args.kind c.requires.sound c.requires.well_formed (past c.args.number c.args.held.now.prefix.upto c.upto-next.result c.upto-next.ensures c.if-number-next.false c.if-number-next-2.false)
    (subst (λ es. IsPlace es c.args.number c.in-Some.place) c.as_slice.ensures c.in-Some.ensures))

pub returns-then-number-next-2-clause-known : goal.returns-then-number-next-2-clause-known
returns-then-number-next-2-clause-known c t = absurd (false≢true (sym (next_lacks (told c.args.held.now) c.args.number c.requires.sound (c.if-number-next-2.true ∙ ap (λ n. n + 1) c.upto-next.ensures)) ∙ t))

pub returns-in_err-insert-clause-known_succeeds : goal.returns-in_err-insert-clause-known_succeeds
returns-in_err-insert-clause-known_succeeds c t =
    absurd (false≢true (sym (lacks_told (told c.args.held.now) c.args.number c.in-Some.place (past c.args.number c.args.held.now.prefix.upto c.upto-next.result c.upto-next.ensures c.if-number-next.false c.if-number-next-2.false)
    (subst (λ es. IsPlace es c.args.number c.in-Some.place) c.as_slice.ensures c.in-Some.ensures)) ∙ t))

pub returns-clause-known : goal.returns-clause-known
returns-clause-known c t =
    absurd (false≢true (sym (lacks_told (told c.args.held.now) c.args.number c.in-Some.place (past c.args.number c.args.held.now.prefix.upto c.upto-next.result c.upto-next.ensures c.if-number-next.false c.if-number-next-2.false)
    (subst (λ es. IsPlace es c.args.number c.in-Some.place) c.as_slice.ensures c.in-Some.ensures)) ∙ t))
