use Rattle.std.proofs.Common.{◌≡◌, None, Some, subst, sym, ◌∙◌}
use Rattle.pc_join.specs.ByName.{value_at}
use Rattle.pc_join.specs.Inner.Near.{IsIndex, found_by}
use Rattle.pc_join.specs.Inner.Puts.{IsPut, IsWholeAt}
use Rattle.pc_join.proofs.Puts.{OnOk_then}
use Rattle.pc_join.proofs.Trees.{put_as, whole_as, fresh_as}
use Rattle.pc_join.proofs.Indexed.{shown_by, shown_now, are_near}
use Rattle.pc_join.proofs.near.Near.put.Goals as goal

pub returns-then-place-eq0-clause-put : goal.returns-then-place-eq0-clause-put
returns-then-place-eq0-clause-put g c = put_as (found_by c.self.inside.places.items c.self.inside.entries.items) (found_by c.start_at.new.places.items c.start_at.new.entries.items) (value_at c.args.self.now) (value_at _)
    (shown_now c.self.inside.places.items c.self.inside.entries.items c.args.self.now c.self.view_is c.self.invariant) (shown_by c.start_at.new.places.items c.start_at.new.entries.items c.start_at.ensures.index)
    c.args.name c.args.value g.V.Join.known g.V.Join.is_of c.start_at.ensures.put

pub returns-then-place-eq0-clause-whole : goal.returns-then-place-eq0-clause-whole
returns-then-place-eq0-clause-whole g c = OnOk_then c.start_at.result c.start_at.ensures.whole
    (λ w. whole_as (found_by c.self.inside.places.items c.self.inside.entries.items) (found_by c.start_at.new.places.items c.start_at.new.entries.items) (value_at c.args.self.now) (value_at _)
    (shown_now c.self.inside.places.items c.self.inside.entries.items c.args.self.now c.self.view_is c.self.invariant) (shown_by c.start_at.new.places.items c.start_at.new.entries.items c.start_at.ensures.index)
    c.args.name c.args.value g.V.Join.known g.V.Join.is_of w)

pub returns-then-place-eq0-clause-fresh : goal.returns-then-place-eq0-clause-fresh
returns-then-place-eq0-clause-fresh g c = λ none. OnOk_then c.start_at.result c.start_at.ensures.fresh
    (λ w. fresh_as (found_by c.self.inside.places.items c.self.inside.entries.items) (found_by c.start_at.new.places.items c.start_at.new.entries.items) (value_at c.args.self.now) (value_at _)
    (shown_now c.self.inside.places.items c.self.inside.entries.items c.args.self.now c.self.view_is c.self.invariant) (shown_by c.start_at.new.places.items c.start_at.new.entries.items c.start_at.ensures.index)
    c.args.name c.args.value w)

pub returns-then-place-eq0-clause-near : goal.returns-then-place-eq0-clause-near
returns-then-place-eq0-clause-near g c = are_near c.start_at.new.places.items c.start_at.new.entries.items c.start_at.ensures.index

pub returns-clause-put : goal.returns-clause-put
returns-clause-put g c = put_as (found_by c.self.inside.places.items c.self.inside.entries.items) (found_by c.self.inside.places.items c.join_at.new.entries.items) (value_at c.args.self.now) (value_at _)
    (shown_now c.self.inside.places.items c.self.inside.entries.items c.args.self.now c.self.view_is c.self.invariant) (shown_by c.self.inside.places.items c.join_at.new.entries.items (subst (λ ps. IsIndex ps c.join_at.new.entries.items) c.as_slice-2.ensures.value c.join_at.ensures.index))
    c.args.name c.args.value g.V.Join.known g.V.Join.is_of (subst (λ ps. IsPut g.V.Join.known g.V.Join.is_of (found_by ps c.self.inside.entries.items) c.args.name c.args.value (found_by ps c.join_at.new.entries.items)) c.as_slice-2.ensures.value c.join_at.ensures.put)

pub returns-clause-whole : goal.returns-clause-whole
returns-clause-whole g c = OnOk_then c.join_at.result c.join_at.ensures.whole
    (λ w. whole_as (found_by c.self.inside.places.items c.self.inside.entries.items) (found_by c.self.inside.places.items c.join_at.new.entries.items) (value_at c.args.self.now) (value_at _)
    (shown_now c.self.inside.places.items c.self.inside.entries.items c.args.self.now c.self.view_is c.self.invariant) (shown_by c.self.inside.places.items c.join_at.new.entries.items (subst (λ ps. IsIndex ps c.join_at.new.entries.items) c.as_slice-2.ensures.value c.join_at.ensures.index))
    c.args.name c.args.value g.V.Join.known g.V.Join.is_of (subst (λ ps. IsWholeAt g.V.Join.known (found_by ps c.self.inside.entries.items c.args.name) (Some c.args.value) (found_by ps c.join_at.new.entries.items c.args.name)) c.as_slice-2.ensures.value w))

pub returns-clause-fresh : goal.returns-clause-fresh
returns-clause-fresh g c = λ none. absurd (c.join_at.ensures.there
    (subst (λ ps. found_by ps c.self.inside.entries.items c.args.name ≡ None) (sym c.as_slice-2.ensures.value) (sym (shown_now c.self.inside.places.items c.self.inside.entries.items c.args.self.now c.self.view_is c.self.invariant c.args.name) ∙ none)))

pub returns-clause-near : goal.returns-clause-near
returns-clause-near g c = are_near c.self.inside.places.items c.join_at.new.entries.items (subst (λ ps. IsIndex ps c.join_at.new.entries.items) c.as_slice-2.ensures.value c.join_at.ensures.index)
