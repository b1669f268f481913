use Rattle.std.proofs.Common.{Some, subst}
use Rattle.pc_join.specs.ByName.{value_at}
use Rattle.pc_join.specs.Inner.Near.{IsIndex, found_by}
use Rattle.pc_join.specs.Inner.Puts.{IsPut, IsWholeAt}
use Rattle.pc_join.proofs.Puts.{OnOk_then}
use Rattle.pc_join.proofs.Trees.{put_as, whole_as}
use Rattle.pc_join.proofs.Indexed.{shown_by, shown_now, are_near, near_now}
use Rattle.pc_join.proofs.near.Near.join.Goals as goal

pub returns-then-place-eq0-clause-put : goal.returns-then-place-eq0-clause-put
returns-then-place-eq0-clause-put g c = put_as (found_by c.self.inside.places.items c.self.inside.entries.items) (found_by c.start_at.new.places.items c.start_at.new.entries.items) (value_at c.args.self.now) (value_at _)
    (shown_now c.self.inside.places.items c.self.inside.entries.items c.args.self.now c.self.view_is c.self.invariant) (shown_by c.start_at.new.places.items c.start_at.new.entries.items c.start_at.ensures.index)
    c.args.name c.args.value.now g.V.Join.known g.V.Join.is_of (subst (λ v. IsPut g.V.Join.known g.V.Join.is_of (found_by c.self.inside.places.items c.self.inside.entries.items) c.args.name v (found_by c.start_at.new.places.items c.start_at.new.entries.items)) c.in_ok-copy.ensures c.start_at.ensures.put)

pub returns-then-place-eq0-clause-whole : goal.returns-then-place-eq0-clause-whole
returns-then-place-eq0-clause-whole g c = OnOk_then c.start_at.result c.start_at.ensures.whole
    (λ w. whole_as (found_by c.self.inside.places.items c.self.inside.entries.items) (found_by c.start_at.new.places.items c.start_at.new.entries.items) (value_at c.args.self.now) (value_at _)
    (shown_now c.self.inside.places.items c.self.inside.entries.items c.args.self.now c.self.view_is c.self.invariant) (shown_by c.start_at.new.places.items c.start_at.new.entries.items c.start_at.ensures.index)
    c.args.name c.args.value.now g.V.Join.known g.V.Join.is_of (subst (λ v. IsWholeAt g.V.Join.known (found_by c.self.inside.places.items c.self.inside.entries.items c.args.name) (Some v) (found_by c.start_at.new.places.items c.start_at.new.entries.items c.args.name)) c.in_ok-copy.ensures w))

pub returns-then-place-eq0-clause-near : goal.returns-then-place-eq0-clause-near
returns-then-place-eq0-clause-near g c = are_near c.start_at.new.places.items c.start_at.new.entries.items c.start_at.ensures.index

pub returns-clause-put : goal.returns-clause-put
returns-clause-put g c = put_as (found_by c.self.inside.places.items c.self.inside.entries.items) (found_by c.self.inside.places.items c.join_at.new.entries.items) (value_at c.args.self.now) (value_at _)
    (shown_now c.self.inside.places.items c.self.inside.entries.items c.args.self.now c.self.view_is c.self.invariant) (shown_by c.self.inside.places.items c.join_at.new.entries.items (subst (λ ps. IsIndex ps c.join_at.new.entries.items) c.as_slice-2.ensures.value c.join_at.ensures.index))
    c.args.name c.args.value.now g.V.Join.known g.V.Join.is_of (subst (λ ps. IsPut g.V.Join.known g.V.Join.is_of (found_by ps c.self.inside.entries.items) c.args.name c.args.value.now (found_by ps c.join_at.new.entries.items)) c.as_slice-2.ensures.value c.join_at.ensures.put)

pub returns-clause-whole : goal.returns-clause-whole
returns-clause-whole g c = OnOk_then c.join_at.result c.join_at.ensures.whole
    (λ w. whole_as (found_by c.self.inside.places.items c.self.inside.entries.items) (found_by c.self.inside.places.items c.join_at.new.entries.items) (value_at c.args.self.now) (value_at _)
    (shown_now c.self.inside.places.items c.self.inside.entries.items c.args.self.now c.self.view_is c.self.invariant) (shown_by c.self.inside.places.items c.join_at.new.entries.items (subst (λ ps. IsIndex ps c.join_at.new.entries.items) c.as_slice-2.ensures.value c.join_at.ensures.index))
    c.args.name c.args.value.now g.V.Join.known g.V.Join.is_of (subst (λ ps. IsWholeAt g.V.Join.known (found_by ps c.self.inside.entries.items c.args.name) (Some c.args.value.now) (found_by ps c.join_at.new.entries.items c.args.name)) c.as_slice-2.ensures.value w))

pub returns-clause-near : goal.returns-clause-near
returns-clause-near g c = are_near c.self.inside.places.items c.join_at.new.entries.items (subst (λ ps. IsIndex ps c.join_at.new.entries.items) c.as_slice-2.ensures.value c.join_at.ensures.index)

pub returns-in_err-copy-clause-near : goal.returns-in_err-copy-clause-near
returns-in_err-copy-clause-near g c = near_now c.self.inside.places.items c.self.inside.entries.items c.args.self.now c.self.view_is c.self.invariant
