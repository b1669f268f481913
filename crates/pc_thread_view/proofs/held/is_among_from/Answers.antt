use Rattle.std.proofs.Common.{sym, subst, take, drop, take-append-drop}
use Rattle.pc_thread_view.specs.Told.{RiseAbove}
use Rattle.pc_thread_view.specs.Inner.Taking.{AreBelow}
use Rattle.pc_thread_view.proofs.Places.{rise_take, rise_drop, lacks}
use Rattle.pc_thread_view.proofs.held.is_among_from.Goals as goal

pub is_after_all-requires : goal.is_after_all-requires
is_after_all-requires c =
    let early = c.args.early.now in
    let near = c.near_place-near.result in
    subst (RiseAbove 0) (sym c.split_at.ensures.front) (rise_take 0 (take near early) (drop near early) (subst (RiseAbove 0) (sym (take-append-drop near early)) c.requires))

pub is_before_all-requires : goal.is_before_all-requires
is_before_all-requires c = subst (RiseAbove 0) (sym c.split_at.ensures.back) (rise_drop 0 c.args.early.now c.near_place-near.result c.requires)

pub returns-then-is_before_all : goal.returns-then-is_before_all
returns-then-is_before_all c = sym (lacks c.args.early.now c.args.number c.near_place-near.result (record {
  fits = c.near_place-near.ensures;
  before = subst (AreBelow c.args.number) c.split_at.ensures.front (c.is_after_all.ensures c.if-is_after_all.true);
  after = subst (RiseAbove c.args.number) c.split_at.ensures.back (c.is_before_all.ensures c.if-is_before_all.true);
}))
