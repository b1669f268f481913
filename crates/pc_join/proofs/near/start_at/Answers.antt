use Rattle.std.proofs.Common.{suc, ◌≡◌, ◌∷◌, ◌++◌, ◌∙◌, [], length, set, sym, ap, subst, rules}
use Rattle.pc_join.specs.Inner.Leaves.{IsSetAt}
use Rattle.pc_join.specs.Inner.Near.{IsIndex, found_by}
use Rattle.pc_join.proofs.Puts.{put_new}
use Rattle.pc_join.proofs.Indexed.{index_more, set_more, nothing_by}
use Rattle.pc_join.proofs.near.start_at.Goals as goal
use Rattle.pc_join.proofs.near.start_at.Goals.{After-places-1}

module _ (g : _) (c : After-places-1 g) where
  counted : c.len-2.result ≡ suc (length c.args.entries.now.items)
  counted = let is = c.push_reserved.ensures.len in search rules

  pushed : c.push_reserved.new.self.items ≡ c.args.entries.now.items ++ (c.args.name, c.args.value) ∷ []
  pushed = c.push_reserved.ensures.items ∙ ap (λ es. es ++ (c.args.name, c.args.value) ∷ []) c.reserve.ensures.items

  wide : set c.reach.new.places.items c.args.name c.len-2.result ≡ set c.reach.new.places.items c.args.name (suc (length c.args.entries.now.items))
  wide = ap (λ n. set c.reach.new.places.items c.args.name n) counted

  fresh : IsSetAt (found_by c.args.places.now.items c.args.entries.now.items) c.args.name c.args.value (found_by (set c.reach.new.places.items c.args.name c.len-2.result) c.push_reserved.new.self.items)
  fresh = subst (λ ps. IsSetAt (found_by c.args.places.now.items c.args.entries.now.items) c.args.name c.args.value (found_by ps c.push_reserved.new.self.items)) (sym wide)
      (subst (λ es. IsSetAt (found_by c.args.places.now.items c.args.entries.now.items) c.args.name c.args.value (found_by (set c.reach.new.places.items c.args.name (suc (length c.args.entries.now.items))) es)) (sym pushed)
      (set_more c.args.places.now.items c.args.entries.now.items c.requires.index c.args.name c.reach.new.places.items c.reach.ensures.same c.reach.ensures.near c.in_ok-reach.ensures.reached c.requires.new c.args.value))

pub returns-clause-fresh : goal.returns-clause-fresh
returns-clause-fresh g c = fresh g c

pub returns-clause-put : goal.returns-clause-put
returns-clause-put g c = put_new g.V.Join.known g.V.Join.is_of (found_by c.args.places.now.items c.args.entries.now.items) _ c.args.name c.args.value
    (nothing_by c.args.places.now.items c.args.entries.now.items c.requires.index c.args.name c.reach.new.places.items c.reach.ensures.same c.reach.ensures.near c.in_ok-reach.ensures.reached c.requires.new c.args.value) (fresh g c)

pub returns-clause-index : goal.returns-clause-index
returns-clause-index g c = subst (λ ps. IsIndex ps c.push_reserved.new.self.items) (sym (wide g c))
    (subst (λ es. IsIndex (set c.reach.new.places.items c.args.name (suc (length c.args.entries.now.items))) es) (sym (pushed g c))
    (index_more c.args.places.now.items c.args.entries.now.items c.requires.index c.args.name c.reach.new.places.items c.reach.ensures.same c.reach.ensures.near c.in_ok-reach.ensures.reached c.requires.new c.args.value))
