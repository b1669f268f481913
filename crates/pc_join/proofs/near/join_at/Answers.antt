use Rattle.std.proofs.Common.{ℕ, suc, ◌≡◌, ◌-◌, sym, ap, subst, ◌∙◌, set, Some, arith, rules}
use Rattle.pc_join.specs.Inner.Leaves.{IsSetAt}
use Rattle.pc_join.specs.Inner.Near.{found_by, place_in}
use Rattle.pc_join.proofs.Puts.{put_held}
use Rattle.pc_join.proofs.Indexed.{at_place, held_at, set_by}
use Rattle.pc_join.proofs.near.join_at.Goals as goal

pub index_mut-requires : goal.index_mut-requires
index_mut-requires g c = let lt = at_place c.args.places.now c.args.entries.now.items c.requires.index c.args.name (c.args.place - 1) (omega (arith, c.requires.place, c.requires.there)) in search rules

pub returns-clause-put : goal.returns-clause-put
returns-clause-put g c =
    let is : place_in c.args.places.now c.args.name ≡ suc (c.args.place - 1) = omega (arith, c.requires.place, c.requires.there) in
    let there = held_at c.args.places.now c.args.entries.now.items c.requires.index c.args.name (c.args.place - 1) is c.index_mut.result.now ∙ ap (λ e. Some e.1) (sym c.index_mut.ensures.value) in
    let fresh = subst (λ (e : ℕ × _). IsSetAt (found_by c.args.places.now c.args.entries.now.items) c.args.name c.join_from.new.self (found_by c.args.places.now (set c.args.entries.now.items (c.args.place - 1) (e.0, c.join_from.new.self)))) (sym c.index_mut.ensures.value)
    (set_by c.args.places.now c.args.entries.now.items c.requires.index c.args.name (c.args.place - 1) is c.join_from.new.self c.index_mut.result.now) in
    put_held g.V.Join.known g.V.Join.is_of (found_by c.args.places.now c.args.entries.now.items) _ c.args.name c.args.value.now c.index_mut.result.now.1 c.join_from.new.self there fresh c.join_from.ensures.between c.join_from.ensures.of_source
