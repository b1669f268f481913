use Rattle.std.proofs.Common.{sym, ◌∙◌}
use Rattle.pc_join.specs.ByName.{value_at}
use Rattle.pc_join.specs.Inner.Near.{found_by}
use Rattle.pc_join.proofs.Comparing.{shown_same}
use Rattle.pc_join.proofs.Indexed.{shown_now}
use Rattle.pc_join.proofs.near.Near.is_same.Goals as goal

pub returns : goal.returns
returns g c = shown_same g.V.PartialEq.eq (value_at c.args.self.now) (value_at c.args.other.now)
    (found_by c.as_slice.result.now c.as_slice-2.result.now) (found_by c.as_slice-3.result.now c.as_slice-4.result.now) c.is_same_by.result
    (λ name. shown_now c.self.inside.places.items c.self.inside.entries.items c.args.self.now c.self.view_is c.self.invariant name
    ∙ λ i. found_by (sym c.as_slice.ensures.value i) (sym c.as_slice-2.ensures.value i) name)
    (λ name. shown_now c.other.inside.places.items c.other.inside.entries.items c.args.other.now c.other.view_is c.other.invariant name
    ∙ λ i. found_by (sym c.as_slice-3.ensures.value i) (sym c.as_slice-4.ensures.value i) name)
    c.is_same_by.ensures
