use Rattle.std.proofs.Common.{List, ℕ, IsTrue, ◌↔◌, subst}
use Rattle.pc_join.specs.Sets.{IsVoid}
use Rattle.pc_join.specs.Ranges.{numbers_in}
use Rattle.pc_join.proofs.Walks.{is_empty_ranges}
use Rattle.pc_join.proofs.numbers.NumbersJoin.is_empty.Goals as goal

pub returns : goal.returns
returns c =
    let items = c.self.inside.ranges.items in
    let P : List (ℕ × ℕ) → Type 0 = λ rs. IsTrue c.is_empty.result ↔ IsVoid (numbers_in rs) in
    subst P c.self.view_is (is_empty_ranges items c.is_empty.result c.is_empty.ensures c.self.invariant)
