use Rattle.std.proofs.Common.{ℕ, IsTrue, ◌↔◌, nat_eq, subst}
use Rattle.pc_join.proofs.Counts.{is_empty_upto}
use Rattle.pc_join.specs.Sets.{IsVoid}
use Rattle.pc_join.specs.Ranges.{numbers_to}
use Rattle.pc_join.proofs.upto.UptoJoin.is_empty.Goals as goal

pub returns : goal.returns
returns c =
    let P : ℕ → Type 0 = λ a. IsTrue (nat_eq c.self.inside.last 0) ↔ IsVoid (numbers_to a) in
    subst P c.self.view_is (is_empty_upto c.self.inside.last)
