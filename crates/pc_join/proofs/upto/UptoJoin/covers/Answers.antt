use Rattle.std.proofs.Common.{ℕ, IsTrue, ◌↔◌, nat_le, subst}
use Rattle.pc_join.proofs.Counts.{covers_upto}
use Rattle.pc_join.specs.Sets.{IsWithin}
use Rattle.pc_join.specs.Ranges.{numbers_to}
use Rattle.pc_join.proofs.upto.UptoJoin.covers.Goals as goal

pub returns : goal.returns
returns c =
    let P : ℕ → ℕ → Type 0 = λ a b. IsTrue (nat_le c.other.inside.last c.self.inside.last) ↔ IsWithin (numbers_to a) (numbers_to b) in
    subst (λ a. P a c.args.self.now) c.other.view_is (subst (P c.other.inside.last) c.self.view_is (covers_upto c.other.inside.last c.self.inside.last))
