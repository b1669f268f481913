use Rattle.std.proofs.Common.{sym, ◌∙◌}
use Rattle.pc_join.proofs.Joins.{or_comm}
use Rattle.pc_join.proofs.laws.commutative.Goals as goal

pub returns : goal.returns
returns g c = λ s a b x y h k. g.met.V.Join.unique s x y h.join k.join (λ m. h.union m ∙ or_comm (g.V.Join.known a m) (g.V.Join.known b m) ∙ sym (k.union m))
