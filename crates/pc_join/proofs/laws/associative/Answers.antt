use Rattle.std.proofs.Common.{sym, ap, ◌∙◌, ◌||◌}
use Rattle.pc_join.proofs.Joins.{or_assoc}
use Rattle.pc_join.proofs.laws.associative.Goals as goal

pub returns : goal.returns
returns g c = λ s a b d ab bd x y h k i j. g.met.V.Join.unique s x y k.join j.join (λ m.
    k.union m ∙ ap (λ t. t || g.V.Join.known d m) (h.union m)
    ∙ or_assoc (g.V.Join.known a m) (g.V.Join.known b m) (g.V.Join.known d m)
    ∙ ap (λ t. g.V.Join.known a m || t) (sym (i.union m)) ∙ sym (j.union m))
