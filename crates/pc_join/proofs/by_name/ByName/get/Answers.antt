use Rattle.std.proofs.Common.{subst, sym, ap, ◌∙◌}
use Rattle.std.specs.FinMap as map
use Rattle.pc_join.specs.ByName.{value_at}
use Rattle.pc_join.specs.Sets.{IsVoid}
use Rattle.pc_join.specs.ByName.{HoldsNoEmpty}
use Rattle.pc_join.proofs.Puts.{shown, got_kept, copied_some}
use Rattle.pc_join.proofs.by_name.ByName.get.Goals as goal

pub returns-clause-value : goal.returns-clause-value
returns-clause-value g c =
    c.get.ensures ∙ ap (λ k. value_at c.self.inside.values k) c.index.ensures ∙ sym (shown c.self.inside.values c.args.name) ∙ ap (λ m. map.get m c.args.name) c.self.view_is

pub returns-clause-some : goal.returns-clause-some
returns-clause-some g c =
    copied_some c.get.result (map.get c.args.self.now c.args.name) (λ v. ¬ IsVoid (g.V.Join.known v)) (returns-clause-value g c)
    (got_kept g.V.Join.known c.args.self.now c.args.name (subst (λ m. HoldsNoEmpty g.V.Join.known m) c.self.view_is c.self.invariant.0))
