use Rattle.std.proofs.Common.{subst, ◌<◌, ◌^◌, Some}
use Rattle.std.proofs.lemmas.Bool.{false≢true}
use Rattle.std.proofs.Common.{sym, ◌∙◌}
use Rattle.pc_join.specs.ByName.{value_at}
use Rattle.pc_join.specs.Sets.{IsVoid}
use Rattle.pc_join.specs.Inner.Puts.{IsPut, IsWholeAt}
use Rattle.pc_join.proofs.Puts.{OnOk_then, put_shown, put_union, put_between, put_kept, put_short, put_of_source}
use Rattle.pc_join.proofs.by_name.ByName.put.Goals as goal
use Rattle.pc_join.proofs.by_name.ByName.put.Goals.{After-put}

module _ (g : _) (c : After-put g) where
  put : IsPut g.V.Join.known g.V.Join.is_of (value_at c.self.inside.values) c.args.name c.args.value (value_at c.put.new.self)
  put = subst (λ k. IsPut g.V.Join.known g.V.Join.is_of (value_at c.self.inside.values) k c.args.value (value_at c.put.new.self)) c.index.ensures c.put.ensures.put

  nonvoid : ¬ IsVoid (g.V.Join.known c.args.value)
  nonvoid void = false≢true (sym c.if-is_empty.false ∙ c.is_empty.ensures.1 void)

pub invariant_of-self : goal.invariant_of-self
invariant_of-self g c = (
  put_kept g.V.Join.known g.V.Join.is_of c.self.inside.values c.put.new.self c.args.self.now c.self.view_is c.args.name c.args.value (put g c) c.self.invariant.0 (nonvoid g c),
  put_short g.V.Join.known g.V.Join.is_of c.self.inside.values c.put.new.self c.args.self.now c.self.view_is c.args.name c.args.value (put g c) c.self.invariant.1 (subst (λ k. k < 2 ^ 32) c.index.ensures c.index.type_inv),
)

pub returns-clause-union : goal.returns-clause-union
returns-clause-union g c = OnOk_then c.put.result c.put.ensures.whole (λ w. put_union g.V.Join.known g.V.Join.is_of c.self.inside.values c.put.new.self c.args.self.now c.self.view_is c.args.name c.args.value (put g c)
    (subst (λ k. IsWholeAt g.V.Join.known (value_at c.self.inside.values k) (Some c.args.value) (value_at c.put.new.self k)) c.index.ensures w))

pub returns-clause-between : goal.returns-clause-between
returns-clause-between g c = put_between g.V.Join.known g.V.Join.is_of c.self.inside.values c.put.new.self c.args.self.now c.self.view_is c.args.name c.args.value (put g c)

pub returns-clause-of_source : goal.returns-clause-of_source
returns-clause-of_source g c = put_of_source g.V.Join.known g.V.Join.is_of c.self.inside.values c.put.new.self c.args.self.now c.self.view_is c.args.name c.args.value (put g c)
    (put_kept g.V.Join.known g.V.Join.is_of c.self.inside.values c.put.new.self c.args.self.now c.self.view_is c.args.name c.args.value (put g c) c.self.invariant.0 (nonvoid g c))

pub returns-clause-others : goal.returns-clause-others
returns-clause-others g c = (put_shown g.V.Join.known g.V.Join.is_of c.self.inside.values c.put.new.self c.args.self.now c.self.view_is c.args.name c.args.value (put g c)).others
