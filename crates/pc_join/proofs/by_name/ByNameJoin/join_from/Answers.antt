use Rattle.pc_join.proofs.Puts.{OnOk_then}
use Rattle.pc_join.proofs.Names.{all_union, all_between, all_kept, all_short, all_of_source}
use Rattle.pc_join.proofs.by_name.ByNameJoin.join_from.Goals as goal

pub invariant_of-self : goal.invariant_of-self
invariant_of-self g c = (
  all_kept g.V.Join.known g.V.Join.is_of c.self.inside.values c.other.inside.values c.join_all.new.values c.args.self.now c.args.other.now c.self.view_is c.other.view_is c.join_all.ensures.part c.self.invariant.0 c.other.invariant.0,
  all_short g.V.Join.known g.V.Join.is_of c.self.inside.values c.other.inside.values c.join_all.new.values c.args.self.now c.args.other.now c.self.view_is c.other.view_is c.join_all.ensures.part c.self.invariant.1 c.other.invariant.1,
)

pub returns-clause-union : goal.returns-clause-union
returns-clause-union g c = OnOk_then c.join_all.result c.join_all.ensures.whole (λ whole. all_union g.V.Join.known g.V.Join.is_of c.self.inside.values c.other.inside.values c.join_all.new.values c.args.self.now c.args.other.now c.self.view_is c.other.view_is c.join_all.ensures.part whole)

pub returns-clause-between : goal.returns-clause-between
returns-clause-between g c = all_between g.V.Join.known g.V.Join.is_of c.self.inside.values c.other.inside.values c.join_all.new.values c.args.self.now c.args.other.now c.self.view_is c.other.view_is c.join_all.ensures.part

pub returns-clause-of_source : goal.returns-clause-of_source
returns-clause-of_source g c = all_of_source g.V.Join.known g.V.Join.is_of c.self.inside.values c.other.inside.values c.join_all.new.values c.args.self.now c.args.other.now c.self.view_is c.other.view_is c.join_all.ensures.part (all_kept g.V.Join.known g.V.Join.is_of c.self.inside.values c.other.inside.values c.join_all.new.values c.args.self.now c.args.other.now c.self.view_is c.other.view_is c.join_all.ensures.part c.self.invariant.0 c.other.invariant.0)
