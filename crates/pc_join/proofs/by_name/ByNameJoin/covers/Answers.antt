use Rattle.pc_join.proofs.Names.{covers_shown, kept_tree}
use Rattle.pc_join.proofs.by_name.ByNameJoin.covers.Goals as goal

pub covers_all-requires : goal.covers_all-requires
covers_all-requires g c = kept_tree g.V.Join.known c.other.inside.values c.other.invariant.0

pub returns : goal.returns
returns g c = covers_shown g.V.Join.known c.self.inside.values c.other.inside.values c.args.self.now c.args.other.now c.self.view_is c.other.view_is c.covers_all.result c.covers_all.ensures
