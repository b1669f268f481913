use Rattle.pc_join.proofs.Comparing.{maps_same}
use Rattle.pc_join.proofs.by_name.ByNamePartialEq.eq.Goals as goal

pub returns : goal.returns
returns g c = maps_same g.V.PartialEq.eq c.self.inside.values c.other.inside.values c.args.self.now c.args.other.now c.is_same.result c.self.view_is c.other.view_is c.is_same.ensures
