use Rattle.pc_join.proofs.Names.{is_empty_shown, kept_value}
use Rattle.pc_join.proofs.by_name.ByNameJoin.is_empty.Goals as goal

pub returns : goal.returns
returns g c = is_empty_shown g.V.Join.known c.self.inside.values c.args.self.now c.is_empty.result c.self.view_is (kept_value g.V.Join.known c.self.inside.values c.args.self.now c.self.view_is c.self.invariant.0) c.is_empty.ensures
