use Rattle.std.proofs.Common.{rules}
use Rattle.pc_join.proofs.Indexed.{shown_now}
use Rattle.pc_join.proofs.near.Near.get.Goals as goal

pub returns : goal.returns
returns g c = let h = shown_now c.self.inside.places.items c.self.inside.entries.items c.args.self.now c.self.view_is c.self.invariant c.args.name in search rules
