use Rattle.std.proofs.Common.{ap, ◌∙◌}
use Rattle.std.specs.FinMap as map
use Rattle.pc_join.proofs.Entries.{entries_shown}
use Rattle.pc_join.proofs.by_name.ByName.walks.Goals as goal

pub returns-clause-entries : goal.returns-clause-entries
returns-clause-entries g c = c.walks.ensures.entries ∙ entries_shown c.self.inside.values c.walks.ensures.ascend ∙ ap map.entries c.self.view_is
