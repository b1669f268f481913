use Rattle.toml.specs.View.{table_view}
use Rattle.pc_settings.proofs.Tables.{threads_listed}
use Rattle.pc_settings.proofs.loads.threads_in.Goals as goal

pub returns : goal.returns
returns c = threads_listed (table_view c.args.table.now) _ _ c.drafts_of.result c.in_ok-threads_of.ensures.1 c.drafts_of.ensures
