use Rattle.std.proofs.Common.{◌∙◌, ap}
use Rattle.pc_table.specs.Sheets.{text_of}
use Rattle.pc_trial.proofs.comparison.compare_watched.Goals as goal

pub returns-clause-told : goal.returns-clause-told
returns-clause-told g c =
    record {
      variants = c.as_slice.result.now;
      chosen = c.as_slice.ensures;
      columns = c.in_ok-columns.columns.items;
      runs = c.in_ok-columns.ensures.runs;
      told = c.in_ok-text.ensures ∙ ap (text_of c.args.form c.args.load.now) c.as_slice-2.ensures.value;
    }
