use Rattle.std.proofs.Common.{subst}
use Rattle.pc_curves.specs.Waits.{IsPictureOfWaits}
use Rattle.pc_trial.proofs.comparison.picture_watched.Goals as goal

pub returns-clause-drawn : goal.returns-clause-drawn
returns-clause-drawn g c =
    record {
      variants = c.as_slice.result.now;
      chosen = c.as_slice.ensures;
      columns = c.in_ok-columns.columns.items;
      runs = c.in_ok-columns.ensures.runs;
      drawn = subst (λ columns. IsPictureOfWaits columns c.in_ok-text.text.items) c.as_slice-2.ensures.value c.in_ok-text.ensures;
    }
