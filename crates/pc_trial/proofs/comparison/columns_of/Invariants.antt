use Rattle.std.proofs.Common.{take}
use Rattle.std.specs.List.{AllZip}
use Rattle.pc_trial.specs.Comparing.{IsRunOf}
use Rattle.pc_trial.proofs.comparison.columns_of.Given as goal

abbrev pub invariant-loop-variant : goal.invariant-loop-variant
invariant-loop-variant g l = AllZip (IsRunOf l.load) (take l.variant-index l.variants) l.columns.items
