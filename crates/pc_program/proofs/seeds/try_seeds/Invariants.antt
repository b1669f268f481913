use Rattle.std.proofs.Common.{◌≡◌}
use Rattle.pc_program.specs.Seeds.{IsOfRuns, MayEnd}
use Rattle.pc_program.specs.Tallies.{CountsAddUp}
use Rattle.pc_program.proofs.seeds.try_seeds.Given as goal

abbrev pub invariant-loop-place : goal.invariant-loop-place
invariant-loop-place g l =
    IsOfRuns (λ ended. MayEnd ended l.config) l.initial.seeds.first l.tally × CountsAddUp l.tally × (l.tally.runs ≡ l.place)
