use Rattle.std.proofs.Common.{◌+◌, ◌++◌, ◌∷◌, [], ap, subst, sym}
use Rattle.pc_program.specs.Tallies.{IsTallyOf}
use Rattle.pc_program.specs.declared.tally.Tally.{Tally}
use Rattle.pc_program.proofs.Tallying.{reported_more, unreported_more}
use Rattle.pc_program.proofs.tally.Tally.with.Goals as goal

pub returns-in-Ok-clause-tallies : goal.returns-in-Ok-clause-tallies
returns-in-Ok-clause-tallies c = λ first endings was seed.
    let more : Tally = record c.args.self { runs = c.args.self.runs + 1; reported = c.args.self.reported + 1 } in
    subst (λ ended. IsTallyOf first (endings ++ ended ∷ []) more) (sym c.in-Ok.is)
    (reported_more first endings c.in-Ok.field-0 c.args.self was)

pub returns-in-Err-clause-tallies : goal.returns-in-Err-clause-tallies
returns-in-Err-clause-tallies c = λ first endings was seed.
    let added = c.with_unreported.ensures in
    subst (λ ended. IsTallyOf first (endings ++ ended ∷ []) c.with_unreported.result) (sym c.in-Err.is)
    (unreported_more first endings c.in-Err.why c.args.self c.with_unreported.result _
    (ap (λ n. record { seed = n; why = c.in-Err.why }) seed) was (record {
      runs = added.runs;
      reported = added.reported;
      audit = added.audit;
      incomplete = added.incomplete;
      driver = added.driver;
      gave_up = added.gave_up;
      unaccounted = added.unaccounted;
      stalled = added.stalled;
      first = added.first;
    }))
