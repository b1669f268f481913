use Rattle.std.proofs.Common.{subst}
use Rattle.std.proofs.KnownBytes.{Keeps-refl}
use Rattle.toml.specs.Parse.{parse_document}
use Rattle.pc_seeds.specs.Ending.{IfReported}
use Rattle.pc_threads.specs.Reports.{AddsUp, TellsItsBook}
use Rattle.pc_program.specs.Runs.{DoesWhatIsSpelled, IfStalledLeads}
use Rattle.pc_program.proofs.Scripting.{both_of_run, stall_of_run}
use Rattle.pc_program.proofs.scripted.run_both.Goals as goal

pub returns-in-Ok-Reported : goal.returns-in-Ok-Reported
returns-in-Ok-Reported g c =
    let ran = c.in-Ok-Reported.ensures in
    let is = c.in-Ok-Reported.field-0-is in
    both_of_run (parse_document c.args.text.now) c.args.form c.in-Ok-Reported.report _ _ _ _ c.write_both.result
    (subst (IfReported TellsItsBook) is ran.tells) (subst (IfReported AddsUp) is ran.adds_up)
    (subst (IfReported (DoesWhatIsSpelled (parse_document c.args.text.now))) is ran.all) c.write_both.ensures

pub returns-in-Ok-Stalled : goal.returns-in-Ok-Stalled
returns-in-Ok-Stalled g c =
    let ran = c.in-Ok-Stalled.ensures in
    let text = parse_document c.args.text.now in
    let leads = subst (IfStalledLeads text) c.in-Ok-Stalled.field-0-is ran.stalled in
    stall_of_run text c.args.form c.in-Ok-Stalled.stall c.in-Ok-Stalled.book _ _ _ _ c.write_stalled.result leads
    (c.write_stalled.ensures text leads) (Keeps-refl _)
