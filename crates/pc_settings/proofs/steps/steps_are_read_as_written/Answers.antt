use Rattle.pc_settings.proofs.StepTexts.{as_written, run_as_written}
use Rattle.pc_settings.proofs.steps.steps_are_read_as_written.Goals as goal

pub returns-clause-loads : goal.returns-clause-loads
returns-clause-loads c = as_written

pub returns-clause-runs : goal.returns-clause-runs
returns-clause-runs c = run_as_written
