use Rattle.pc_view.proofs.Audits.{early_of_run, whole}
use Rattle.pc_view.proofs.Runs.{state_of_run, within_run, has_prefix, missing_next}
use Rattle.pc_view.proofs.laws.reads_are_those_of_the_run.Goals as goal

pub returns : goal.returns
returns c = record { reported = state_of_run; within = within_run; prefix = has_prefix; missing = missing_next; whole = whole; early = early_of_run }
