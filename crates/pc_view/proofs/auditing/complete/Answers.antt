use Rattle.std.proofs.Common.{sym, ◌≤◌, length, arith}
use Rattle.std.proofs.lemmas.Bool.{false≢true}
use Rattle.std.proofs.lemmas.Bool.Decides.{nat_tests}
use Rattle.pc_view.proofs.Audits.{none_complete, reports_state}
use Rattle.pc_view.proofs.auditing.complete.Goals as goal

pub returns-in-None-thread-clause-exact : goal.returns-in-None-thread-clause-exact
returns-in-None-thread-clause-exact c = (λ e. absurd (false≢true e), λ h. absurd (none_complete c.args.kernel.now c.args.view.now c.args.thread c.is_sound.ensures (sym c.in-None-thread.ensures.value) h))

pub returns-in-Some-thread-clause-reports : goal.returns-in-Some-thread-clause-reports
returns-in-Some-thread-clause-reports c = λ long.
    let fits : length c.in-Some.history.now ≤ c.upto.result = grind (arith, nat_tests, long) in
    let reached : length c.in-Some.history.now ≤ c.in-Some-thread.held.now.upto = omega (arith, fits, c.upto.ensures.value) in
    reports_state c.args.kernel.now c.args.view.now c.args.thread c.in-Some-thread.held.now c.in-Some.history.now c.in-Some.ensures c.in-Some-thread.ensures.value reached
