use Rattle.std.proofs.Common.{refl, length, min, not, position, take, arith}
use Rattle.pc_threads.specs.Settings.{is_restart}
use Rattle.pc_threads.specs.declared.settings.restarts.TheConstants.{MOST_RESTARTS}
use Rattle.pc_threads.proofs.Faults.{Looked, thread_told, restart_told, excess_told, nothing_told}
use Rattle.pc_threads.proofs.settings.faults.fault_on.Goals as goal

pub returns-in-Some : goal.returns-in-Some
returns-in-Some c =
    let restarts = c.args.restarts.now in
    let restart = position (λ r. not (is_restart c.args.cpus r)) (take (min MOST_RESTARTS (length restarts)) restarts) in
    let looked : Looked c.args.cpus c.args.threads.now restarts c.bad_thread.result restart =
    record { fit = omega arith; thread_is = c.bad_thread.ensures; restart_is = refl } in
    thread_told _ _ _ _ _ _ looked c.in-Some.is

pub returns-in-Some-bad_restart : goal.returns-in-Some-bad_restart
returns-in-Some-bad_restart c =
    let looked : Looked c.args.cpus c.args.threads.now c.args.restarts.now c.bad_thread.result c.bad_restart.result =
    record { fit = omega arith; thread_is = c.bad_thread.ensures; restart_is = rw (← c.min-allowed.ensures) c.bad_restart.ensures } in
    restart_told _ _ _ _ _ _ looked c.in_default.is c.in-Some-bad_restart.is

pub returns-then-restarts-gt-MOST_RESTARTS : goal.returns-then-restarts-gt-MOST_RESTARTS
returns-then-restarts-gt-MOST_RESTARTS c =
    let looked : Looked c.args.cpus c.args.threads.now c.args.restarts.now c.bad_thread.result c.bad_restart.result =
    record { fit = omega arith; thread_is = c.bad_thread.ensures; restart_is = rw (← c.min-allowed.ensures) c.bad_restart.ensures } in
    excess_told _ _ _ _ _ looked c.in_default.is c.in_default-bad_restart.is (omega arith)

pub returns : goal.returns
returns c =
    let looked : Looked c.args.cpus c.args.threads.now c.args.restarts.now c.bad_thread.result c.bad_restart.result =
    record { fit = omega arith; thread_is = c.bad_thread.ensures; restart_is = rw (← c.min-allowed.ensures) c.bad_restart.ensures } in
    nothing_told _ _ _ _ _ looked c.in_default.is c.in_default-bad_restart.is (omega arith)
