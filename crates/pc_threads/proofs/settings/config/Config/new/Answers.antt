use Rattle.std.proofs.Common.{◌≡◌, ◌∙◌, refl, rules, pos, true, None, map, subst}
use Rattle.pc_calls.specs.declared.limits.TheConstants.{MOST_CPUS}
use Rattle.pc_load.specs.Loads.{is_between}
use Rattle.pc_threads.specs.Settings.{asked, faults_on, first_fault, plan_of}
use Rattle.pc_threads.proofs.settings.config.Config.new.Goals as goal
use Rattle.pc_threads.proofs.Faults.{with_cpus}

pub invariant_of-result : goal.invariant_of-result
invariant_of-result c =
    let counted : c.args.cpus ≡ pos c.in-Some.cpus = search rules in
    let some : is_between 1 MOST_CPUS c.args.cpus ≡ true = search rules in
    let good : is_between 1 MOST_CPUS (pos c.in-Some.cpus) ≡ true = subst (λ z. is_between 1 MOST_CPUS z ≡ true) counted some in
    let fine : first_fault (faults_on c.in-Some.cpus (map plan_of c.args.threads.items) c.args.restarts.items) ≡ None = search rules in
    with_cpus (asked (pos c.in-Some.cpus) c.args.threads.items c.args.restarts.items) c.in-Some.cpus refl good ∙ fine
