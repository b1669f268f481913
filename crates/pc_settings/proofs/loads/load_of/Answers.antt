use Rattle.std.proofs.Common.{◌≡◌, Err, sym, ap, ◌∙◌, map, rules}
use Rattle.toml.specs.View.{table_view}
use Rattle.pc_load.specs.Loads.{demand, drafted}
use Rattle.pc_load.specs.Variants.{choice_in}
use Rattle.pc_settings.specs.Inner.Drafts.{told}
use Rattle.pc_settings.specs.LoadTexts.{AreAsked, Finds, asked_faults}
use Rattle.pc_settings.proofs.Tables.{Keyed, threads_told, variants_told, steps_told, all_read}
use Rattle.pc_settings.proofs.loads.load_of.Goals as goal

pub returns-in_err-threads : goal.returns-in_err-threads
returns-in_err-threads c =
    let table = table_view c.args.table.now in
    let keyed : Keyed table c.in_ok-cpus.cpus c.in-Some.until =
    record { cpus_is = c.in_ok-cpus.ensures; until_is = sym c.integer_or.ensures ∙ c.in-Some.is } in
    let fault = c.in_err-threads.field-0.0 in
    let is : c.from_residual-in_err-threads.result ≡ Err fault = search rules in
    rw is (threads_told table c.in_ok-cpus.cpus c.in-Some.until fault keyed c.in_err-threads.ensures)

pub returns-in_err-choices : goal.returns-in_err-choices
returns-in_err-choices c =
    let table = table_view c.args.table.now in
    let keyed : Keyed table c.in_ok-cpus.cpus c.in-Some.until =
    record { cpus_is = c.in_ok-cpus.ensures; until_is = sym c.integer_or.ensures ∙ c.in-Some.is } in
    let fault = c.in_err-choices.field-0.0 in
    let is : c.from_residual-in_err-choices.result ≡ Err fault = search rules in
    rw is (variants_told table c.in_ok-cpus.cpus c.in-Some.until fault keyed c.in_ok-threads.ensures.0 c.in_err-choices.ensures)

pub returns-in_err-plans : goal.returns-in_err-plans
returns-in_err-plans c =
    let table = table_view c.args.table.now in
    let keyed : Keyed table c.in_ok-cpus.cpus c.in-Some.until =
    record { cpus_is = c.in_ok-cpus.ensures; until_is = sym c.integer_or.ensures ∙ c.in-Some.is } in
    let fault = c.in_err-plans.field-0.0 in
    let is : c.from_residual-in_err-plans.result ≡ Err fault = search rules in
    rw is (steps_told table c.in_ok-cpus.cpus c.in-Some.until (map told c.as_slice.result.now) fault keyed c.in_ok-threads.ensures.0 c.in_ok-choices.ensures.0
    (ap (map told) c.as_slice.ensures.value ∙ c.in_ok-threads.ensures.1) c.in_err-plans.ensures)

pub returns : goal.returns
returns c =
    let table = table_view c.args.table.now in
    let keyed : Keyed table c.in_ok-cpus.cpus c.in-Some.until =
    record { cpus_is = c.in_ok-cpus.ensures; until_is = sym c.integer_or.ensures ∙ c.in-Some.is } in
    let all = demand c.in_ok-cpus.cpus c.in-Some.until (map drafted c.in_ok-plans.plans.items) in
    let found : Finds (asked_faults all (map choice_in c.as_slice-2.result.now)) (AreAsked all (map choice_in c.as_slice-2.result.now)) c.load_asked.result = search rules in
    all_read table c.in_ok-cpus.cpus c.in-Some.until (map told c.as_slice.result.now) (map drafted c.in_ok-plans.plans.items) (map choice_in c.as_slice-2.result.now)
    c.load_asked.result keyed c.in_ok-threads.ensures.0 c.in_ok-choices.ensures.0 (ap (map told) c.as_slice.ensures.value ∙ c.in_ok-threads.ensures.1)
    c.in_ok-plans.ensures.0 c.in_ok-plans.ensures.1 (ap (map choice_in) c.as_slice-2.ensures.value ∙ c.in_ok-choices.ensures.1) found
