use Rattle.std.proofs.Common.{◌≡◌, ◌∙◌, List, ap, arith, length, nat_abs, subst, sym, All}
use Rattle.std.proofs.lemmas.List.{length-map}
use Rattle.pc_threads.specs.Inner.Shares.{HasPosted, Spent, unspent}
use Rattle.pc_threads.specs.Settings.{IsPlan, Plan, plan_of}
use Rattle.pc_threads.proofs.runner.opening.begin.Goals as goal

pub create_all-requires : goal.create_all-requires
create_all-requires g c =
    let sound = c.is_sound.ensures in
    (sound.cpus, omega (arith, sound.cpus_few), subst (λ plans. All (IsPlan sound.cpus) plans) (sym c.threads.ensures) sound.threads)

-- the settings' threads are those whose plans were read
pub returns-clause-created : goal.returns-clause-created
returns-clause-created g c =
    let count : length c.threads.result.now ≡ length c.args.config.now.threads =
    sym (length-map c.threads.result.now plan_of) ∙ ap (λ (plans : List Plan). length plans) c.threads.ensures in
    let none : c.open-tallied.result.purse ≡ unspent (nat_abs c.args.config.now.cpus) =
    c.open-tallied.ensures.none ∙ ap unspent (ap nat_abs c.cpus-cpus.ensures) in
    subst (λ n. HasPosted n n 0 0 0 (unspent (nat_abs c.args.config.now.cpus)) c.create_all.new.purse) count
    (subst (λ (spent : Spent). HasPosted (length c.threads.result.now) (length c.threads.result.now) 0 0 0 spent c.create_all.new.purse) none c.in_ok-create_all.ensures)
