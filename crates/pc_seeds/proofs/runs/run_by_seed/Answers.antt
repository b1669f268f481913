use Rattle.std.proofs.Common.{◌≡◌, ◌∙◌, ap, rules, subst, sym}
use Rattle.pc_world.specs.Shows.{ShowsWorld}
use Rattle.pc_seeds.specs.Driving.{Creates, IsInRun, StaysInRun}
use Rattle.pc_seeds.specs.Ending.{IsHeldUp, NoneWaits}
use Rattle.pc_seeds.proofs.Driving.{begun}
use Rattle.pc_seeds.proofs.Resting.{none_held}
use Rattle.pc_seeds.proofs.runs.run_by_seed.Goals as goal

pub returns-clause-none_waits : goal.returns-clause-none_waits
returns-clause-none_waits g c =
    let same : c.kernel.result.now ≡ c.in_ok-report.report.book.kernel = c.kernel.ensures ∙ ap (λ b. b.kernel) (sym c.in_ok-report.ensures.book) in
    subst (NoneWaits c.args.config.now) same c.in_default-held_up.ensures

pub returns-in-Some-clause-rests : goal.returns-in-Some-clause-rests
returns-in-Some-clause-rests g c undisturbed rest =
    let settings = c.args.config.now in
    let plans = settings.threads in
    let opened = c.in_ok-machine.ensures.opened in
    let first = c.in_ok-run.run' in
    let created = c.create_all.new.self in
    let played = c.play.new.self in
    let old = c.in_ok-machine.machine in
    let mid = c.in_ok-machine-2.machine in
    let new = c.in_ok-machine-3.machine in
    let same = ap (λ k. k.now) c.in_ok-machine-2.ensures.config ∙ c.in_ok-run.ensures.config in
    let start = begun opened.0 opened.1 plans old mid first.driver opened.4 (subst (λ s. Creates s.threads old mid) c.in_ok-run.ensures.config c.in_ok-machine-2.ensures.creates) c.in_ok-run.ensures.idle in
    let stays =
    subst (λ s. StaysInRun s.threads mid created.driver new played.driver) same (c.in_ok-machine-3.ensures.stays (ap (λ s. s.restarts) same ∙ undisturbed.none_restarts)) in
    let end = stays opened.0 opened.1 (subst (IsInRun opened.0 opened.1 plans mid) (sym c.in_ok-machine-2.ensures.driver) start) in
    let held = c.in-Some.held in
    let kernel = c.kernel-in-Some.result.now in
    let waits : IsHeldUp kernel held.thread held.cpu = search rules in
    none_held c.rest_is_done.ensures.done opened.0 opened.1 c.is_sound.ensures.cpus plans new played.driver kernel held.thread held.cpu c.is_sound.ensures.threads
    (λ d. opened.3 d (undisturbed.takes_each d)) end (λ p shows. (c.stall_of-stall.ensures.rests p shows).0 rest)
    (λ w h. c.kernel-in-Some.ensures w (subst (λ v. ShowsWorld v w) (sym c.world.ensures) h)) waits c.in-Some.ensures.there
