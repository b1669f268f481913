use Rattle.std.proofs.Common.{◌∙◌, map, refl, subst, sym}
use Rattle.pc_threads.specs.Settings.{plan_of}
use Rattle.pc_world.specs.Shows.{ShowsWorld}
use Rattle.pc_seeds.specs.Driving.{Accepts}
use Rattle.pc_seeds.proofs.Driving.{does_deed, runs_on}
use Rattle.pc_seeds.proofs.driver.Driver.go_on.Goals as goal

pub returns-clause-does : goal.returns-clause-does
returns-clause-does c =
    does_deed (map plan_of c.args.plans.now) c.args.cpu c.in-Some.thread c.in-Some-next_of.step c.args.machine _ c.args.self.now c.next_of.new.self _
    (λ p h. runs_on c.kernel.result.now p.world.kernel c.args.cpu c.in-Some.thread
    (c.kernel.ensures p.world (subst (λ w. ShowsWorld w p.world) (sym c.world.ensures) h.world)) (sym c.running.ensures ∙ c.in-Some.is))
    c.in-Some-next_of.ensures refl refl c.blocked_by-self.ensures (subst (λ call. Accepts call c.args.machine c.in_ok-machine.machine) c.call_of.ensures c.in_ok-machine.ensures.accepts)
