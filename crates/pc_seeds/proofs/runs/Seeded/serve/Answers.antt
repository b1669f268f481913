use Rattle.std.proofs.Common.{◌≡◌, ◌∙◌, ◌<◌, IfOk, ap, subst, sym, arith}
use Rattle.pc_kernel.specs.Answers.{Shows as ShowsKernel}
use Rattle.pc_protocol.specs.Machine.{Does, Shows}
use Rattle.pc_protocol.specs.Protocol.{OfAgent, Protocol}
use Rattle.pc_protocol.specs.Running.{noticing}
use Rattle.pc_world.specs.Shows.{ShowsWorld}
use Rattle.pc_seeds.proofs.Driving.{is_there, read_on, serves}
use Rattle.pc_seeds.proofs.runs.Seeded.serve.Goals as goal

pub returns-clause-drives : goal.returns-clause-drives
returns-clause-drives c =
    serves c.args.self.now.config.now.threads c.args.machine c.in_ok-machine.machine c.args.self.now.driver c.notice.new.self c.args.cpu
    (subst (λ r. IfOk r (Does c.args.cpu c.args.machine)) c.in_ok-machine.ensures.done c.step.ensures.step) c.notice.ensures.done c.notice.ensures.blocked told
  where
    told : (p q : Protocol) → Shows c.args.machine p → Shows c.in_ok-machine.machine q → OfAgent p c.args.cpu q
        → c.notice.new.self.told.items ≡ noticing c.args.cpu (p.world.kernel.on c.args.cpu) (q.world.kernel.on c.args.cpu) c.args.self.now.driver.told.items
    told p q h i step =
        let before : ShowsKernel c.kernel.result.now p.world.kernel = c.kernel.ensures p.world (subst (λ w. ShowsWorld w p.world) (sym c.world.ensures) h.world) in
        let behind : ShowsKernel c.kernel-kernel.result.now q.world.kernel = c.kernel-kernel.ensures q.world (subst (λ w. ShowsWorld w q.world) (sym c.world-2.ensures) i.world) in
        let above = c.if-index-cpus.false in
        let name = c.index.ensures in
        let many = c.cpus.ensures.count in
        let low : c.args.cpu < c.kernel-kernel.result.now.limits.cpus = omega arith in
        let ran = c.running-ran.ensures ∙ sym (read_on c.kernel.result.now p.world.kernel c.args.cpu before step.there) in
        let runs = c.running.ensures ∙ sym (read_on c.kernel-kernel.result.now q.world.kernel c.args.cpu behind (is_there c.kernel-kernel.result.now q.world.kernel c.args.cpu behind low)) in
        c.in-Ok.ensures.told ∙ ap (λ o. noticing c.args.cpu o c.running.result c.args.self.now.driver.told.items) ran
        ∙ ap (λ o. noticing c.args.cpu (p.world.kernel.on c.args.cpu) o c.args.self.now.driver.told.items) runs
