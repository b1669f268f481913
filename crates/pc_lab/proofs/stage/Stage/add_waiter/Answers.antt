use Rattle.std.proofs.Common.{◌≡◌, ◌<◌, ◌∙◌, vec_items, false, get_or, length, refl, ap, subst, arith}
use Rattle.pc_load.specs.Loads.{Demand}
use Rattle.pc_lab.specs.declared.waits.Waiter.{Waiter}
use Rattle.pc_lab.proofs.Readiness.{behind_added}
use Rattle.pc_lab.proofs.Staging.{waits_on}
use Rattle.pc_lab.proofs.stage.Stage.add_waiter.Goals as goal

pub invariant_of-self : goal.invariant_of-self
invariant_of-self g c =
    let old = c.self.inside in
    let waiters = old.waits.waiters.items in
    let threads = c.threads-threads.result.now in
    let plan = c.index-threads-place.result in
    let one : Waiter = record { mask = plan.mask; level = plan.level; is_ready = false; is_woken = false; since = 0 } in
    let same = c.threads-threads.ensures ∙ ap (λ (load : Demand). load.threads) c.requires in
    let many : c.threads-place.result ≡ length waiters = c.threads-place.ensures in
    let low : length waiters < length threads = omega (arith, c.if-place-threads.false, many) in
    let there : plan ≡ get_or threads (length waiters) plan = subst (λ n. plan ≡ get_or threads n plan) many c.index-threads-place.is in
    let behind =
    behind_added g.K.Setting.load threads plan one c.add.result waiters c.add.new.self.waiters.items same low there refl refl c.add.ensures.more c.add.ensures.same in (
      λ cut. waits_on g.K.Setting.load g.K.Setting.policy g.K.Setting.before old.world old.chronicle old.told old.events old.tally old.waits.ended.items
          c.add.new.self.ended.items waiters c.add.new.self.waiters.items old.came (c.self.invariant.0 cut) (ap vec_items c.add.ensures.ended) behind,
      c.self.invariant.1,
      c.self.invariant.2,
      c.self.invariant.3,
    )
