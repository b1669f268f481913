use Rattle.std.proofs.Common.{◌∙◌, true, refl, ap, subst}
use Rattle.pc_calls.specs.declared.call.EnvCall.TheVariants.{Create}
use Rattle.pc_calls.specs.declared.event.Event.{Event}
use Rattle.pc_calls.specs.declared.event.Event.TheVariants.{Env}
use Rattle.pc_load.specs.Loads.{Demand}
use Rattle.pc_lab.specs.Stages.{MayCome, Now}
use Rattle.pc_lab.proofs.Comings.{may_come}
use Rattle.pc_lab.proofs.stage.Stage.create.Goals as goal

pub take_event-requires : goal.take_event-requires
take_event-requires g c =
    let plan = c.index-threads-self.result in
    let event : Event = Env (Create plan.queue true plan.mask) in
    let now : Now = record { tick = c.self.inside.tick; came = c.self.inside.came } in
    let same = c.threads-threads.ensures ∙ ap (λ (load : Demand). load.threads) c.requires in (
      subst (λ (at : Now). MayCome g.K.Setting.load at event) c.self.view_is
          (may_come g.K.Setting.load now c.threads-threads.result.now plan event same c.if-self-threads.false c.index-threads-self.is c.if-plan-self.false refl),
      (tt, tt),
    )
