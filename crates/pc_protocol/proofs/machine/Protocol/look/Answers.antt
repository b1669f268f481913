use Rattle.std.proofs.Common.{◌∙◌, [], if◌then◌else◌, ap, subst, sym}
use Rattle.pc_protocol.specs.Protocol.{others}
use Rattle.pc_protocol.specs.Seats.{SetsStage}
use Rattle.pc_protocol.specs.Turning.{LooksAt}
use Rattle.pc_protocol.specs.declared.seats.Stage.TheVariants as kept_stage
use Rattle.pc_protocol.proofs.Doing.{cpus_read, does_look}
use Rattle.pc_protocol.proofs.machine.Protocol.look.Goals.{then-look, else-look+in_ok-left}
use Rattle.pc_protocol.proofs.machine.Protocol.look.Goals as goal

pub returns : goal.returns
returns c =
    let look = c.in-Some.look in
    let old = c.args.self in
    does_look old _ c.args.cpu look c.if-look.left old.manned c.requires (subst (LooksAt c.args.cpu old.world c.read_queue.new.world) c.in-Some.is c.in_ok-look.ensures)
    (λ w h. elim c.if-look.branch [
      | then-look x ↦ ap (λ v. v.items) x.left-is ∙ x.new-left.ensures.items ∙ sym (ap (λ b. if b then [] else others c.args.cpu w.kernel.limits.cpus) x.if-look.true)
      | else-look+in_ok-left x ↦
          ap (λ v. v.items) x.left-is ∙ x.in_ok-left.ensures ∙ ap (others c.args.cpu) (c.cpus-cpus.ensures.count ∙ cpus_read old.world c.kernel.result.now c.kernel.ensures w h)
          ∙ sym (ap (λ b. if b then [] else others c.args.cpu w.kernel.limits.cpus) x.if-look.false)
    ]) (subst (λ d. SetsStage d (kept_stage.Puts look.aseq look.delta c.if-look.left) old.seats.items c.set_stage.new.seats.items) c.index.ensures c.set_stage.ensures.sets)
