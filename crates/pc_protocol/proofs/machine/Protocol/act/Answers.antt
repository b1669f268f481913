use Rattle.std.proofs.Common.{◌≡◌, ◌∙◌, false, true, length, ap, subst, sym}
use Rattle.std.proofs.lemmas.Bool.{false≢true}
use Rattle.pc_protocol.specs.Following.{AsksByWorld}
use Rattle.pc_protocol.specs.Seats.{SetsStage}
use Rattle.pc_protocol.proofs.Doing.{does_act, manned_act, manned_sleep}
use Rattle.pc_protocol.proofs.machine.Protocol.act.Goals.{then-asks+in_ok-ask, else-asks}
use Rattle.pc_protocol.proofs.machine.Protocol.act.Goals as goal

pub invariant_of-result : goal.invariant_of-result
invariant_of-result c =
    let old = c.args.self in
    let asked : length c.if-asks.seats.items ≡ length old.seats.items = elim c.if-asks.branch [
      | then-asks+in_ok-ask w ↦ ap (λ v. length v.items) w.seats-is ∙ w.in_ok-ask.ensures.count
      | else-asks w ↦ ap (λ v. length v.items) w.seats-is
    ] in record {
      manned = manned_sleep c.kernel_laws.ensures c.args.cpu c.args.aseq c.in_ok-stage.stage c.act.new.world c.sleep.new.world old.seats.items c.set_stage.new.seats.items c.is_reached-2.ensures
          (manned_act c.kernel_laws.ensures c.args.cpu c.args.aseq old.world c.act.new.world old.seats.items c.in_ok-asks.asks c.is_reached.ensures old.manned c.in_ok-asks.ensures)
          (c.set_stage.ensures.count ∙ asked) c.in_ok-stage.ensures;
    }

pub returns : goal.returns
returns c =
    let old = c.args.self in
    does_act old _ c.args.cpu c.args.aseq c.act.new.world c.in_ok-asks.asks c.if-asks.seats.items c.in_ok-stage.stage
    (manned_act c.kernel_laws.ensures c.args.cpu c.args.aseq old.world c.act.new.world old.seats.items c.in_ok-asks.asks c.is_reached.ensures old.manned c.in_ok-asks.ensures) old.manned c.requires c.in_ok-asks.ensures
    (elim c.if-asks.branch as (λ b. c.in_ok-asks.asks ≡ true → AsksByWorld c.act.new.world c.args.cpu old.seats.items c.if-asks.seats.items) [
      | then-asks+in_ok-ask w ↦ λ e. subst (λ l. AsksByWorld c.act.new.world c.args.cpu old.seats.items l) (sym (ap (λ v. v.items) w.seats-is)) w.in_ok-ask.ensures.asks
      | else-asks w ↦ λ e. absurd (false≢true (sym w.if-asks.false ∙ e))
    ])
    (elim c.if-asks.branch as (λ b. c.in_ok-asks.asks ≡ false → c.if-asks.seats.items ≡ old.seats.items) [
      | then-asks+in_ok-ask w ↦ λ e. absurd (false≢true (sym e ∙ w.if-asks.true))
      | else-asks w ↦ λ e. ap (λ v. v.items) w.seats-is
    ]) c.in_ok-stage.ensures
    (subst (λ d. SetsStage d c.in_ok-stage.stage c.if-asks.seats.items c.set_stage.new.seats.items) c.index.ensures c.set_stage.ensures.sets)
