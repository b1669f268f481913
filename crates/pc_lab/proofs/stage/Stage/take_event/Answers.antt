use Rattle.std.proofs.Common.{◌+◌, ◌∙◌, ℕ, Bool, Some, if◌then◌else◌, sym, ap, subst, arith}
use Rattle.pc_lab.specs.Stages.{IsRun, MayCome, Now}
use Rattle.pc_lab.proofs.Staging.{goes_on}
use Rattle.pc_lab.proofs.stage.Stage.take_event.Goals as goal

pub invariant_of-self-2 : goal.invariant_of-self-2
invariant_of-self-2 g c =
    let old = c.self.inside in
    let run = c.self.invariant.0 c.if-self.false in
    let came = c.in_ok-self-inside-2.field-0 in
    let next_one = subst (λ (now : Now). MayCome g.K.Setting.load now c.args.event) (sym c.self.view_is) c.requires.0 in
    let next =
    goes_on g.K.Setting.load g.K.Setting.policy g.K.Setting.before old.world c.step.new.self old.chronicle c.add.new.self old.told old.tick old.events old.tally
    c.add-2.new.self old.waits.ended.items c.note.new.self.ended.items old.waits.waiters.items c.note.new.self.waiters.items old.came came c.args.event c.in-Ok.reply run
    c.self.invariant.1 next_one c.is_in_range.ensures c.requires.1 c.in-Ok.ensures.step c.in_ok-add.ensures c.in_ok-add-2.ensures.ok c.in_ok-note.ensures.many
    c.in_ok-note.ensures.ended c.in_ok-note.ensures.known c.in_ok-note.ensures.next
    (c.in_ok-self-inside-2.ensures ∙ ap (λ (b : Bool). old.came + (if b then 1 else 0)) (c.has_come.ensures old.tick)) in
    let counted =
    subst
    (λ (n : ℕ). IsRun g.K.Setting.load g.K.Setting.policy g.K.Setting.before c.step.new.self c.add.new.self (Some old.tick) n c.add-2.new.self
    c.note.new.self.ended.items c.note.new.self.waiters.items came) (sym c.in_ok-self-inside.ensures) next in
    (λ cut. counted, omega arith, c.want.ensures.kept, c.want.ensures.many ∙ c.settle_for.ensures.many ∙ c.self.invariant.3)
