use Rattle.std.proofs.Common.{◌∙◌, IfOk, subst, sym}
use Rattle.pc_protocol.specs.Machine.{Does}
use Rattle.pc_protocol.specs.declared.seats.Due.TheVariants as due
use Rattle.pc_protocol.proofs.Doing.{due_as, low_as}
use Rattle.pc_protocol.proofs.machine.Protocol.step.Goals.{in-Look, in-Put, in-Act, in-Take}
use Rattle.pc_protocol.proofs.machine.Protocol.step.Goals as goal

pub look-done-requires : goal.look-done-requires
look-done-requires c = due_as c.deref.result.now c.args.self.seats.items c.index-place.result c.args.cpu c.in-Some.due due.Look c.deref.ensures.value c.index-place.ensures c.in-Look.is c.in-Some.ensures.due

pub put-done-requires-clause-due : goal.put-done-requires-clause-due
put-done-requires-clause-due c = due_as c.deref.result.now c.args.self.seats.items c.index-place.result c.args.cpu c.in-Some.due due.Put c.deref.ensures.value c.index-place.ensures c.in-Put.is c.in-Some.ensures.due

pub put-done-requires-clause-low : goal.put-done-requires-clause-low
put-done-requires-clause-low c = low_as c.deref.result.now c.args.self.seats.items c.index-place.result c.args.cpu c.args.choice c.deref.ensures.value c.index-place.ensures c.in-Some.ensures.low

pub act-done-requires : goal.act-done-requires
act-done-requires c =
    due_as c.deref.result.now c.args.self.seats.items c.index-place.result c.args.cpu c.in-Some.due (due.Act c.in-Act.aseq) c.deref.ensures.value c.index-place.ensures c.in-Act.is c.in-Some.ensures.due

pub take-done-requires-clause-due : goal.take-done-requires-clause-due
take-done-requires-clause-due c = due_as c.deref.result.now c.args.self.seats.items c.index-place.result c.args.cpu c.in-Some.due due.Take c.deref.ensures.value c.index-place.ensures c.in-Take.is c.in-Some.ensures.due

pub take-done-requires-clause-low : goal.take-done-requires-clause-low
take-done-requires-clause-low c = low_as c.deref.result.now c.args.self.seats.items c.index-place.result c.args.cpu c.args.choice c.deref.ensures.value c.index-place.ensures c.in-Some.ensures.low

pub returns-in-Ok-clause-step : goal.returns-in-Ok-clause-step
returns-in-Ok-clause-step c = elim c.match-due.branch [
  | in-Look w ↦ subst (λ r. IfOk r (Does c.args.cpu c.args.self)) (sym w.done-is ∙ c.in-Ok.is) w.look-done.ensures
  | in-Put w ↦ subst (λ r. IfOk r (Does c.args.cpu c.args.self)) (sym w.done-is ∙ c.in-Ok.is) w.put-done.ensures
  | in-Act w ↦ subst (λ r. IfOk r (Does c.args.cpu c.args.self)) (sym w.done-is ∙ c.in-Ok.is) w.act-done.ensures
  | in-Take w ↦ subst (λ r. IfOk r (Does c.args.cpu c.args.self)) (sym w.done-is ∙ c.in-Ok.is) w.take-done.ensures
]
