use Rattle.std.proofs.Common.{◌∙◌, ◌||◌, refl, ap, subst, sym}
use Rattle.pc_protocol.specs.Following.{TellsUnless}
use Rattle.pc_protocol.specs.Seats.{HasNote, IsDueAt, PutsNext}
use Rattle.pc_protocol.specs.declared.seats.Due.TheVariants as due
use Rattle.pc_protocol.proofs.Doing.{does_put}
use Rattle.pc_protocol.proofs.machine.Protocol.put.Goals.{then-has_note, else-has_note}
use Rattle.pc_protocol.proofs.machine.Protocol.put.Goals as goal

pub put_next-requires-clause-due : goal.put_next-requires-clause-due
put_next-requires-clause-due c = subst (λ d. IsDueAt c.args.self.seats.items d due.Put) (sym c.index.ensures) c.requires.due

pub returns : goal.returns
returns c =
    does_put c.args.self _ c.args.cpu c.in-Some.put.delta c.in-Some.put.to c.put_next.new.seats.items c.leave_mail.new.seats.items c.has_note-has_note.result c.is_quiet-is_quiet.result c.args.self.manned c.requires.due refl
    (subst (λ d. PutsNext d c.in-Some.put.delta c.in-Some.put.to c.args.self.seats.items c.put_next.new.seats.items) c.index.ensures c.in-Some.ensures.strikes)
    (subst (λ l. HasNote l c.in-Some.put.to c.has_note-has_note.result) c.deref.ensures.value c.has_note-has_note.ensures) c.is_quiet-is_quiet.ensures c.in_ok-leave_mail.ensures.leaves
    (subst (λ b. TellsUnless b c.in-Some.put.to c.leave_mail.new.seats.items c.tell_unless.new.seats.items) (elim c.if-has_note.branch [
      | then-has_note w ↦ w.tell_unless-is ∙ w.if-has_note.true ∙ sym (ap (λ b. b || c.is_quiet-is_quiet.result) w.if-has_note.true)
      | else-has_note w ↦ w.tell_unless-is ∙ sym (ap (λ b. b || c.is_quiet-is_quiet.result) w.if-has_note.false)
    ]) c.in_ok-tell_unless.ensures.told)
