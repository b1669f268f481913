use Rattle.std.proofs.Common.{◌∙◌, ◌<◌, length, subst, sym}
use Rattle.pc_protocol.specs.Seats.{EmptiesMail, IsDueAt, SetsStage, TakesNote}
use Rattle.pc_protocol.specs.Turning.{TakesInAll}
use Rattle.pc_protocol.specs.declared.seats.Due.TheVariants as due
use Rattle.pc_protocol.specs.declared.seats.Stage.TheVariants as kept_stage
use Rattle.pc_protocol.proofs.Doing.{does_take, due_low, manned_follow, manned_take_in}
use Rattle.pc_protocol.proofs.machine.Protocol.take.Goals as goal

pub take_note-requires-clause-due : goal.take_note-requires-clause-due
take_note-requires-clause-due c = subst (λ d. IsDueAt c.args.self.seats.items d due.Take) (sym c.index-place.ensures) c.requires.due

pub take_mail-mail-requires : goal.take_mail-mail-requires
take_mail-mail-requires c =
    let low = due_low c.args.self.seats.items c.args.cpu due.Take c.requires.due in
    subst (λ n. c.index-place.result < n) (sym c.take_note.ensures.count) (subst (λ d. d < length c.args.self.seats.items) (sym c.index-place.ensures) low)

pub set_stage-requires : goal.set_stage-requires
set_stage-requires c =
    let low = due_low c.args.self.seats.items c.args.cpu due.Take c.requires.due in
    subst (λ n. c.index-place.result < n) (sym (c.in_ok-follow.ensures.count ∙ c.take_mail-mail.ensures.count ∙ c.take_note.ensures.count)) (subst (λ d. d < length c.args.self.seats.items) (sym c.index-place.ensures) low)

pub invariant_of-result : goal.invariant_of-result
invariant_of-result c =
    let old = c.args.self in record {
      manned = manned_follow c.kernel_laws.ensures c.args.cpu c.in-Some.note due.Take c.take_in.new.world c.follow.new.world old.seats.items c.set_stage.new.seats.items c.take_mail-mail.new.seats.items c.follow.new.seats.items
          c.is_reached-2.ensures
          (manned_take_in c.kernel_laws.ensures c.args.cpu c.take_mail-mail.result.items old.world c.take_in.new.world old.seats.items c.is_reached.ensures old.manned (subst (λ l. TakesInAll c.args.cpu l old.world c.take_in.new.world) c.deref.ensures.value c.in_ok-take_in.ensures))
          (c.set_stage.ensures.count ∙ c.in_ok-follow.ensures.count ∙ c.take_mail-mail.ensures.count ∙ c.take_note.ensures.count) c.requires.due c.in_ok-follow.ensures.follows;
    }

pub returns : goal.returns
returns c =
    let old = c.args.self in
    does_take old _ c.args.cpu c.in-Some.note c.take_mail-mail.result.items c.take_in.new.world c.take_note.new.seats.items c.take_mail-mail.new.seats.items c.follow.new.seats.items
    (manned_take_in c.kernel_laws.ensures c.args.cpu c.take_mail-mail.result.items old.world c.take_in.new.world old.seats.items c.is_reached.ensures old.manned (subst (λ l. TakesInAll c.args.cpu l old.world c.take_in.new.world) c.deref.ensures.value c.in_ok-take_in.ensures)) old.manned c.requires.due
    (subst (λ d. TakesNote d c.in-Some.note old.seats.items c.take_note.new.seats.items) c.index-place.ensures c.in-Some.ensures.takes)
    (subst (λ d. EmptiesMail d c.take_mail-mail.result.items c.take_note.new.seats.items c.take_mail-mail.new.seats.items) c.index-place.ensures c.take_mail-mail.ensures.empties)
    (subst (λ l. TakesInAll c.args.cpu l old.world c.take_in.new.world) c.deref.ensures.value c.in_ok-take_in.ensures) c.in_ok-follow.ensures.follows
    (subst (λ d. SetsStage d kept_stage.Begins c.follow.new.seats.items c.set_stage.new.seats.items) c.index-place.ensures c.set_stage.ensures.sets)
