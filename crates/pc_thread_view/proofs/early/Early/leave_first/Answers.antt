use Rattle.std.proofs.Common.{◌+◌, drop, ap, ◌∙◌, sym}
use Rattle.pc_thread_view.specs.Inner.Early.{early_of}
use Rattle.pc_thread_view.proofs.Slots.{drop_one}
use Rattle.pc_thread_view.proofs.early.Early.leave_first.Goals as goal

pub returns-in-Many : goal.returns-in-Many
returns-in-Many c = ap (λ s. drop (s.front + 1) s.slots.items) c.deref_mut.ensures.value ∙ drop_one c.in-Many.held.value.front c.in-Many.held.value.slots.items ∙ sym (ap (λ form. drop 1 (early_of form).items) c.in-Many.is) ∙ ap (λ v. drop 1 v.items) c.self.view_is
