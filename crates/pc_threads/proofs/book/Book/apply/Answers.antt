use Rattle.pc_threads.specs.Pages.{Lists}
use Rattle.pc_threads.proofs.Listing.{accepts, entry_listed, fault_again, listed_again}
use Rattle.pc_threads.proofs.book.Book.apply.Goals as goal

did : (c : goal.After-list) → Lists c.args.call c.in-Ok.answer (record { kernel = c.self.inside.kernel; calls = c.self.inside.calls.items })
    (record { kernel = c.apply.new.self; calls = c.list.new.calls.items })
did c =
    record {
      accepted = accepts c.args.call c.in-Ok.answer c.self.inside.kernel c.apply.new.self c.in-Ok.ensures.answered.step;
      listed = entry_listed c.self.inside.calls.items c.make_room.new.calls.items c.list.new.calls.items (c.args.call, c.in-Ok.answer) c.make_room.ensures.items c.list.ensures;
    }

pub invariant_of-self-in-Ok : goal.invariant_of-self-in-Ok
invariant_of-self-in-Ok c = listed_again _ _ c.args.call c.in-Ok.answer c.in-Ok.ensures.answered.limits c.self.invariant (did c)

pub returns-in-Ok-clause-listed : goal.returns-in-Ok-clause-listed
returns-in-Ok-clause-listed c = rw (← c.self.view_is) (did c)

pub returns-in-Err-clause-fault : goal.returns-in-Err-clause-fault
returns-in-Err-clause-fault c = rw (← c.self.view_is) (fault_again _ _ c.in-Err.fault c.in-Err.ensures.answered.fault)

pub returns-in-Ok-clause-extends : goal.returns-in-Ok-clause-extends
returns-in-Ok-clause-extends c = rw (← c.self.view_is) c.in-Ok.ensures.answered.extends
