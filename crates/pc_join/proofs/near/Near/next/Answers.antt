use Rattle.std.proofs.Common.{subst}
use Rattle.pc_join.specs.Inner.Near.{FindsPlace}
use Rattle.pc_join.proofs.Indexed.{next_now}
use Rattle.pc_join.proofs.near.Near.next.Goals as goal

pub returns : goal.returns
returns g c = next_now c.self.inside.places.items c.self.inside.entries.items c.args.self.now c.self.view_is c.self.invariant c.args.from c.next_name.result
    (subst (λ ps. FindsPlace ps c.args.from c.next_name.result) c.as_slice.ensures.value c.next_name.ensures)
