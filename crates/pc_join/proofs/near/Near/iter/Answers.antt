use Rattle.std.proofs.Common.{sym, subst}
use Rattle.pc_join.specs.Inner.Near.{AreWithin}
use Rattle.pc_join.proofs.Indexed.{all_within, near_now}
use Rattle.pc_join.proofs.near.Near.iter.Goals as goal

pub of-requires : goal.of-requires
of-requires g c = subst (λ ps. AreWithin ps c.as_slice-2.result.now) (sym c.as_slice.ensures.value)
    (subst (λ es. AreWithin c.self.inside.places.items es) (sym c.as_slice-2.ensures.value) (all_within c.self.inside.places.items c.self.inside.entries.items c.self.invariant))

pub returns-clause-near : goal.returns-clause-near
returns-clause-near g c = near_now c.self.inside.places.items c.self.inside.entries.items c.args.self.now c.self.view_is c.self.invariant
