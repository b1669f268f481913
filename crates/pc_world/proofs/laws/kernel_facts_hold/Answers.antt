use Rattle.std.proofs.Common.{◌≡◌, nat_lt, sym, subst}
use Rattle.pc_messages.specs.Run.{IsBegun}
use Rattle.pc_kernel.specs.Facts.{HadNoPost, IsAtHome, IsPlaced}
use Rattle.pc_kernel.specs.PlainKernel.{PlainKernel, kinds, is_known, threads}
use Rattle.pc_world.proofs.Reaching.{reached_good}
use Rattle.pc_world.proofs.laws.kernel_facts_hold.Goals as goal

pub returns-clause-home : goal.returns-clause-home
returns-clause-home c limits w t reached =
    let laws = c.kernel_laws.ensures in
    let h = reached_good laws limits w reached in
    subst (λ P. IsAtHome P t) (sym h.replayed) (laws.home limits h.calls t)

pub returns-clause-placed : goal.returns-clause-placed
returns-clause-placed c limits w cpu t reached =
    let laws = c.kernel_laws.ensures in
    let h = reached_good laws limits w reached in
    subst (λ P. IsPlaced P cpu t) (sym h.replayed) (laws.placed limits h.calls cpu t)

pub returns-clause-rested : goal.returns-clause-rested
returns-clause-rested c limits w cpu reached =
    let laws = c.kernel_laws.ensures in
    let h = reached_good laws limits w reached in
    subst (λ P. HadNoPost P cpu) (sym h.replayed) (laws.rested limits h.calls cpu)

pub returns-clause-begun : goal.returns-clause-begun
returns-clause-begun c limits w t reached =
    let laws = c.kernel_laws.ensures in
    let h = reached_good laws limits w reached in
    subst (λ (P : PlainKernel). IsBegun (kinds P t)) (sym h.replayed) (laws.begun limits h.calls t)

pub returns-clause-dense : goal.returns-clause-dense
returns-clause-dense c limits w t reached =
    let laws = c.kernel_laws.ensures in
    let h = reached_good laws limits w reached in
    subst (λ (P : PlainKernel). is_known P t ≡ nat_lt t (threads P)) (sym h.replayed) (laws.dense limits h.calls t)
