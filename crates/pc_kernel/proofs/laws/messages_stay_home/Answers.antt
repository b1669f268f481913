use Rattle.pc_kernel.proofs.AlwaysEvery.{always_kept}
use Rattle.pc_kernel.proofs.laws.messages_stay_home.Goals as goal

pub returns : goal.returns
returns c limits calls t =
    let h = always_kept limits calls in
    let l = h.last t in
    record { elsewhere = h.elsewhere t; last = (l.few, l.is) }
