use Rattle.std.proofs.lemmas.Bool.{lt-ltb}
use Rattle.pc_kernel.specs.PlainKernel.{PlainKernel, start}
use Rattle.pc_kernel.specs.Steps.{replay}
use Rattle.pc_kernel.proofs.AlwaysEvery.{always_kept}
use Rattle.pc_kernel.proofs.laws.homes_are_there.Goals as goal

pub returns : goal.returns
returns c limits calls t known =
    let P : PlainKernel = replay (start limits) calls in
    lt-ltb (P.home t) P.limits.cpus ((always_kept limits calls).homes t known)
