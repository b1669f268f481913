use Rattle.pc_kernel.specs.PlainKernel.{start}
use Rattle.pc_kernel.specs.Steps.{replay}
use Rattle.pc_kernel.proofs.AlwaysEvery.{always_kept, dense}
use Rattle.pc_kernel.proofs.laws.runs_are_begun.Goals as goal

pub returns-clause-begun : goal.returns-clause-begun
returns-clause-begun c limits calls t = (always_kept limits calls).begun t

pub returns-clause-dense : goal.returns-clause-dense
returns-clause-dense c limits calls t = dense (replay (start limits) calls) (always_kept limits calls) t
