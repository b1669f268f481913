-- What holds by the reads of one kernel and some steps holds by those that equal them.
use Rattle.std.proofs.Common.{◌≡◌, List, ◌∙◌, ap}
use Rattle.pc_kernel.specs.Reads.{Reads}
use Rattle.pc_advice.specs.declared.plan.PlannedStep.{PlannedStep}

pub by_reads : {A : Type 0} (f : Reads → List PlannedStep → A) (r other : Reads) (steps others : List PlannedStep) (result : A) →
    result ≡ f r steps → r ≡ other → steps ≡ others → result ≡ f other others
by_reads f r other steps others result e reads same = e ∙ ap (λ some. f some steps) reads ∙ ap (f other) same
