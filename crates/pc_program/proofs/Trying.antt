-- What is so of each of the runs that were tried, behind one more.
use Rattle.std.proofs.Common.{◌≡◌, refl, subst, Result, Ok, Err, IfOk}
use Rattle.pc_seeds.specs.Ending.{IfReported, IfStalledBookTells}
use Rattle.pc_seeds.specs.declared.ending.Ended.{Ended}
use Rattle.pc_seeds.specs.declared.ending.Ended.TheVariants.{Reported, Stalled}
use Rattle.pc_threads.specs.Reports.{AddsUp, DoesAll, TellsItsBook}
use Rattle.pc_threads.specs.Settings.{Settings}
use Rattle.pc_threads.specs.declared.book.settling.RunFault.{RunFault}
use Rattle.pc_threads.specs.declared.book.settling.RunFault.TheVariants as run
use Rattle.pc_threads.specs.declared.report.LoadReport.{LoadReport}
use Rattle.pc_program.specs.Seeds.{MayEnd, told_of}
use Rattle.pc_program.specs.declared.ending.Unsettled.{Unsettled}

-- a run that has no fault ends so, where it was told so
ends_so : (settings : Settings) (ran : Result Ended RunFault) (told : Result (Result LoadReport Unsettled) RunFault) → told_of ran ≡ told → IfOk ran (IfReported TellsItsBook) → IfOk ran (IfReported AddsUp)
    → IfOk ran (IfReported (DoesAll settings)) → IfOk ran (IfStalledBookTells settings) → IfOk told (λ ended. MayEnd ended settings)
ends_so settings (Ok (Reported report)) told is tells adds_up all stalled = subst (λ given. IfOk given (λ ended. MayEnd ended settings)) is (tells, adds_up, all)
ends_so settings (Ok (Stalled stall book)) told is tells adds_up all stalled = subst (λ given. IfOk given (λ ended. MayEnd ended settings)) is (book, stalled)
ends_so settings (Err (run.Audit cpu)) told is tells adds_up all stalled = subst (λ given. IfOk given (λ ended. MayEnd ended settings)) is tt
ends_so settings (Err (run.Incomplete thread)) told is tells adds_up all stalled = subst (λ given. IfOk given (λ ended. MayEnd ended settings)) is tt
ends_so settings (Err (run.Driver refusal)) told is tells adds_up all stalled = subst (λ given. IfOk given (λ ended. MayEnd ended settings)) is tt
ends_so settings (Err (run.GaveUp cpu)) told is tells adds_up all stalled = subst (λ given. IfOk given (λ ended. MayEnd ended settings)) is tt
ends_so settings (Err run.TimeUp) told is tells adds_up all stalled = subst (λ given. IfOk given (λ ended. MayEnd ended settings)) is tt
ends_so settings (Err run.Unaccounted) told is tells adds_up all stalled = subst (λ given. IfOk given (λ ended. MayEnd ended settings)) is tt
ends_so settings (Err run.StartFailed) told is tells adds_up all stalled = subst (λ given. IfOk given (λ ended. MayEnd ended settings)) is tt
ends_so settings (Err run.OutOfMemory) told is tells adds_up all stalled = subst (λ given. IfOk given (λ ended. MayEnd ended settings)) is tt

-- a run that was told so may end so
pub may_end : (settings : Settings) (ran : Result Ended RunFault) (ended : Result LoadReport Unsettled) → told_of ran ≡ Ok ended → IfOk ran (IfReported TellsItsBook) → IfOk ran (IfReported AddsUp)
    → IfOk ran (IfReported (DoesAll settings)) → IfOk ran (IfStalledBookTells settings) → MayEnd ended settings
may_end settings ran ended is tells adds_up all stalled = ends_so settings ran (Ok ended) is tells adds_up all stalled

-- a fault that ends all, of a run whose threads start, is want of memory
pub lacks_memory : (ran : Result Ended RunFault) (fault : RunFault) → told_of ran ≡ Err fault → (ran ≡ Err run.StartFailed → ⊥) → fault ≡ run.OutOfMemory
lacks_memory (Ok (Reported report)) fault is starts = absurd cc
lacks_memory (Ok (Stalled stall book)) fault is starts = absurd cc
lacks_memory (Err (run.Audit cpu)) fault is starts = absurd cc
lacks_memory (Err (run.Incomplete thread)) fault is starts = absurd cc
lacks_memory (Err (run.Driver refusal)) fault is starts = absurd cc
lacks_memory (Err (run.GaveUp cpu)) fault is starts = absurd cc
lacks_memory (Err run.TimeUp) fault is starts = absurd cc
lacks_memory (Err run.Unaccounted) fault is starts = absurd cc
lacks_memory (Err run.StartFailed) fault is starts = absurd (starts refl)
lacks_memory (Err run.OutOfMemory) fault is starts = cc
