-- A thread that leaves its CPU is not created by it, and not committed.
use Rattle.std.proofs.Common.{ℕ, refl}
use Rattle.pc_calls.specs.Leavings.{call_for}
use Rattle.pc_calls.specs.declared.event.Event.TheVariants.{Env}
use Rattle.pc_calls.specs.declared.leaving.Leaving.{Leaving}
use Rattle.pc_calls.specs.declared.leaving.Leaving.TheVariants.{Yield, Block, Preempt, Die}
use Rattle.pc_lab.specs.Creations.{CreatesNone}
use Rattle.pc_lab.specs.Moments.{IsPlayable}

pub leaves : (leaving : Leaving) (cpu ran : ℕ) → CreatesNone (Env (call_for leaving cpu ran)) × IsPlayable (Env (call_for leaving cpu ran))
leaves Yield cpu ran = (λ tick. refl, (tt, tt))
leaves Block cpu ran = (λ tick. refl, (tt, tt))
leaves Preempt cpu ran = (λ tick. refl, (tt, tt))
leaves Die cpu ran = (λ tick. refl, (tt, tt))
