-- How threads leave their CPUs.
use Rattle.std.specs.Prelude.{ℕ, Bool, ◌||◌, bytes_eq, List, codes, Option, Some, None}
use Rattle.pc_calls.specs.declared.call.EnvCall.{EnvCall}
use Rattle.pc_calls.specs.declared.call.EnvCall.TheVariants as env
use Rattle.pc_calls.specs.declared.leaving.Leaving.{Leaving}
use Rattle.pc_calls.specs.declared.leaving.Leaving.TheVariants.{Yield, Block, Preempt, Die}
use Rattle.pc_calls.specs.declared.leaving.Left.{Left}

-- the word for how a thread leaves its CPU
abbrev pub leaving_word : Leaving → List ℕ
leaving_word Yield = codes "yield"
leaving_word Block = codes "block"
leaving_word Preempt = codes "preempt"
leaving_word Die = codes "die"

-- the word is one of these
abbrev pub is_leaving : List ℕ → Bool
is_leaving word =
    bytes_eq word (leaving_word Yield) || bytes_eq word (leaving_word Block) || bytes_eq word (leaving_word Preempt)
    || bytes_eq word (leaving_word Die)

-- the thread on a CPU leaves it so, after it ran for so many ticks
abbrev pub leaves : ℕ → Leaving → ℕ → Left
leaves cpu leaving ran = record { cpu = cpu; leaving = leaving; ran = ran }

-- the call by which the thread on a CPU leaves it so, after it ran for so many ticks
abbrev pub call_for : Leaving → ℕ → ℕ → EnvCall
call_for Yield cpu ran = env.YieldNow cpu ran
call_for Block cpu ran = env.Block cpu ran
call_for Preempt cpu ran = env.Preempt cpu ran
call_for Die cpu ran = env.Die cpu ran

-- the call by which a thread leaves its CPU
abbrev pub call_by : Left → EnvCall
call_by left = call_for left.leaving left.cpu left.ran

-- how the thread on a CPU leaves it by a call; none where none does
abbrev pub left_by : EnvCall → Option Left
left_by (env.YieldNow cpu ran) = Some (leaves cpu Yield ran)
left_by (env.Block cpu ran) = Some (leaves cpu Block ran)
left_by (env.Preempt cpu ran) = Some (leaves cpu Preempt ran)
left_by (env.Die cpu ran) = Some (leaves cpu Die ran)
left_by _ = None
