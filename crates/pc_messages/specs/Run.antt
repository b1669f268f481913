-- Runs: the kinds of each thread's messages, in order.
use Rattle.std.specs.Prelude.{ℕ, ◌-◌, ◌≤◌, ◌≡◌, ◌↔◌, ◌==◌, Bool, true, false, IsTrue, IsFalse, List, [], ◌∷◌, ◌++◌}
use Rattle.std.specs.Prelude.{Option, None, cond, slice_get, All}
use Rattle.pc_messages.specs.declared.message.TheConstants.{GREATEST_NUMBER}
use Rattle.pc_messages.specs.declared.kind.Kind.{Kind}
use Rattle.pc_messages.specs.declared.kind.Kind.TheVariants.{Created, Blocked, Preempted, Yield, Dead, Wakeup, Affinity}
use Rattle.pc_messages.specs.declared.kind.Kind.TheVariants.{Priority}

-- the kind is that of a first message
abbrev pub is_created : Kind → Bool
is_created (Created ready mask) = true
is_created (Blocked ran) = false
is_created (Preempted ran) = false
is_created (Yield ran) = false
is_created (Dead ran) = false
is_created Wakeup = false
is_created (Affinity mask) = false
is_created (Priority level) = false

-- of each thread, the kinds of its messages, in order
abbrev pub Run : Type 0
Run = ℕ → List Kind

-- empty, or a Created and no other one after it
abbrev pub IsBegun : List Kind → Type 0
IsBegun [] = Unit {0}
IsBegun (kind ∷ kinds) = IsTrue (is_created kind) × All (λ k. IsFalse (is_created k)) kinds

-- each thread's list is begun as it has to be
abbrev pub IsRun : Run → Type 0
IsRun run = (t : ℕ) → IsBegun (run t)

-- the kind of a thread's message with this number, where there is one; the first message has number 1
abbrev pub kind_at : List Kind → ℕ → Option Kind
kind_at kinds number = cond (number == 0) None (slice_get kinds (number - 1))

-- one run goes on from another
abbrev pub Extends : Run → Run → Type 0
Extends longer shorter = (t : ℕ) → (more : List Kind) × (longer t ≡ shorter t ++ more)

-- a message may have this number and kind: the number is 1 to 16,000,000, and the kind is a Created exactly where it
-- is 1
pub record IsWellFormed (number : ℕ) (kind : Kind) : Type 0 where
  pub from_one : 1 ≤ number
  pub greatest : number ≤ GREATEST_NUMBER
  pub created : IsTrue (is_created kind) ↔ (number ≡ 1)
