-- Whether the same is told of a thread, as a test.
use Rattle.std.specs.Prelude.{ℕ, ◌==◌, ◌&&◌, cond, Bool, List, [], ◌∷◌, Option, Some, None}
use Rattle.std.specs.Cmp.Lexicographic.{pointwise}
use Rattle.pc_messages.specs.declared.kind.Kind.{Kind}
use Rattle.pc_messages.specs.declared.kind.Kind.TheVariants.{Created, Blocked, Preempted, Yield, Dead, Wakeup, Affinity}
use Rattle.pc_messages.specs.declared.kind.Kind.TheVariants.{Priority}
use Rattle.pc_messages.specs.declared.reported.Phase.{Phase}
use Rattle.pc_messages.specs.declared.reported.Phase.TheVariants as phase
use Rattle.pc_messages.specs.declared.reported.Reported.{Reported}
use Rattle.pc_thread_view.specs.Told.{Told}

-- the lists have the same numbers
abbrev pub same_numbers : List ℕ → List ℕ → Bool
same_numbers xs ys = pointwise (λ x y. x == y) xs ys

-- a kind, written as numbers
abbrev pub written : Kind → List ℕ
written (Created ready mask) = 0 ∷ mask ∷ cond ready 1 0 ∷ []
written (Blocked ran) = 1 ∷ ran ∷ []
written (Preempted ran) = 2 ∷ ran ∷ []
written (Yield ran) = 3 ∷ ran ∷ []
written (Dead ran) = 4 ∷ ran ∷ []
written Wakeup = 5 ∷ []
written (Affinity mask) = 6 ∷ mask ∷ []
written (Priority level) = 7 ∷ level ∷ []

-- a phase, as a number
abbrev pub phase_number : Phase → ℕ
phase_number phase.Ready = 0
phase_number phase.Blocked = 1
phase_number phase.Dead = 2

-- a state, written as numbers
abbrev pub state_numbers : Option Reported → List ℕ
state_numbers None = []
state_numbers (Some r) = phase_number r.phase ∷ r.mask ∷ r.ran ∷ r.level ∷ []

-- the same messages
abbrev pub is_same_early : List (ℕ × Kind) → List (ℕ × Kind) → Bool
is_same_early ds es = pointwise (λ d e. (d.0 == e.0) && same_numbers (written d.1) (written e.1)) ds es

-- the same prefix, state and messages
abbrev pub is_same_told : Told → Told → Bool
is_same_told a b =
    (a.upto == b.upto) &&
    (same_numbers (state_numbers a.state) (state_numbers b.state) && is_same_early a.early b.early)
