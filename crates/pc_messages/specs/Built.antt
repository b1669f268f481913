-- States that are built message by message, as the clauses of `first` and `apply` say it.
use Rattle.std.specs.Prelude.{◌+◌, ◌≡◌, List, [], ◌∷◌, ◌++◌, Some}
use Rattle.pc_messages.specs.State.{state_of, ran_given}
use Rattle.pc_messages.specs.declared.kind.Kind.{Kind}
use Rattle.pc_messages.specs.declared.reported.Reported.{Reported}

-- what `apply` ensures: each list with the state before it has, with the kind at its end, the state after it
pub record Applies (before : Reported) (kind : Kind) (after : Reported) : Type 0 where
  pub folded : (kinds : List Kind) → state_of kinds ≡ Some before → state_of (kinds ++ kind ∷ []) ≡ Some after
  pub ran : after.ran ≡ before.ran + ran_given kind

-- `apply`, called with one kind after another, leads from the one state to the other
abbrev pub Leads : Reported → List Kind → Reported → Type 0
Leads before [] after = after ≡ before
Leads before (kind ∷ kinds) after = (next : Reported) × Applies before kind next × Leads next kinds after

-- `first`, called with the first kind, has a state, from which `apply` with each next one leads to this one
abbrev pub Builds : List Kind → Reported → Type 0
Builds [] state = ⊥
Builds (kind ∷ kinds) state = (first : Reported) × (state_of (kind ∷ []) ≡ Some first) × Leads first kinds state
