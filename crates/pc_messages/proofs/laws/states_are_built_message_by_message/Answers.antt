use Rattle.std.proofs.Common.{◌≡◌, ◌+◌, true, false, List, [], ◌∷◌, ◌++◌, Some, refl, sym, ◌∙◌, ap, arith}
use Rattle.std.proofs.lemmas.List.{append-nil, append_assoc}
use Rattle.std.proofs.lemmas.List.Sums.{sum_by-append, sum_by-cons}
use Rattle.pc_messages.specs.Built.{Applies, Leads, Builds}
use Rattle.pc_messages.specs.Run.{is_created}
use Rattle.pc_messages.specs.State.{state_of, ran_given, ran_of}
use Rattle.pc_messages.specs.declared.kind.Kind.{Kind}
use Rattle.pc_messages.specs.declared.kind.Kind.TheVariants.{Created, Blocked, Preempted, Yield, Dead, Wakeup, Affinity, Priority}
use Rattle.pc_messages.specs.declared.reported.Reported.{Reported}
use Rattle.pc_messages.proofs.States.{parts_of, state_after, state_of-push}
use Rattle.pc_messages.proofs.laws.states_are_built_message_by_message.Goals as goal

-- a Created has a state
first_state : (kind : Kind) → is_created kind ≡ true → (first : Reported) × (state_of (kind ∷ []) ≡ Some first)
first_state (Created true mask) e = (_, refl)
first_state (Created false mask) e = (_, refl)
first_state (Blocked ran) e = cc
first_state (Preempted ran) e = cc
first_state (Yield ran) e = cc
first_state (Dead ran) e = cc
first_state Wakeup e = cc
first_state (Affinity mask) e = cc
first_state (Priority level) e = cc

applies_after : (state : Reported) (kind : Kind) → Applies state kind (state_after state kind)
applies_after state kind = record { folded = λ kinds e. state_of-push kinds state kind e; ran = refl }

-- from every state the calls lead on
leads_on : (state : Reported) (kinds : List Kind) → (after : Reported) × Leads state kinds after
leads_on state [] = (state, refl)
leads_on state (kind ∷ kinds) =
    let next = state_after state kind in
    let more = leads_on next kinds in
    (more.0, (next, applies_after state kind, more.1))

-- to the state of the list with what came before
leads_whole : (front kinds : List Kind) (before after : Reported) → state_of front ≡ Some before → Leads before kinds after → state_of (front ++ kinds) ≡ Some after
leads_whole front [] before after e same = ap state_of (append-nil front) ∙ e ∙ ap (λ (r : Reported). Some r) (sym same)
leads_whole front (kind ∷ kinds) before after e h =
    ap state_of (sym (append_assoc front (kind ∷ []) kinds)) ∙ leads_whole (front ++ kind ∷ []) kinds h.0 after (h.1.folded front e) h.2

builds_whole : (kinds : List Kind) (state : Reported) → Builds kinds state → state_of kinds ≡ Some state
builds_whole [] state h = absurd h
builds_whole (kind ∷ kinds) state h = leads_whole (kind ∷ []) kinds h.0 state h.1 h.2

pub returns-clause-there : goal.returns-clause-there
returns-clause-there c kind kinds begun =
    let first = first_state kind begun.0 in
    let more = leads_on first.0 kinds in
    (more.0, (first.0, first.1, more.1))

pub returns-clause-whole : goal.returns-clause-whole
returns-clause-whole c kinds state h = builds_whole kinds state h

pub returns-clause-fits : goal.returns-clause-fits
returns-clause-fits c kinds more kind state h low =
    let ran = (parts_of kinds state (builds_whole kinds state h)).ran in
    let all : ran_of (kinds ++ kind ∷ more) ≡ ran_of kinds + ran_of (kind ∷ more) = sum_by-append ran_given kinds (kind ∷ more) in
    let next : ran_of (kind ∷ more) ≡ ran_given kind + ran_of more = sum_by-cons ran_given kind more in
    omega arith
