-- The state that a list of kinds reports: the last phase, mask and level given, and the sum of all ticks.
use Rattle.std.specs.Prelude.{ℕ, ◌&&◌, Bool, true, false, List, codes, Option, Some, None, sum_by, unwrap_or}
use Rattle.std.specs.List.{filter_map, last_or}
use Rattle.pc_messages.specs.Mask.{allows}
use Rattle.pc_messages.specs.declared.kind.Kind.{Kind}
use Rattle.pc_messages.specs.declared.kind.Kind.TheVariants.{Created, Blocked, Preempted, Yield, Dead, Wakeup, Affinity}
use Rattle.pc_messages.specs.declared.kind.Kind.TheVariants.{Priority}
use Rattle.pc_messages.specs.declared.reported.Phase.{Phase}
use Rattle.pc_messages.specs.declared.reported.Phase.TheVariants as phase
use Rattle.pc_messages.specs.declared.reported.Reported.{Reported}

-- the phase is Ready
abbrev pub is_ready : Phase → Bool
is_ready phase.Ready = true
is_ready phase.Blocked = false
is_ready phase.Dead = false

-- the word for a phase
abbrev pub phase_word : Phase → List ℕ
phase_word phase.Ready = codes "ready"
phase_word phase.Blocked = codes "blocked"
phase_word phase.Dead = codes "dead"

-- a thread of this state may run on the CPU: it is ready, and its mask has the CPU
abbrev pub may_run_on : Reported → ℕ → Bool
may_run_on r cpu = is_ready r.phase && allows r.mask cpu

-- the phase that a kind gives
abbrev pub phase_given : Kind → Option Phase
phase_given (Created true mask) = Some phase.Ready
phase_given (Created false mask) = Some phase.Blocked
phase_given (Blocked ran) = Some phase.Blocked
phase_given (Preempted ran) = Some phase.Ready
phase_given (Yield ran) = Some phase.Ready
phase_given (Dead ran) = Some phase.Dead
phase_given Wakeup = Some phase.Ready
phase_given (Affinity mask) = None
phase_given (Priority level) = None

-- the mask that a kind gives
abbrev pub mask_given : Kind → Option ℕ
mask_given (Created ready mask) = Some mask
mask_given (Blocked ran) = None
mask_given (Preempted ran) = None
mask_given (Yield ran) = None
mask_given (Dead ran) = None
mask_given Wakeup = None
mask_given (Affinity mask) = Some mask
mask_given (Priority level) = None

-- the level that a kind gives
abbrev pub level_given : Kind → Option ℕ
level_given (Created ready mask) = None
level_given (Blocked ran) = None
level_given (Preempted ran) = None
level_given (Yield ran) = None
level_given (Dead ran) = None
level_given Wakeup = None
level_given (Affinity mask) = None
level_given (Priority level) = Some level

-- the ticks that a kind tells of
abbrev pub ran_given : Kind → ℕ
ran_given (Created ready mask) = 0
ran_given (Blocked ran) = ran
ran_given (Preempted ran) = ran
ran_given (Yield ran) = ran
ran_given (Dead ran) = ran
ran_given Wakeup = 0
ran_given (Affinity mask) = 0
ran_given (Priority level) = 0

-- the last thing that f gives of the elements
abbrev pub last_given : {A B : Type 0} → (A → Option B) → List A → Option B
last_given f xs = last_or None (filter_map f xs)

-- the phase of a list of kinds: the last that one of them gives
abbrev pub phase_of : List Kind → Option Phase
phase_of kinds = last_given phase_given kinds

-- the mask of a list of kinds, that of the last Created or Affinity
abbrev pub mask_of : List Kind → Option ℕ
mask_of kinds = last_given mask_given kinds

-- the level of a list of kinds, that of the last Priority, or 0
abbrev pub level_of : List Kind → ℕ
level_of kinds = unwrap_or (last_given level_given kinds) 0

-- the ticks of a list of kinds, summed
abbrev pub ran_of : List Kind → ℕ
ran_of kinds = sum_by ran_given kinds

-- the state with this phase and mask, where there are both
abbrev pub report : Option Phase → Option ℕ → ℕ → ℕ → Option Reported
report (Some phase) (Some mask) ran level = Some record { phase = phase; mask = mask; ran = ran; level = level }
report (Some phase) None ran level = None
report None mask ran level = None

-- the state of a list of kinds; none of an empty one
abbrev pub state_of : List Kind → Option Reported
state_of kinds = report (phase_of kinds) (mask_of kinds) (ran_of kinds) (level_of kinds)
