-- The protocol as a value: what it shows, and what its calls do to what is shown.
use Rattle.std.specs.Prelude.{ℕ, ◌≡◌, ◌<◌, ◌↔◌, Bool, true, nat_lt, if◌then◌else◌, List, []}
use Rattle.pc_calls.specs.declared.call.EnvCall.{EnvCall}
use Rattle.pc_calls.specs.declared.event.Event.TheVariants.{Crash}
use Rattle.pc_calls.specs.declared.event.Reply.{Reply}
use Rattle.pc_world.specs.Shows.{ShowsWorld}
use Rattle.pc_world.specs.Steps.{Step}
use Rattle.pc_protocol.specs.declared.machine.Protocol.{Protocol as KeptProtocol}
use Rattle.pc_protocol.specs.Protocol.{IsCalledByEnv, OfAgent, Protocol, asks, begins, cpus_of}
use Rattle.pc_protocol.specs.Protocol.{telling_others}
use Rattle.pc_protocol.specs.Resting.{IsAtRest, IsWaiting}
use Rattle.pc_protocol.specs.Seats.{AreSeats}

-- a machine
abbrev pub Machine : Type 0
Machine = KeptProtocol

-- the machine shows this state of the protocol
pub record Shows (machine : Machine) (p : Protocol) : Type 0 where
  pub world : ShowsWorld machine.world p.world
  pub seats : AreSeats machine.seats.items p.stages p.mails p.boxes

-- from every state that is shown before, this leads to one that is shown after
abbrev pub Leads : (Protocol → Protocol → Type 0) → Machine → Machine → Type 0
Leads To old new = (p : Protocol) → Shows old p → (q : Protocol) × To p q × Shows new q

-- the agent of a CPU does a step of the protocol
abbrev pub Does : ℕ → Machine → Machine → Type 0
Does c = Leads (λ p q. OfAgent p c q)

-- the environment makes a call, which is replied so
abbrev pub CallsByEnv : EnvCall → Machine → Reply → Machine → Type 0
CallsByEnv call old told new =
    Leads (λ p q. (called : IsCalledByEnv p q) × (called.call ≡ call) × (called.told ≡ told)) old new

-- an agent that is there has a choice, unless it waits and no note is under way to it
abbrev pub HasChoices : ℕ → Machine → ℕ → Type 0
HasChoices c machine many =
    (p : Protocol) → Shows machine p → (0 < many) ↔ ((c < cpus_of p) × (IsWaiting p c → ⊥))

-- whether the machine is at rest
abbrev pub Rests : Machine → Bool → Type 0
Rests machine rests = (p : Protocol) → Shows machine p → (rests ≡ true) ↔ IsAtRest p

-- whether an agent is there, and at the begin of a turn
abbrev pub HasBegun : ℕ → Machine → Bool → Type 0
HasBegun c machine begun =
    (p : Protocol) → Shows machine p → (begun ≡ true) ↔ ((c < cpus_of p) × (p.stages c ≡ begins))

-- what the mailbox of an agent holds: nothing, where the agent is not there
abbrev pub HasMail : ℕ → Machine → List ℕ → Type 0
HasMail c machine mail =
    (p : Protocol) → Shows machine p → mail ≡ (if nat_lt c (cpus_of p) then p.mails c else [])

-- an agent at the begin of a turn starts again with nothing, and asks all others
pub record IsRestart (p : Protocol) (c : ℕ) (new : Protocol) : Type 0 where
  pub at_begin : p.stages c ≡ begins
  pub told : Reply
  pub step : Step p.world (Crash c) told new.world
  pub stages : new.stages ≡ p.stages
  pub mails : new.mails ≡ p.mails
  pub boxes : new.boxes ≡ telling_others c (asks c (new.world.agents c).known) p.boxes

-- the agent of a CPU starts again
abbrev pub Restarts : ℕ → Machine → Machine → Type 0
Restarts c = Leads (λ p q. IsRestart p c q)
