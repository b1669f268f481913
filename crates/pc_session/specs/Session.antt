-- What a script's commands are answered: by steps and reads of the plain world, or of a session that has none yet.
use Rattle.std.specs.Prelude.{ℕ, ◌≡◌, ◌<◌, Bool, true, false, IsTrue, List, [], ◌∷◌, ◌++◌, Option, Some, None}
use Rattle.pc_calls.specs.declared.event.Event as event
use Rattle.pc_calls.specs.declared.event.Reply.{Reply}
use Rattle.pc_calls.specs.declared.limits.Limits.{Limits}
use Rattle.pc_calls.specs.declared.limits.LimitField.{LimitField}
use Rattle.pc_calls.specs.declared.limits.Profile.{Profile}
use Rattle.pc_calls.specs.declared.refusal.Refusal.TheVariants.{TooLate}
use Rattle.pc_calls.specs.Limits.{bad_field}
use Rattle.pc_kernel.specs.Reads.{shown, is_cpu}
use Rattle.pc_script.specs.declared.command.Command.{Command}
use Rattle.pc_policy.specs.Rules.{Rules}
use Rattle.pc_script.specs.declared.command.Command.TheVariants.{Enclave, Event, Read, Policy, Mend}
use Rattle.pc_policy.specs.declared.named.PolicyName.{PolicyName}
use Rattle.pc_script.specs.declared.command.Read as reading
use Rattle.pc_script.specs.declared.command.Read.TheVariants.{Show}
use Rattle.pc_script.specs.declared.response.Response.{Response}
use Rattle.pc_script.specs.declared.response.Response.TheVariants as response
use Rattle.pc_world.specs.Mends.{IsMended, RanOutInMending}
use Rattle.pc_world.specs.PlainWorld.{PlainWorld, opened, opened_by}
use Rattle.pc_world.specs.RanOut as world
use Rattle.pc_world.specs.Steps.{Step}
use Rattle.pc_policy.specs.Names.{rules_named}
use Rattle.pc_session.specs.Reads.{IsRead}

-- A world, and whether no event was taken in it yet: neither one that was accepted nor one that was refused
pub record PlainEnclave : Type 0 where
  pub world : PlainWorld
  pub is_untouched : Bool

-- a world in which no event was taken yet
abbrev pub untouched : PlainWorld → PlainEnclave
untouched w = record { world = w; is_untouched = true }

-- a world in which events were taken
abbrev pub touched : PlainWorld → PlainEnclave
touched w = record { world = w; is_untouched = false }

-- A world is opened anew, with the limits of the old one, and the agent of each CPU goes by these rules
pub record IsRuled (rules : Rules) (old : PlainWorld) (new : PlainEnclave) : Type 0 where
  pub each : ℕ → Rules
  pub same : (c : ℕ) → c < old.kernel.limits.cpus → each c ≡ rules
  pub opens : new ≡ untouched (opened_by each old.kernel.limits)

-- a policy: where no event was taken yet, all agents go by it from now on; else it is too late
abbrev pub IsPolicy : Bool → PlainEnclave → PolicyName → Response → PlainEnclave → Type 0
IsPolicy true e policy told new = (told ≡ response.Ruled policy) × IsRuled (rules_named policy) e.world new
IsPolicy false e policy told new = (told ≡ response.Refused TooLate) × (new ≡ e)

-- an event: a step of the world
pub record IsEvent (e : PlainEnclave) (event : event.Event) (told : Response) (new : PlainEnclave) : Type 0 where
  pub reply : Reply
  pub after : PlainWorld
  pub step : Step e.world event reply after
  pub tells : told ≡ response.Event reply
  pub leaves : new ≡ touched after

-- a CPU is mended, or is refused
pub record IsMend (e : PlainEnclave) (cpu : ℕ) (told : Response) (new : PlainEnclave) : Type 0 where
  pub reply : Reply
  pub after : PlainWorld
  pub mended : IsMended cpu e.world reply after
  pub tells : told ≡ response.Event reply
  pub leaves : new ≡ touched after

-- a command that meets a world
abbrev pub IsWorldStep : PlainEnclave → Command → Response → PlainEnclave → Type 0
IsWorldStep e (Enclave limits) told new = (told ≡ response.HaveEnclave) × (new ≡ e)
IsWorldStep e (Event event) told new = IsEvent e event told new
IsWorldStep e (Read read) told new = IsRead e.world read told × (new ≡ e)
IsWorldStep e (Policy policy) told new = IsPolicy e.is_untouched e policy told new
IsWorldStep e (Mend cpu) told new = IsMend e cpu told new

-- a session: no world before an accepted `enclave`, and one world from then on
abbrev pub Session : Type 0
Session = Option PlainEnclave

-- a command that meets no world
abbrev pub IsLimited : Option LimitField → Limits → Response → Session → Type 0
IsLimited None limits told new = (told ≡ response.Opened) × (new ≡ Some (untouched (opened limits)))
IsLimited (Some field) limits told new = (told ≡ response.BadLimits field) × (new ≡ None)

-- a command before there is a world: an `enclave` whose limits are within their ranges opens one
abbrev pub IsOpening : Profile → Command → Response → Session → Type 0
IsOpening profile (Enclave limits) told new = IsLimited (bad_field profile limits) limits told new
IsOpening profile (Event event) told new = (told ≡ response.NoEnclave) × (new ≡ None)
IsOpening profile (Read read) told new = (told ≡ response.NoEnclave) × (new ≡ None)
IsOpening profile (Policy policy) told new = (told ≡ response.NoEnclave) × (new ≡ None)
IsOpening profile (Mend cpu) told new = (told ≡ response.NoEnclave) × (new ≡ None)

-- one command of a session
abbrev pub IsStep : Profile → Session → Command → Response → Session → Type 0
IsStep profile None command told new = IsOpening profile command told new
IsStep profile (Some e) command told new = (e' : PlainEnclave) × IsWorldStep e command told e' × (new ≡ Some e')

-- the commands of a session, one after another
pub data IsRun (profile : Profile) : Session → List Command → List Response → Session → Type 0 where
  none : {s : Session} → IsRun profile s [] [] s
  one_more : {s m e : Session} (commands : List Command) (told : List Response) (command : Command)
      (response : Response)
      → IsRun profile s commands told m → IsStep profile m command response e
      → IsRun profile s (commands ++ command ∷ []) (told ++ response ∷ []) e

-- what a whole script's commands are answered
abbrev pub IsSession : Profile → List Command → List Response → Type 0
IsSession profile commands told = (end' : Session) × IsRun profile None commands told end'

-- a read that takes memory: what an agent knows, where there is one
abbrev pub TakesMemoryToRead : PlainWorld → reading.Read → Type 0
TakesMemoryToRead w (Show cpu) = IsTrue (is_cpu (shown w.kernel) cpu)
TakesMemoryToRead w read = ⊥

-- a command that takes memory in a world: such a read, an event that may find none, a policy that is not too late, or
-- mending that may find none
abbrev pub TakesMemoryIn : PlainEnclave → Command → Type 0
TakesMemoryIn e (Enclave limits) = ⊥
TakesMemoryIn e (Event event) = (new : PlainWorld) × world.RanOut e.world event new
TakesMemoryIn e (Read read) = TakesMemoryToRead e.world read
TakesMemoryIn e (Policy policy) = IsTrue e.is_untouched
TakesMemoryIn e (Mend cpu) = (new : PlainWorld) × RanOutInMending e.world cpu new

-- a command that takes memory in a session: before there is a world, an `enclave` whose limits are within their ranges
abbrev pub TakesMemory : Profile → Session → Command → Type 0
TakesMemory profile None (Enclave limits) = bad_field profile limits ≡ None
TakesMemory profile None command = ⊥
TakesMemory profile (Some e) command = TakesMemoryIn e command

-- memory ran out at the next command of a session, which is one that takes memory
abbrev pub RanOut : Profile → List Command → List Response → Command → Type 0
RanOut profile commands told next = (s : Session) × IsRun profile None commands told s × TakesMemory profile s next
