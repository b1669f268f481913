-- What a session shows after its commands.
use Rattle.std.specs.Prelude.{◌≡◌, List, Option, Some, None}
use Rattle.std.specs.Borrow.{Bor}
use Rattle.pc_calls.specs.declared.limits.Profile.{Profile}
use Rattle.pc_script.specs.declared.command.Command.{Command}
use Rattle.pc_script.specs.declared.response.Response.{Response}
use Rattle.pc_world.specs.Shows.{ShowsWorld, World}
use Rattle.pc_session.specs.declared.session.Enclave.{Enclave}
use Rattle.pc_session.specs.Session.{PlainEnclave, Session, IsRun}

-- the world is shown, and it is known whether an event was taken
pub record ShowsEnclave (enclave : Enclave) (e : PlainEnclave) : Type 0 where
  pub world : ShowsWorld enclave.world e.world
  pub untouched : enclave.is_untouched ≡ e.is_untouched

-- a session is shown: before an accepted `enclave` there is no world
abbrev pub ShowsSession : Option Enclave → Session → Type 0
ShowsSession None None = Unit {0}
ShowsSession None (Some e) = ⊥
ShowsSession (Some enclave) None = ⊥
ShowsSession (Some enclave) (Some e) = ShowsEnclave enclave e

-- the limits are judged by the profile, and some session to which these commands lead, with these responses, is shown
abbrev pub StandsAfter : Profile → Profile → Option Enclave → List Command → List Response → Type 0
StandsAfter profile judged enclave commands told =
    (judged ≡ profile) × ((s : Session) × IsRun profile None commands told s × ShowsSession enclave s)

-- the world that a session lends
abbrev pub lent : Option (Bor World) → Option World
lent None = None
lent (Some world) = Some world.now

-- the world of a session is shown, where there is one
abbrev pub ShowsWorldOf : Option World → Session → Type 0
ShowsWorldOf None None = Unit {0}
ShowsWorldOf None (Some e) = ⊥
ShowsWorldOf (Some world) None = ⊥
ShowsWorldOf (Some world) (Some e) = ShowsWorld world e.world

-- the commands, with these responses, lead to a session whose world is shown
abbrev pub LeadsToWorld : Profile → List Command → List Response → Option World → Type 0
LeadsToWorld profile commands told world = (s : Session) × IsRun profile None commands told s × ShowsWorldOf world s
