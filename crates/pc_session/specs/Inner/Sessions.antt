-- What a session does with one command.
use Rattle.std.specs.Prelude.{List, Option}
use Rattle.pc_calls.specs.declared.limits.Profile.{Profile}
use Rattle.pc_calls.specs.declared.event.Reply.{Reply}
use Rattle.pc_script.specs.declared.command.Command.{Command}
use Rattle.pc_script.specs.declared.response.Response.{Response}
use Rattle.pc_script.specs.declared.response.Response.TheVariants as response
use Rattle.pc_session.specs.declared.session.Enclave.{Enclave}
use Rattle.pc_session.specs.Session.{PlainEnclave, Session, IsStep, IsSession, IsWorldStep}
use Rattle.pc_session.specs.Standing.{ShowsEnclave, ShowsSession, StandsAfter}

-- for every session that is shown before, the response is that of a step, whose result is shown after
abbrev pub Steps : Profile → Command → Option Enclave → Option Enclave → Response → Type 0
Steps profile command old new told =
    (s : Session) → ShowsSession old s → (s' : Session) × IsStep profile s command told s' × ShowsSession new s'

-- the same of a command that meets a world
abbrev pub Answers : Command → Enclave → Enclave → Response → Type 0
Answers command old new told =
    (e : PlainEnclave) → ShowsEnclave old e → (e' : PlainEnclave) × IsWorldStep e command told e' × ShowsEnclave new e'

-- the response is a reply of which this holds
abbrev pub IsReplied : (Reply → Type 0) → Response → Type 0
IsReplied Holds (response.Event reply) = Holds reply
IsReplied Holds told = ⊥

pub is_session : (profile judged : Profile) (enclave : Option Enclave) (commands : List Command) (told : List Response)
    → StandsAfter profile judged enclave commands told → IsSession profile commands told
is_session profile judged enclave commands told (same, (s, run, shows)) = (s, run)
