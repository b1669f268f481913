-- A session, one command at a time.
use Rattle.std.proofs.Common.{◌≡◌, true, List, [], ◌∷◌, ◌++◌, Option, Some, None, refl, sym, subst}
use Rattle.pc_calls.specs.declared.limits.Limits.{Limits}
use Rattle.pc_calls.specs.declared.limits.Profile.{Profile}
use Rattle.pc_calls.specs.Limits.{bad_field}
use Rattle.pc_script.specs.declared.command.Command.{Command}
use Rattle.pc_script.specs.declared.command.Command.TheVariants as command
use Rattle.pc_script.specs.declared.response.Response.{Response}
use Rattle.pc_script.specs.declared.response.Response.TheVariants as response
use Rattle.pc_world.specs.PlainWorld.{opened}
use Rattle.pc_world.specs.Shows.{ShowsWorld}
use Rattle.pc_session.specs.declared.session.Enclave.{Enclave}
use Rattle.pc_session.specs.Session.{IsLimited, IsStep, one_more, none, untouched}
use Rattle.pc_session.specs.Inner.Sessions.{Answers, Steps}
use Rattle.pc_session.specs.Standing.{StandsAfter}

pub stands_at_start : (profile : Profile) → StandsAfter profile profile None [] []
stands_at_start profile = (refl, (None, none, tt))

pub stands_after : (judged : Profile) (old new : Option Enclave) (command : Command) (told : Response) → Steps judged command old new told
    → (profile : Profile) (commands : List Command) (before : List Response) → StandsAfter profile judged old commands before
    → StandsAfter profile judged new (commands ++ command ∷ []) (before ++ told ∷ [])
stands_after judged old new command told steps profile commands before (same, (s, run, shows)) =
    let next = steps s shows in
    (same, (next.0, one_more commands before command told run (subst (λ p. IsStep p s command told next.0) same next.1), next.2))

pub world_steps : (profile : Profile) (old new : Enclave) (command : Command) (told : Response) → Answers command old new told → Steps profile command (Some old) (Some new) told
world_steps profile old new command told does None shows = absurd shows
world_steps profile old new command told does (Some e) shows =
    let next = does e shows in
    (Some next.0, (next.0, next.1, refl), next.2)

pub opens : (profile : Profile) (enclave : Enclave) (limits : Limits) → bad_field profile limits ≡ None
    → ShowsWorld enclave.world (opened limits) → enclave.is_untouched ≡ true → Steps profile (command.Enclave limits) None (Some enclave) response.Opened
opens profile enclave limits within shows fresh None before =
    (Some (untouched (opened limits)), subst (λ o. IsLimited o limits response.Opened (Some (untouched (opened limits)))) (sym within) (refl, refl), record { world = shows; untouched = fresh })
opens profile enclave limits within shows fresh (Some e) before = absurd before
