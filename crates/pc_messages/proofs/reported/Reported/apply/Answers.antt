use Rattle.std.proofs.Common.{◌≡◌, unwrap_or}
use Rattle.pc_messages.specs.State.{phase_given, mask_given, level_given}
use Rattle.pc_messages.proofs.States.{state_of-push}
use Rattle.pc_messages.proofs.reported.Reported.apply.Goals as goal
use Rattle.pc_messages.proofs.reported.Reported.apply.Goals.{in-Some, in-None, in-Some-mask, in-None-mask, in-Some-level, in-None-level}

pub returns-clause-folded : goal.returns-clause-folded
returns-clause-folded c kinds e =
    let phase : c.match-phase.result ≡ unwrap_or (phase_given c.args.kind) c.args.self.now.phase =
    elim c.match-phase.branch [ in-Some w ↦ cc | in-None w ↦ cc ] in
    let mask : c.match-mask.result ≡ unwrap_or (mask_given c.args.kind) c.args.self.now.mask =
    elim c.match-mask.branch [ in-Some-mask w ↦ cc | in-None-mask w ↦ cc ] in
    let level : c.match-level.result ≡ unwrap_or (level_given c.args.kind) c.args.self.now.level =
    elim c.match-level.branch [ in-Some-level w ↦ cc | in-None-level w ↦ cc ] in
    rw (phase, mask, level, c.ran.ensures) (state_of-push kinds c.args.self.now c.args.kind e)
