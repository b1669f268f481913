use Rattle.std.proofs.Common.{[], ◌∷◌, Ok}
use Rattle.pc_kernel.specs.Answers.{Replays, itself}
use Rattle.pc_kernel.proofs.Answered.{replays_ok, replays_then, replays_last}
use Rattle.pc_tests.proofs.kernel.caller.three.Goals as goal

pub returns-in-Ok-apply : goal.returns-in-Ok-apply
returns-in-Ok-apply c =
    let first = c.args.first in
    let second = c.args.second in
    let third = c.args.third in
    let k = c.args.kernel.now in
    let a = c.apply.new.self in
    let b = c.apply-in-Ok.new.self in
    let n = c.apply-in-Ok-apply.new.self in
    let one : Replays (first ∷ []) k a = replays_ok itself first (Ok c.in-Ok.field-0) k a c.in-Ok.ensures.answered.step in
    let two : Replays (second ∷ []) a b = replays_ok itself second (Ok c.in-Ok-apply.field-0) a b c.in-Ok-apply.ensures.answered.step in
    replays_last (first ∷ second ∷ []) third c.apply-in-Ok-apply.result k b n (replays_then (first ∷ []) (second ∷ []) k a b one two)
    (replays_ok itself third c.apply-in-Ok-apply.result b n c.apply-in-Ok-apply.ensures.answered.step)
