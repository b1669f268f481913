use Rattle.std.proofs.Common.{refl, sym, ap, ◌∙◌, ◌+◌, ◌-◌, ◌≡◌, ◌≤◌, length, drop, arith}
use Rattle.std.specs.List.{copy_within}
use Rattle.std.proofs.lemmas.List.Edits.{length-paste, paste_none}
use Rattle.std.proofs.Math.Seq.{paste}
use Rattle.std.proofs.lemmas.List.{length-drop}
use Rattle.pc_thread_view.specs.declared.moves.TheConstants.{RUN}
use Rattle.pc_thread_view.proofs.Moved.{more_down}
use Rattle.pc_thread_view.proofs.moves.move_down.Goals as goal

pub loop-done-init : goal.loop-done-init
loop-done-init g c = ((refl, omega arith), paste_none c.args.slots.now c.args.to (drop c.args.from c.args.slots.now))

pub loop-done-preserved : goal.loop-done-preserved
loop-done-preserved g c =
    let asked = c.requires in
    let held = c.loop-done.invariant.0 in
    let more = c.loop-done-test.true in
    let old = c.args.slots.now in
    let done = c.loop-done.done in
    let next : done + RUN ≤ c.args.count = omega arith in
    let fits : c.args.from + (done + RUN) ≤ length old = omega arith in
    let rest = length-drop c.args.from old in
    let on : c.args.from + done + RUN ≡ c.args.from + (done + RUN) = omega arith in
    let moved = c.move_run.ensures ∙ (λ k. copy_within (c.loop-done.invariant.1 k) (c.args.from + done) (on k) (c.args.to + done)) ∙ more_down old c.args.from c.args.to done (done + RUN) (omega arith) c.requires.down fits in
    ((ap length moved ∙ length-paste old c.args.to (drop c.args.from old) (done + RUN) (omega arith) (omega arith), next), moved)

pub returns : goal.returns
returns g c =
    let asked = c.requires in
    let held = c.loop-done.invariant.0 in
    let old = c.args.slots.now in
    let count : c.args.from + c.args.count - c.args.from ≡ c.args.count = omega arith in
    c.copy_within.ensures.after
    ∙ ap (λ l. copy_within l (c.args.from + c.loop-done.done) (c.args.from + c.args.count) (c.args.to + c.loop-done.done)) c.loop-done.invariant.1
    ∙ more_down old c.args.from c.args.to c.loop-done.done c.args.count held.1 c.requires.down c.requires.fits
    ∙ ap (paste old c.args.to (drop c.args.from old)) (sym count)
