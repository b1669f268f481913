use Rattle.std.proofs.Common.{refl, sym, ap, ◌∙◌, ◌+◌, ◌-◌, ◌≡◌, length, drop, arith}
use Rattle.std.specs.List.{copy_within}
use Rattle.std.proofs.lemmas.List.Edits.{length-paste, paste_none}
use Rattle.std.proofs.Math.Seq.{paste}
use Rattle.std.proofs.lemmas.List.{length-drop}
use Rattle.pc_thread_view.specs.declared.moves.TheConstants.{RUN}
use Rattle.pc_thread_view.proofs.Moved.{more_up}
use Rattle.pc_thread_view.proofs.moves.move_up.Goals as goal

pub loop-left-init : goal.loop-left-init
loop-left-init g c =
    let old = c.args.slots.now in
    let count = c.args.count in
    let none : 0 ≡ count - count = omega arith in
    ((refl, omega arith), paste_none old (c.args.to + count) (drop (c.args.from + count) old) ∙ ap (paste old (c.args.to + count) (drop (c.args.from + count) old)) none)

pub loop-left-preserved : goal.loop-left-preserved
loop-left-preserved g c =
    let asked = c.requires in
    let held = c.loop-left.invariant.0 in
    let more = c.loop-left-test.true in
    let old = c.args.slots.now in
    let now = c.loop-left.left in
    let left = now - RUN in
    let rest = length-drop (c.args.from + left) old in
    let on : c.args.from + left + RUN ≡ c.args.from + now = omega arith in
    let moved = c.move_run.ensures ∙ (λ k. copy_within (c.loop-left.invariant.1 k) (c.args.from + left) (on k) (c.args.to + left)) ∙ more_up old c.args.from c.args.to c.args.count left now (omega arith) held.1 c.requires.up c.requires.fits in
    ((ap length moved ∙ length-paste old (c.args.to + left) (drop (c.args.from + left) old) (c.args.count - left) (omega arith) (omega arith), omega arith), moved)

pub returns : goal.returns
returns g c =
    let asked = c.requires in
    let held = c.loop-left.invariant.0 in
    let old = c.args.slots.now in
    let left = c.loop-left.left in
    let first : c.args.from ≡ c.args.from + 0 = omega arith in
    let start : c.args.to ≡ c.args.to + 0 = omega arith in
    let all : c.args.count - 0 ≡ c.args.from + c.args.count - c.args.from = omega arith in
    c.copy_within.ensures.after
    ∙ (λ k. copy_within (c.loop-left.invariant.1 k) (first k) (c.args.from + left) (start k))
    ∙ more_up old c.args.from c.args.to c.args.count 0 left (omega arith) held.1 c.requires.up c.requires.fits
    ∙ (λ k. paste old (sym start k) (drop (sym first k) old) (all k))
