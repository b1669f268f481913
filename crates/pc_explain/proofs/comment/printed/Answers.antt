use Rattle.std.proofs.Common.{rules, tests, arith, length, subst, ◌≡◌, true, false}
use Rattle.std.proofs.lemmas.List.{take_all}
use Rattle.std.proofs.lemmas.Iterator.{IsFirst-from_position, YieldsList-from_slice}
use Rattle.pc_pen.specs.Escapes.{IsPrinted, is_printed}
use Rattle.pc_pen.proofs.Fronts.{front_passes}
use Rattle.pc_explain.proofs.comment.printed.Goals as goal

pub returns-in-Some : goal.returns-in-Some
returns-in-Some c =
    let text = c.args.text.now in
    let found = IsFirst-from_position _ _ _ (λ b. is_printed b ≡ false) (λ b. is_printed b ≡ true) c.in-Some.ensures.ran (YieldsList-from_slice text cc) (λ x q k. search (rules, tests)) (λ x q k. search (rules, tests)) in
    front_passes is_printed text c.in-Some.end found.2 (omega (arith, found.0))

pub returns-in-None : goal.returns-in-None
returns-in-None c =
    let text = c.args.text.now in
    let found = IsFirst-from_position _ _ _ (λ b. is_printed b ≡ false) (λ b. is_printed b ≡ true) c.in-None.ensures.ran (YieldsList-from_slice text cc) (λ x q k. search (rules, tests)) (λ x q k. search (rules, tests)) in
    subst IsPrinted (take_all (length text) text (omega arith)) (front_passes is_printed text (length text) found (omega arith))
