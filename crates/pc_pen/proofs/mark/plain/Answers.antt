use Rattle.std.proofs.Common.{rules, tests, arith, length, subst}
use Rattle.std.proofs.lemmas.List.{take_all}
use Rattle.std.proofs.lemmas.Iterator.{IsFirst-from_position, YieldsList-from_slice}
use Rattle.pc_pen.specs.Pictures.{IsPlain, is_markup}
use Rattle.pc_pen.proofs.Fronts.{front_without}
use Rattle.pc_pen.proofs.Marks.{IsMarkup, IsNoMarkup}
use Rattle.pc_pen.proofs.mark.plain.Goals as goal

pub returns-in-Some : goal.returns-in-Some
returns-in-Some c =
    let text = c.args.text.now in
    let found = IsFirst-from_position _ _ _ IsMarkup IsNoMarkup c.in-Some.ensures.ran (YieldsList-from_slice text cc) (λ x q k. search (rules, tests)) (λ x q k. search (rules, tests)) in
    front_without is_markup text c.in-Some.end found.2 (omega (arith, found.0))

pub returns-in-None : goal.returns-in-None
returns-in-None c =
    let text = c.args.text.now in
    let found = IsFirst-from_position _ _ _ IsMarkup IsNoMarkup c.in-None.ensures.ran (YieldsList-from_slice text cc) (λ x q k. search (rules, tests)) (λ x q k. search (rules, tests)) in
    subst IsPlain (take_all (length text) text (omega arith)) (front_without is_markup text (length text) found (omega arith))
