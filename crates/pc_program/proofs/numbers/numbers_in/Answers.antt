use Rattle.std.proofs.Common.{◌≡◌, ◌+◌, ◌-◌, ◌∙◌, ◌++◌, ◌∷◌, eqb, ap, sym, rules, tests, arith, length, take, drop, subst, refl}
use Rattle.std.proofs.lemmas.Bool.{eqb-true}
use Rattle.std.proofs.lemmas.Iterator.{IsFirst-from_position, YieldsList-from_slice}
use Rattle.std.proofs.lemmas.List.{length-drop, take_all}
use Rattle.pc_pen.proofs.Fronts.{front_without}
use Rattle.pc_script.proofs.Splits.{list_at}
use Rattle.pc_program.proofs.NumbersWritten.{HasNoDash, IsDash, IsNoDash, spelled_alone, spelled_at_dash}
use Rattle.pc_program.proofs.numbers.numbers_in.Goals as goal

pub returns-in-Some : goal.returns-in-Some
returns-in-Some c =
    let word = c.args.word.now in
    let place = c.in-Some.place in
    let found = IsFirst-from_position _ _ _ IsDash IsNoDash c.in-Some.ensures.ran (YieldsList-from_slice word cc) (λ x q k. search (rules, tests)) (λ x q k. search (rules, tests)) in
    let without = front_without (λ b. eqb b 45) word place found.2 (omega (arith, found.0)) in
    let rest : take (length word - (place + 1)) (drop (place + 1) word) ≡ drop (place + 1) word =
    take_all (length word - (place + 1)) (drop (place + 1) word) (omega (arith, length-drop (place + 1) word)) in
    let parts : word ≡ take place word ++ 45 ∷ take (length word - (place + 1)) (drop (place + 1) word) =
    sym (ap (λ xs. take place word ++ 45 ∷ xs) rest ∙ list_at word (take place word) 45 place refl found.0 (sym (eqb-true _ _ (found.1 45)))) in
    spelled_at_dash _ word _ _ parts without c.between.ensures

pub returns-in-None : goal.returns-in-None
returns-in-None c =
    let word = c.args.word.now in
    let found = IsFirst-from_position _ _ _ IsDash IsNoDash c.in-None.ensures.ran (YieldsList-from_slice word cc) (λ x q k. search (rules, tests)) (λ x q k. search (rules, tests)) in
    let without = subst HasNoDash (take_all (length word) word (omega arith)) (front_without (λ b. eqb b 45) word (length word) found (omega arith)) in
    spelled_alone _ word without c.between-in-None.ensures
