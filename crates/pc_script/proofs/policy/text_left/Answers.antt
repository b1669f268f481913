use Rattle.std.proofs.Common.{rules, ◌≡◌, ◌∷◌, [], ◌++◌, ◌≤◌, ◌+◌, length, ap, ◌∙◌, arith}
use Rattle.std.proofs.lemmas.List.{length-append}
use Rattle.pc_script.proofs.Joining.{first_put, next_put, longer_next}
use Rattle.pc_script.proofs.policy.text_left.Goals as goal

pub loop-word-init : goal.loop-word-init
loop-word-init c =
    let put : c.try_extend_from_slice.new.self.items ≡ c.new-text.result.items ++ c.in-Some.first.now = search rules in
    first_put _ _ c.in-Some.first.now c.new-text.result.items c.try_extend_from_slice.new.self.items c.in-Some.ensures c.new-text.ensures put

pub loop-word-preserved : goal.loop-word-preserved
loop-word-preserved c =
    let gap : c.try_push.new.self.items ≡ c.loop-word.text.items ++ 32 ∷ [] = search rules in
    let put : c.try_extend_from_slice-in-Some-next.new.self.items ≡ c.try_push.new.self.items ++ c.in-Some-next.word.now = search rules in
    next_put _ _ _ c.in-Some-next.word.now c.loop-word.text.items c.try_push.new.self.items c.try_extend_from_slice-in-Some-next.new.self.items
    c.in-Some-next.ensures c.loop-word.invariant gap put

pub returns-then-is_err-2 : goal.returns-then-is_err-2
returns-then-is_err-2 c =
    let full : length c.loop-word.text.items ≡ 523 = search rules in
    omega (arith, full, longer_next _ _ _ c.in-Some-next.word.now c.loop-word.text.items c.in-Some-next.ensures c.loop-word.invariant)

pub returns-then-is_err-3 : goal.returns-then-is_err-3
returns-then-is_err-3 c =
    let gap : c.try_push.new.self.items ≡ c.loop-word.text.items ++ 32 ∷ [] = search rules in
    let size : length c.try_push.new.self.items ≡ length c.loop-word.text.items + 1 = ap length gap ∙ length-append c.loop-word.text.items (32 ∷ []) in
    let none : length c.try_push.new.self.items + length c.in-Some-next.word.now ≤ 523 → ⊥ = search rules in
    omega (arith, size, none, longer_next _ _ _ c.in-Some-next.word.now c.loop-word.text.items c.in-Some-next.ensures c.loop-word.invariant)
