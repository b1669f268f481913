use Rattle.std.proofs.Common.{rules, ◌≡◌, ◌∙◌, ℕ, ◌+◌, ◌-◌, List, [], ◌++◌, take, length, min, sym, ap, arith, inl, inr, take_all, append-nil}
use Rattle.std.proofs.lemmas.Bool.{cases_lt}
use Rattle.std.proofs.lemmas.List.{take-append-le}
use Rattle.std.proofs.Math.Seq.{take-append-add}
use Rattle.pc_queue.proofs.items.first.Goals as goal

-- what is taken of both parts of a list is taken of the list
both_parts : {X : Type 0} (front back all first both : List X) (n k : ℕ) → front ++ back ≡ all → k ≡ min n (length front) → first ≡ [] ++ take k front → both ≡ first ++ take (n - k) back → both ≡ take n all
both_parts front back all first both n k parts least one two =
    two ∙ ap (λ l. l ++ take (n - k) back) one ∙ elim (cases_lt n (length front)) [
      | inl few ↦
          let same : k ≡ n = omega arith in
          let none : n - k ≡ 0 = omega arith in
          rw (none, same) (append-nil (take n front) ∙ sym (take-append-le n front back (omega arith)) ∙ ap (take n) parts)
      | inr more ↦
          let same : k ≡ length front = omega arith in
          let rest : length front + (n - length front) ≡ n = omega arith in
          rw (same, take_all (length front) front (omega arith)) (sym (take-append-add front back (n - length front)) ∙ ap (λ m. take m (front ++ back)) rest ∙ ap (take n) parts)
    ]

pub returns : goal.returns
returns g c =
    both_parts c.as_slices.result.0.now c.as_slices.result.1.now c.args.items.now.items c.extend_from_slice.new.self.items c.extend_from_slice-2.new.self.items c.args.n c.min-of_front.result
    c.as_slices.ensures.items (search rules) (let one = c.in_ok-extend_from_slice.ensures.items in let none = c.in_ok-first.ensures.items in search rules) (let two = c.in_ok-extend_from_slice-2.ensures.items in search rules)
