-- Moves of a part of a list, run after run.
use Rattle.std.proofs.Common.{ℕ, ◌+◌, ◌-◌, ◌≤◌, ◌≡◌, List, ◌++◌, length, take, drop, sym, ap, ◌∙◌, arith}
use Rattle.std.specs.List.{copy_within}
use Rattle.std.proofs.lemmas.List.{drop-drop, drop-take, length-take-le, length-drop, take-append-le, take-take, append_assoc}
use Rattle.std.proofs.lemmas.List.Edits.{take-paste, drop-paste}
use Rattle.std.proofs.Math.Seq.{paste, take-add}
use Rattle.pc_thread_view.proofs.Slots.{seam}

-- what stands in front of a place, and behind it
module _ {X : Type 0} (d rest : List X) (m : ℕ) (within : m ≤ length d) where
  head : (n : ℕ) → n ≤ m → take n (take m d ++ rest) ≡ take n d
  head n le = take-append-le n (take m d) rest (omega (arith, length-take-le m d within)) ∙ take-take n m d le

  inside : (n r : ℕ) → n + r ≤ m → take r (drop n (take m d ++ rest)) ≡ take r (drop n d)
  inside n r le = sym (drop-take n r (take m d ++ rest)) ∙ ap (drop n) (head (n + r) le) ∙ drop-take n r d

module _ {X : Type 0} (d : List X) (from to : ℕ) where
  -- to an earlier place: of the messages the first i are moved, and then those up to the j-th
  pub more_down : (i j : ℕ) → i ≤ j → to ≤ from → from + j ≤ length d → copy_within (paste d to (drop from d) i) (from + i) (from + j) (to + i) ≡ paste d to (drop from d) j
  more_down i j le down fits =
      let s : List X = drop from d in
      let p : List X = paste d to s i in
      let r : ℕ = j - i in
      let many : from + j - (from + i) ≡ r = omega arith in
      let both : i + r ≡ j = omega arith in
      let far : from + i ≡ to + i + (from - to) = omega arith in
      let last : to + i + r ≡ to + j = omega arith in
      let rest = length-drop from d in
      let room : to ≤ length d = omega arith in
      let few : i ≤ length s = omega arith in
      let read : drop (from + i) p ≡ drop i s = ap (λ k. drop k p) far ∙ sym (drop-drop (from - to) (to + i) p) ∙ ap (drop (from - to)) (drop-paste d to s i room few) ∙ drop-drop (from - to) (to + i) d ∙ ap (λ k. drop k d) (sym far) ∙ sym (drop-drop i from d) in
      let front : take (to + i) p ++ take r (drop (from + i) p) ≡ take to d ++ take j s = (λ k. take-paste d to s i room few k ++ take r (read k)) ∙ append_assoc (take to d) (take i s) (take r (drop i s))
      ∙ ap (λ l. take to d ++ l) (sym (take-add i r s) ∙ ap (λ k. take k s) both) in
      let back : drop (to + i + r) p ≡ drop (to + j) d = sym (drop-drop r (to + i) p) ∙ ap (drop r) (drop-paste d to s i room few) ∙ drop-drop r (to + i) d ∙ ap (λ k. drop k d) last in
      ap (λ n. paste p (to + i) (drop (from + i) p) n) many ∙ (λ k. front k ++ back k)

  -- to a later place: of so many messages those from the j-th on are moved, and then those from the i-th on
  pub more_up : (count i j : ℕ) → i ≤ j → j ≤ count → from ≤ to → to + count ≤ length d →
      copy_within (paste d (to + j) (drop (from + j) d) (count - j)) (from + i) (from + j) (to + i) ≡ paste d (to + i) (drop (from + i) d) (count - i)
  more_up count i j le within up fits =
      let moved : List X = take (count - j) (drop (from + j) d) in
      let rest : List X = moved ++ drop (to + j + (count - j)) d in
      let u : List X = paste d (to + j) (drop (from + j) d) (count - j) in
      let r : ℕ = j - i in
      let many : from + j - (from + i) ≡ r = omega arith in
      let read : from + i + r ≡ from + j = omega arith in
      let written : to + i + r ≡ to + j = omega arith in
      let all : r + (count - j) ≡ count - i = omega arith in
      let ends : to + j + (count - j) ≡ to + i + (count - i) = omega arith in
      let whole : u ≡ take (to + j) d ++ rest = append_assoc (take (to + j) d) moved (drop (to + j + (count - j)) d) in
      let front : take (to + i) u ≡ take (to + i) d = ap (take (to + i)) whole ∙ head d rest (to + j) (omega arith) (to + i) (omega arith) in
      let middle : take r (drop (from + i) u) ≡ take r (drop (from + i) d) = ap (λ l. take r (drop (from + i) l)) whole ∙ inside d rest (to + j) (omega arith) (from + i) r (omega arith) in
      let back : drop (to + i + r) u ≡ rest = (λ k. drop (written k) (whole k)) ∙ seam (to + j) d rest (omega arith) in
      let next : take r (drop (from + i) d) ++ moved ≡ take (count - i) (drop (from + i) d) =
      ap (λ l. take r (drop (from + i) d) ++ take (count - j) l) (ap (λ k. drop k d) (sym read) ∙ sym (drop-drop r (from + i) d)) ∙ sym (take-add r (count - j) (drop (from + i) d)) ∙ ap (λ k. take k (drop (from + i) d)) all in
      ap (λ n. paste u (to + i) (drop (from + i) u) n) many
      ∙ (λ k. (front k ++ middle k) ++ back k)
      ∙ sym (append_assoc (take (to + i) d ++ take r (drop (from + i) d)) moved (drop (to + j + (count - j)) d))
      ∙ ap (λ l. l ++ drop (to + j + (count - j)) d) (append_assoc (take (to + i) d) (take r (drop (from + i) d)) moved ∙ ap (λ l. take (to + i) d ++ l) next)
      ∙ ap (λ k. (take (to + i) d ++ take (count - i) (drop (from + i) d)) ++ drop k d) ends
