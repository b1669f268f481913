-- Texts that are put at places of one buffer, one after another.
use Rattle.std.proofs.Common.{◌≡◌, ℕ, ◌+◌, ◌-◌, ◌≤◌, List, ◌++◌, length, take, drop, ap, sym, ◌∙◌, arith, append_assoc, length-append, length-take-le, length-drop, take-add, take-take, take_at, drop_at, drop-drop, take_all, take-append-drop}
use Rattle.std.specs.Simd.Lanes.{put_chunk}
use Rattle.std.proofs.lemmas.Simd.{put_chunk_is}
use Rattle.pc_script.specs.Inner.Outputs.{IsPlaced}

-- what lies behind a later place has not changed either
rest_later : (a b : List ℕ) (j k : ℕ) → j ≤ k → drop j b ≡ drop j a → drop k b ≡ drop k a
rest_later a b j k le p =
    let further : j + (k - j) ≡ k = omega (arith, le) in
    ap (λ n. drop n b) (sym further) ∙ sym (drop-drop (k - j) j b) ∙ ap (drop (k - j)) p ∙ drop-drop (k - j) j a ∙ ap (λ n. drop n a) further

-- behind a piece that is stored nothing has changed
pub rest_of : (i : ℕ) (xs ys : List ℕ) (m : ℕ) → m ≡ i + length ys → m ≤ length xs → drop m (put_chunk i xs ys) ≡ drop m xs
rest_of i xs ys m e le =
    let behind = drop (length ys) (drop i xs) in
    let front = length-take-le i xs (omega (arith, e, le)) in
    ap (drop m) (put_chunk_is i xs ys (omega (arith, e, le)) ∙ sym (append_assoc (take i xs) ys behind))
    ∙ drop_at (take i xs ++ ys) behind m (omega (arith, e, front, length-append (take i xs) ys))
    ∙ drop-drop (length ys) i xs ∙ ap (λ n. drop n xs) (sym e)

-- the first n bytes of a text stand there too
front_less : {a b xs : List ℕ} {i j : ℕ} (n : ℕ) → i ≤ length a → n ≤ length xs → IsPlaced a b i xs j → take (i + n) b ≡ take i a ++ take n xs
front_less {a} {b} {xs} {i} {j} n within few p =
    let front = length-take-le i a within in
    sym (take-take (i + n) j b (omega (arith, p.moved))) ∙ ap (take (i + n)) p.bytes ∙ take-add i n (take i a ++ xs)
    ∙ (λ k. take_at (take i a) xs i front k ++ take n (drop_at (take i a) xs i front k))

-- the first and the last `half` bytes of a text, laid over each other, are the text
pub placed_ends : {a b c : List ℕ} {i j k : ℕ} (text : List ℕ) (half : ℕ) → i ≤ length a → half ≤ length text → length text ≤ half + half
    → IsPlaced a b i (take half text) j → IsPlaced b c (i + (length text - half)) (take half (drop (length text - half) text)) k → IsPlaced a c i text k
placed_ends {a} {b} {c} {i} {j} {k} text half within fits covers p q =
    let last = length text - half in
    let few = length-take-le half text fits in
    let ys = take half (drop last text) in
    let whole : take last (take half text) ++ ys ≡ text =
    (λ x. take-take last half text (omega arith) x ++ take_all half (drop last text) (omega (arith, length-drop last text)) x) ∙ take-append-drop last text in
    let end : k ≡ i + length text =
    omega (arith, q.moved, length-take-le half (drop last text) (omega (arith, length-drop last text))) in
    record {
      bytes = q.bytes ∙ ap (λ l. l ++ ys) (front_less last within (omega (arith, few)) p) ∙ append_assoc (take i a) (take last (take half text)) ys
          ∙ ap (λ l. take i a ++ l) whole;
      rest = q.rest ∙ rest_later a b j k (omega (arith, p.moved, few, end)) p.rest;
      moved = end;
      same_length = q.same_length ∙ p.same_length;
    }

-- from its place on there is the text, and then what was behind it
pub placed_behind : {a b text : List ℕ} {i j : ℕ} → i ≤ length a → IsPlaced a b i text j → drop i b ≡ text ++ drop j a
placed_behind {a} {b} {text} {i} {j} within p =
    ap (drop i) (sym (take-append-drop j b) ∙ (λ x. p.bytes x ++ p.rest x) ∙ append_assoc (take i a) text (drop j a))
    ∙ drop_at (take i a) (text ++ drop j a) i (length-take-le i a within)
