use Rattle.std.proofs.Common.{◌∙◌, ◌≤◌, eqb, Some, take, length, w8, sym, subst, arith}
use Rattle.std.proofs.lemmas.List.{length-take-le}
use Rattle.std.proofs.lemmas.Simd.{bitmask_splat}
use Rattle.std.specs.Int.Count.{count_trailing_zeros}
use Rattle.memchr.specs.Find.{IsFirst, Passes, is_byte}
use Rattle.pc_script.proofs.Lanes.{found_behind, found_in_front}
use Rattle.pc_script.proofs.lines.first_space.Goals as goal

pub returns-then-spaces-eq0 : goal.returns-then-spaces-eq0
returns-then-spaces-eq0 c =
    let text = c.args.text.now in
    let long : 8 ≤ length text = c.if-text-lt-LANES.false in
    let mask = bitmask_splat w8 eqb (take 8 text) 8 32 (length-take-le 8 text long) (omega arith) in
    found_behind text 8 32 c.first_space_from.result long (sym mask ∙ c.if-spaces-eq0.true) c.first_space_from.ensures

pub returns : goal.returns
returns c =
    let text = c.args.text.now in
    let long : 8 ≤ length text = c.if-text-lt-LANES.false in
    let mask = bitmask_splat w8 eqb (take 8 text) 8 32 (length-take-le 8 text long) (omega arith) in
    subst (λ n. IsFirst (Passes (is_byte 32) text) 0 (length text) (Some (count_trailing_zeros 64 n))) (sym mask)
    (found_in_front text 8 32 long (omega arith) (omega (arith, mask, c.if-spaces-eq0.false)))
