use Rattle.std.proofs.Common.{◌≤◌, eqb, Some, take, length, w8, sym, subst, arith}
use Rattle.std.proofs.lemmas.List.{length-take-le}
use Rattle.std.proofs.lemmas.Simd.{bitmask_splat}
use Rattle.std.specs.Int.Count.{count_trailing_zeros}
use Rattle.memchr.specs.Find.{IsFirst, Passes, is_byte}
use Rattle.pc_script.proofs.Lanes.{found_in_front}
use Rattle.pc_script.proofs.lines.first_line_feed.Goals as goal

pub returns-then-feeds-ne0 : goal.returns-then-feeds-ne0
returns-then-feeds-ne0 c =
    let text = c.args.text.now in
    let long : 32 ≤ length text = c.if-text-ge-LINE_LANES.true in
    let mask = bitmask_splat w8 eqb (take 32 text) 32 10 (length-take-le 32 text long) (omega arith) in
    subst (λ n. IsFirst (Passes (is_byte 10) text) 0 (length text) (Some (count_trailing_zeros 64 n))) (sym mask)
    (found_in_front text 32 10 long (omega arith) (omega (arith, mask, c.if-feeds-ne0.true)))
