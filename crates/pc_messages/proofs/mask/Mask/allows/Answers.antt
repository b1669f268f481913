use Rattle.std.proofs.Common.{◌≡◌, ◌^◌, ◌<◌, arith}
use Rattle.std.proofs.lemmas.Nat.Bits.{bit_at_above}
use Rattle.std.specs.Int.{bit_at}
use Rattle.std.proofs.lemmas.Bool.Decides.{nat_tests}
use Rattle.pc_messages.proofs.mask.Mask.allows.Goals as goal

pub returns-else-cpu-lt64 : goal.returns-else-cpu-lt64
returns-else-cpu-lt64 c =
    let small : c.args.self < 2 ^ 64 = omega arith in
    let none : bit_at c.args.self c.args.cpu ≡ 0 = bit_at_above c.args.self 64 c.args.cpu small (omega arith) in
    grind (arith, nat_tests)
