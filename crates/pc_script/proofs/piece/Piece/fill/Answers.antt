use Rattle.std.proofs.Common.{◌≡◌, ◌≤◌, ◌<◌, length, take, arith, refl, rules}
use Rattle.std.proofs.lemmas.List.{length-take-le}
use Rattle.pc_script.proofs.Pieces.{filled}
use Rattle.pc_script.proofs.piece.Piece.fill.Goals as goal

pub returns-in-Ok-clause-read : goal.returns-in-Ok-clause-read
returns-in-Ok-clause-read g c =
    let piece = c.args.self.now in
    let whole : length piece.bytes ≡ 131072 = search rules in
    let count : c.in-Ok.count ≤ length c.read.new.buf = search rules in
    let some : 0 < c.in-Ok.count = search rules in
    (take c.in-Ok.count c.read.new.buf, c.in-Ok.ensures.bytes.0, filled piece.bytes c.read.new.buf _ piece.len c.in-Ok.count (omega (arith, piece.within, whole)) count, λ more. absurd (more refl), λ _. omega (arith, some, length-take-le c.in-Ok.count c.read.new.buf count))
