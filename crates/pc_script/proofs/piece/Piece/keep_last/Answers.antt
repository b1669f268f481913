use Rattle.std.proofs.Common.{◌≡◌, ◌≤◌, ◌∙◌, length, take, arith, rules, ap}
use Rattle.pc_script.proofs.Pieces.{moved}
use Rattle.pc_script.proofs.piece.Piece.keep_last.Goals as goal

pub returns : goal.returns
returns c =
    let piece = c.args.self.now in
    let whole : length piece.bytes ≡ 131072 = search rules in
    let count : c.args.count ≤ length (take piece.len piece.bytes) = c.requires in
    ap (take c.args.count) c.copy_within.ensures.after ∙ moved piece.bytes piece.len c.args.count (omega (arith, piece.within, whole)) count
