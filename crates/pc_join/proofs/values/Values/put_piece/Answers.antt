use Rattle.std.proofs.Common.{◌≤◌, ◌++◌, arith}
use Rattle.pc_join.specs.ByName.{value_at}
use Rattle.pc_join.specs.declared.near.TheConstants.{NEAR}
use Rattle.pc_join.proofs.Both.{put_near, put_far, high, now_near, now_far, new_near, new_far}
use Rattle.pc_join.proofs.Pieces.{piece_as}
use Rattle.pc_join.proofs.values.Values.put_piece.Goals as goal

pub returns-then-name-lt-NEAR : goal.returns-then-name-lt-NEAR
returns-then-name-lt-NEAR g c = piece_as g.V.Join.known g.V.Join.is_of (value_at c.self.inside.near) (value_at c.put_piece.new.self) c.args.name (value_at c.args.self.now) (value_at (c.put_piece.new.self ++ c.self.inside.far)) (g.P.Piece.stands_for c.args.piece) c.put_piece.result
    (now_near c.self.inside.near c.self.inside.far c.args.self.now c.self.view_is c.self.invariant c.args.name c.if-name-lt-NEAR.true)
    (new_near c.self.inside.near c.self.inside.far c.args.self.now c.self.view_is c.self.invariant c.put_piece.new.self c.put_piece.ensures.near c.args.name c.if-name-lt-NEAR.true (g.P.Piece.stands_for c.args.piece) c.args.name c.if-name-lt-NEAR.true)
    (put_near c.self.inside.near c.self.inside.far c.args.self.now c.self.view_is c.self.invariant c.put_piece.new.self c.put_piece.ensures.near c.args.name c.if-name-lt-NEAR.true (g.P.Piece.stands_for c.args.piece) g.V.Join.known g.V.Join.is_of)
    c.put_piece.ensures.joined

pub invariant_of-self-2 : goal.invariant_of-self-2
invariant_of-self-2 g c = (c.self.invariant.0, high c.self.inside.near c.self.inside.far c.args.self.now c.self.view_is c.self.invariant c.put_piece-2.new.self c.put_piece-2.ensures.ascend c.args.name (omega (arith, c.if-name-lt-NEAR.false)) (g.P.Piece.stands_for c.args.piece) g.V.Join.known g.V.Join.is_of c.put_piece-2.ensures.joined.put)

pub returns : goal.returns
returns g c =
    let far : NEAR ≤ c.args.name = omega (arith, c.if-name-lt-NEAR.false) in
    piece_as g.V.Join.known g.V.Join.is_of (value_at c.self.inside.far) (value_at c.put_piece-2.new.self) c.args.name (value_at c.args.self.now) (value_at (c.self.inside.near ++ c.put_piece-2.new.self)) (g.P.Piece.stands_for c.args.piece) c.put_piece-2.result
    (now_far c.self.inside.near c.self.inside.far c.args.self.now c.self.view_is c.self.invariant c.args.name far)
    (new_far c.self.inside.near c.self.inside.far c.args.self.now c.self.view_is c.self.invariant c.put_piece-2.new.self c.put_piece-2.ensures.ascend c.args.name far (g.P.Piece.stands_for c.args.piece) g.V.Join.known g.V.Join.is_of c.put_piece-2.ensures.joined.put c.args.name far)
    (put_far c.self.inside.near c.self.inside.far c.args.self.now c.self.view_is c.self.invariant c.put_piece-2.new.self c.put_piece-2.ensures.ascend c.args.name far (g.P.Piece.stands_for c.args.piece) g.V.Join.known g.V.Join.is_of)
    c.put_piece-2.ensures.joined
