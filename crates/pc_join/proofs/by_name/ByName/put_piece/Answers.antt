use Rattle.std.proofs.Common.{◌<◌, ◌^◌, subst}
use Rattle.pc_join.specs.ByName.{value_at}
use Rattle.pc_join.specs.Inner.Puts.{IsPieceJoined}
use Rattle.pc_join.proofs.Puts.{OnOk_then, put_shown, put_union, put_between, put_kept, put_short, put_of_source}
use Rattle.pc_join.proofs.Pieces.{kept_shown, succeeds_shown}
use Rattle.pc_join.proofs.by_name.ByName.put_piece.Goals as goal
use Rattle.pc_join.proofs.by_name.ByName.put_piece.Goals.{After-put_piece}

module _ (g : _) (c : After-put_piece g) where
  joined : IsPieceJoined g.V.Join.known g.V.Join.is_of (value_at c.self.inside.values) c.args.name (g.P.Piece.stands_for c.args.piece) (value_at c.put_piece.new.self) c.put_piece.result
  joined = subst (λ k. IsPieceJoined g.V.Join.known g.V.Join.is_of (value_at c.self.inside.values) k (g.P.Piece.stands_for c.args.piece) (value_at c.put_piece.new.self) c.put_piece.result) c.index.ensures c.put_piece.ensures

pub invariant_of-self : goal.invariant_of-self
invariant_of-self g c = (
  put_kept g.V.Join.known g.V.Join.is_of c.self.inside.values c.put_piece.new.self c.args.self.now c.self.view_is c.args.name (g.P.Piece.stands_for c.args.piece) (joined g c).put c.self.invariant.0 (joined g c).not_empty,
  put_short g.V.Join.known g.V.Join.is_of c.self.inside.values c.put_piece.new.self c.args.self.now c.self.view_is c.args.name (g.P.Piece.stands_for c.args.piece) (joined g c).put c.self.invariant.1 (subst (λ k. k < 2 ^ 32) c.index.ensures c.index.type_inv),
)

pub returns-clause-union : goal.returns-clause-union
returns-clause-union g c = OnOk_then c.put_piece.result (joined g c).whole (put_union g.V.Join.known g.V.Join.is_of c.self.inside.values c.put_piece.new.self c.args.self.now c.self.view_is c.args.name (g.P.Piece.stands_for c.args.piece) (joined g c).put)

pub returns-clause-between : goal.returns-clause-between
returns-clause-between g c = put_between g.V.Join.known g.V.Join.is_of c.self.inside.values c.put_piece.new.self c.args.self.now c.self.view_is c.args.name (g.P.Piece.stands_for c.args.piece) (joined g c).put

pub returns-clause-of_source : goal.returns-clause-of_source
returns-clause-of_source g c = put_of_source g.V.Join.known g.V.Join.is_of c.self.inside.values c.put_piece.new.self c.args.self.now c.self.view_is c.args.name (g.P.Piece.stands_for c.args.piece) (joined g c).put (invariant_of-self g c).0

pub returns-clause-others : goal.returns-clause-others
returns-clause-others g c = (put_shown g.V.Join.known g.V.Join.is_of c.self.inside.values c.put_piece.new.self c.args.self.now c.self.view_is c.args.name (g.P.Piece.stands_for c.args.piece) (joined g c).put).others

pub returns-clause-known : goal.returns-clause-known
returns-clause-known g c = kept_shown g.V.Join.known g.V.Join.is_of c.self.inside.values c.put_piece.new.self c.args.self.now c.args.name (g.P.Piece.stands_for c.args.piece) c.put_piece.result c.self.view_is (joined g c)

pub returns-clause-known_succeeds : goal.returns-clause-known_succeeds
returns-clause-known_succeeds g c = succeeds_shown g.V.Join.known g.V.Join.is_of c.self.inside.values c.put_piece.new.self c.args.self.now c.args.name (g.P.Piece.stands_for c.args.piece) c.put_piece.result c.self.view_is (joined g c)
