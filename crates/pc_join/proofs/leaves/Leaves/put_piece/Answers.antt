use Rattle.pc_join.specs.ByName.{value_at}
use Rattle.pc_join.specs.Inner.Leaves.{held_in}
use Rattle.pc_join.proofs.Trees.{all_ascend, put_as, shown_as, held_shown}
use Rattle.pc_join.proofs.Pieces.{piece_as}
use Rattle.pc_join.proofs.leaves.Leaves.put_piece.Goals as goal

pub returns-clause-joined : goal.returns-clause-joined
returns-clause-joined g c =
    let before = shown_as c.self.inside.leaves c.args.self.now c.self.view_is c.self.invariant in
    let after = held_shown c.put_piece_by.new.leaves c.put_piece_by.ensures.leaves in
    piece_as g.V.Join.known g.V.Join.is_of (held_in c.self.inside.leaves) (held_in c.put_piece_by.new.leaves) c.args.name (value_at c.args.self.now) (value_at _) (g.P.Piece.stands_for c.args.piece) c.put_piece_by.result
    (before c.args.name) (after c.args.name)
    (put_as (held_in c.self.inside.leaves) (held_in c.put_piece_by.new.leaves) (value_at c.args.self.now) (value_at _) before after c.args.name (g.P.Piece.stands_for c.args.piece) g.V.Join.known g.V.Join.is_of)
    c.put_piece_by.ensures.joined

pub returns-clause-ascend : goal.returns-clause-ascend
returns-clause-ascend g c = all_ascend c.put_piece_by.new.leaves c.put_piece_by.ensures.leaves
