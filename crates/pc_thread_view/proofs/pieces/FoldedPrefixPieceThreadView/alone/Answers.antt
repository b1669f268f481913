use Rattle.pc_thread_view.proofs.Alone.{prefix_not_void}
use Rattle.pc_thread_view.proofs.pieces.FoldedPrefixPieceThreadView.alone.Goals as goal

pub returns-clause-not_empty : goal.returns-clause-not_empty
returns-clause-not_empty c = prefix_not_void c.args.self.upto c.args.self.reported c.args.self.positive
