use Rattle.pc_thread_view.specs.Told.{told_by_message}
use Rattle.pc_thread_view.proofs.Alone.{one_some}
use Rattle.pc_thread_view.proofs.Among.{not_void}
use Rattle.pc_thread_view.proofs.pieces.OneMessagePieceThreadView.alone.Goals as goal

pub returns-clause-not_empty : goal.returns-clause-not_empty
returns-clause-not_empty c = not_void (told_by_message c.args.self.number c.args.self.kind) (one_some c.args.self.number c.args.self.kind)
