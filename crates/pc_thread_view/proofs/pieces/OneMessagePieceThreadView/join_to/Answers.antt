use Rattle.std.proofs.Common.{[], ◌∷◌}
use Rattle.pc_thread_view.specs.Told.{told_by_message}
use Rattle.pc_thread_view.proofs.Alone.{one_gives, one_here, one_some}
use Rattle.pc_thread_view.proofs.Among.{not_void}
use Rattle.pc_thread_view.proofs.pieces.OneMessagePieceThreadView.join_to.Goals as goal

pub returns-clause-of_source : goal.returns-clause-of_source
returns-clause-of_source c = λ s a b. c.insert.ensures.of_source s a (one_gives c.args.self.number c.args.self.kind c.args.self.well_formed s b)

pub returns-clause-known : goal.returns-clause-known
returns-clause-known c = λ within. c.insert.ensures.known (within (c.args.self.number ∷ []) (one_here c.args.self.number c.args.self.kind))

pub returns-clause-known_succeeds : goal.returns-clause-known_succeeds
returns-clause-known_succeeds c = λ within. c.insert.ensures.known_succeeds (within (c.args.self.number ∷ []) (one_here c.args.self.number c.args.self.kind))

pub returns-clause-not_empty : goal.returns-clause-not_empty
returns-clause-not_empty c = not_void (told_by_message c.args.self.number c.args.self.kind) (one_some c.args.self.number c.args.self.kind)
