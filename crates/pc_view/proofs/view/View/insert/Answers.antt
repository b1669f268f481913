use Rattle.std.proofs.Common.{ap, ◌∙◌, ◌||◌}
use Rattle.pc_join.specs.Sets.{source_at}
use Rattle.pc_join.proofs.Puts.{OnOk_then}
use Rattle.pc_thread_view.proofs.Alone.{one_source}
use Rattle.pc_view.specs.Views.{source_of, pairs_of}
use Rattle.pc_view.proofs.Runs.{message_members}
use Rattle.pc_view.proofs.view.View.insert.Goals as goal

pub returns-clause-union : goal.returns-clause-union
returns-clause-union c = OnOk_then c.put_piece.result c.put_piece.ensures.union (λ union m. union m ∙ ap (λ b. pairs_of c.args.self.now m || b)
    (message_members c.args.message.thread c.args.message.number c.args.message.kind m))

pub returns-clause-of_run : goal.returns-clause-of_run
returns-clause-of_run c = λ run a e. c.put_piece.ensures.of_source (source_of run) a
    (one_source c.args.message.number c.args.message.kind c.requires (source_at (source_of run) c.args.message.thread) e)
