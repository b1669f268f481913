use Rattle.std.proofs.Common.{ap, ◌∙◌, ◌||◌}
use Rattle.pc_join.proofs.Puts.{OnOk_then}
use Rattle.pc_view.specs.Views.{source_of, pairs_of}
use Rattle.pc_view.proofs.Runs.{folded_of, folded_members}
use Rattle.pc_view.proofs.view.View.fold.Goals as goal

pub returns-clause-union : goal.returns-clause-union
returns-clause-union c = OnOk_then c.put_piece.result c.put_piece.ensures.union (λ union m. union m ∙ ap (λ b. pairs_of c.args.self.now m || b)
    (folded_members c.args.thread c.args.upto c.args.reported m))

pub returns-clause-of_run : goal.returns-clause-of_run
returns-clause-of_run c = λ run a p. c.put_piece.ensures.of_source (source_of run) a (folded_of run c.args.thread c.args.upto c.args.reported p)
