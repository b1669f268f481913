use Rattle.std.proofs.Common.{ap, ◌∙◌, ◌++◌, length, ◌≤◌, arith}
use Rattle.std.proofs.lemmas.List.{drop_all, append-nil}
use Rattle.pc_thread_view.specs.declared.moves.TheConstants.{RUN}
use Rattle.pc_thread_view.proofs.moves.write_run.Goals as goal

pub returns-in-Some : goal.returns-in-Some
returns-in-Some g c =
    let whole = c.requires in
    let short : length c.args.slots.now ≤ RUN = omega arith in
    ap (λ l. c.args.run ++ l) (drop_all RUN c.args.slots.now short) ∙ append-nil c.args.run
