use Rattle.pc_script.specs.Inner.Outputs.{waiting}
use Rattle.pc_script.proofs.Replays.{all_written, emptied, on_ok}
use Rattle.pc_script.proofs.run.RepliesObserver.settle.Goals as goal

pub returns-clause-ok : goal.returns-clause-ok
returns-clause-ok g c =
    on_ok c.unless_failed.result c.unless_failed.ensures.ok
    (λ is. all_written _ _ (waiting c.args.self.now.output.waiting) _ (emptied c.write_out.new.self.waiting c.write_out.ensures.empty) (c.write_out.ensures.written is))
