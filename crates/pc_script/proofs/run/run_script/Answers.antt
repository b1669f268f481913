use Rattle.std.proofs.Common.{inr}
use Rattle.pc_script.proofs.Notices.{whole_output, until_output}
use Rattle.pc_script.proofs.run.run_script.Goals as goal

pub returns-clause-ok : goal.returns-clause-ok
returns-clause-ok g c =
    let whole = c.as_slice.ensures.value in
    let walked = rw whole at c.walk-ended.ensures.ok in
    whole_output g.M.Machine.IsRun _ c.in_ok-text.text.items (record { output = c.new.result }) c.walk-ended.new.observer _ _ _ c.walk-ended.result c.end.result
    c.in_ok-text.ensures.ok c.new.ensures walked c.end.ensures.same c.end.ensures.written

pub returns-clause-no_memory : goal.returns-clause-no_memory
returns-clause-no_memory g c = λ is.
    let whole = c.as_slice.ensures.value in
    let walked = rw whole at c.walk-ended.ensures.no_memory in
    inr (until_output g.M.Machine.IsRun g.M.Machine.RanOut _ c.in_ok-text.text.items (record { output = c.new.result }) c.walk-ended.new.observer _ _ _ c.walk-ended.result c.end.result
    c.in_ok-text.ensures.ok c.new.ensures walked c.end.ensures.same c.end.ensures.written is)
