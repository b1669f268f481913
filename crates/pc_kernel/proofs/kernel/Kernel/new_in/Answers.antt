use Rattle.std.proofs.Common.{sym, ◌∙◌}
use Rattle.pc_kernel.proofs.Begin.{tables_begin, begins_shows}
use Rattle.pc_kernel.proofs.Ranges.{widest}
use Rattle.pc_kernel.proofs.Reached.{reached_start}
use Rattle.pc_kernel.proofs.kernel.Kernel.new_in.Goals as goal

pub invariant_of-result : goal.invariant_of-result
invariant_of-result c = rw c.new.ensures.items (tables_begin c.args.limits c.in-Ok.cpus.items (widest c.args.profile c.args.limits (sym c.bad_field.ensures ∙ c.in-None.is)) c.in-Ok.ensures.count c.in-Ok.ensures.each)

pub invariant_of-result-in-Ok : goal.invariant_of-result-in-Ok
invariant_of-result-in-Ok c = rw c.new.ensures.items (reached_start _ (begins_shows c.args.limits c.in-Ok.cpus.items c.in-Ok.ensures.count c.in-Ok.ensures.each))

pub returns-in-Ok-clause-ok : goal.returns-in-Ok-clause-ok
returns-in-Ok-clause-ok c = rw c.new.ensures.items (begins_shows c.args.limits c.in-Ok.cpus.items c.in-Ok.ensures.count c.in-Ok.ensures.each)
