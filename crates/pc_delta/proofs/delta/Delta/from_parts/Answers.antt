use Rattle.std.proofs.Common.{sym, ap, ◌∙◌}
use Rattle.pc_delta.specs.Faults.{first_fault}
use Rattle.pc_delta.proofs.Refusals.{not_memory, not_conflict, none_found}
use Rattle.pc_delta.proofs.delta.Delta.from_parts.Goals as goal

pub returns-in-Some-clause-out_of_memory : goal.returns-in-Some-clause-out_of_memory
returns-in-Some-clause-out_of_memory c = λ e. absurd (not_memory c.args.parts.items c.in-Some.fault (sym (ap first_fault c.as_slice.ensures.value) ∙ sym c.first_fault_of.ensures ∙ c.in-Some.is) e)

pub returns-in-Some-clause-conflict : goal.returns-in-Some-clause-conflict
returns-in-Some-clause-conflict c = λ thread number e. absurd (not_conflict c.args.parts.items c.in-Some.fault thread number (sym (ap first_fault c.as_slice.ensures.value) ∙ sym c.first_fault_of.ensures ∙ c.in-Some.is) e)

pub returns-in-Ok-None-clause-no_conflict : goal.returns-in-Ok-None-clause-no_conflict
returns-in-Ok-None-clause-no_conflict c = none_found c.in-Ok-None.field-0 c.as_slice-2.result.now c.args.parts.items c.in-Ok-None.field-0-is c.as_slice-2.ensures.value c.in-Ok-None.ensures
