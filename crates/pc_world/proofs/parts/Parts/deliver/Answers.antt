use Rattle.std.proofs.Common.{slice_get, refl, sym, ap, ◌∙◌}
use Rattle.pc_world.proofs.Own.{deliver_done, deliver_none, deliver_ran_out}
use Rattle.pc_world.proofs.Counting.{counts_none}
use Rattle.pc_world.proofs.parts.Parts.deliver.Goals as goal

pub returns-in-None-clause-handles : goal.returns-in-None-clause-handles
returns-in-None-clause-handles c =
    deliver_none c.args.self.now _ c.args.cpu c.in-Some.place c.in-Some.ensures c.args.index (ap (λ l. slice_get l c.args.index) (sym c.sent.ensures.same) ∙ sym c.in-None.ensures) refl refl refl

pub returns-in-Ok-clause-handles : goal.returns-in-Ok-clause-handles
returns-in-Ok-clause-handles c =
    deliver_done c.runs_go_on.ensures c.args.self.now _ c.args.cpu c.in-Some.place c.index_mut.result.now c.deliver.new.self c.in-Some.ensures c.index_mut.ensures.value refl c.args.index _ (ap (λ l. slice_get l c.args.index) (sym c.sent.ensures.same) ∙ sym c.in-Some-delta_at.ensures) refl refl c.in-Ok.ensures.delivers

pub returns-in-Err-clause-handles : goal.returns-in-Err-clause-handles
returns-in-Err-clause-handles c =
    deliver_ran_out c.runs_go_on.ensures c.args.self.now _ c.args.cpu c.in-Some.place c.index_mut.result.now c.deliver.new.self c.in-Some.ensures c.index_mut.ensures.value refl c.args.index _ (ap (λ l. slice_get l c.args.index) (sym c.sent.ensures.same) ∙ sym c.in-Some-delta_at.ensures) refl refl _ c.in-Err.ensures.delivers

pub returns-in-Ok-clause-counts : goal.returns-in-Ok-clause-counts
returns-in-Ok-clause-counts c =
    counts_none c.args.self.now c.args.cpu c.in-Some.place c.index_mut.result.now c.deliver.new.self c.in-Some.ensures c.index_mut.ensures.value c.deliver.ensures.counts

pub returns-in-Err-clause-counts : goal.returns-in-Err-clause-counts
returns-in-Err-clause-counts c =
    counts_none c.args.self.now c.args.cpu c.in-Some.place c.index_mut.result.now c.deliver.new.self c.in-Some.ensures c.index_mut.ensures.value c.deliver.ensures.counts
