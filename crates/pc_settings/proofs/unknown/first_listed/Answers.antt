use Rattle.std.proofs.Common.{sym, ap, ◌∙◌}
use Rattle.pc_settings.specs.Keys.{first_some, of_each}
use Rattle.pc_settings.specs.UnknownKeys.{unknown_in}
use Rattle.pc_settings.specs.Inner.Values.{table_in}
use Rattle.pc_settings.proofs.Stages.{turn, stop}
use Rattle.pc_settings.proofs.unknown.first_listed.Goals as goal

pub returns-in-Some : goal.returns-in-Some
returns-in-Some c =
    sym (stop table_in (unknown_in c.args.kind) c.items_at-value-items.result.now c.loop-place.place c.value-item.result c.in-Some.unknown c.loop-place-test.true
    c.value-item.is c.loop-place.invariant (sym c.first_of.ensures ∙ c.in-Some.is))
    ∙ ap (λ tables. first_some (of_each (unknown_in c.args.kind) 0 tables)) c.items_at-value-items.ensures

pub loop-place-preserved : goal.loop-place-preserved
loop-place-preserved c =
    turn table_in (unknown_in c.args.kind) c.items_at-value-items.result.now c.loop-place.place c.value-item.result c.loop-place-test.true c.value-item.is
    c.loop-place.invariant (sym c.first_of.ensures ∙ c.in_default.is)
