use Rattle.std.proofs.Common.{◌≡◌, ◌⊎◌, Ok, Err, inl, inr, sym, ap, ◌∙◌, map, rules}
use Rattle.pc_settings.specs.declared.runs.SettingsFault.TheVariants.{OutOfMemory}
use Rattle.pc_settings.specs.Inner.Readings.{each, read_restart}
use Rattle.pc_settings.specs.Inner.Values.{table_in}
use Rattle.pc_settings.proofs.Readings.{turn, stop}
use Rattle.pc_settings.proofs.runs.restarts_of.Goals as goal

pub returns-in_err-restart_of : goal.returns-in_err-restart_of
returns-in_err-restart_of c =
    let fault = c.in_err-restart_of.field-0.0 in
    let is : c.from_residual.result ≡ Err fault = search rules in
    let told : (each read_restart 0 (map table_in c.args.items.now) ≡ Err fault) ⊎ (fault ≡ OutOfMemory) =
    elim c.in_err-restart_of.ensures [
      | inl h ↦ inl (stop table_in read_restart c.args.items.now c.loop-item.item-index c.item-item.result c.loop-item.restarts.items fault c.loop-item-test.true c.item-item.is c.loop-item.invariant h)
      | inr h ↦ inr h
    ] in
    rw is told

pub loop-item-preserved : goal.loop-item-preserved
loop-item-preserved c =
    turn table_in read_restart c.args.items.now c.loop-item.item-index c.item-item.result c.loop-item.restarts.items c.in_ok-restart_of.field-0
    c.loop-item-test.true c.item-item.is c.loop-item.invariant c.in_ok-restart_of.ensures
    ∙ ap (λ xs. Ok xs) (sym c.in_ok-push.ensures.items)
