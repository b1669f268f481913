use Rattle.std.proofs.Common.{take, map, flat_map, sym, subst}
use Rattle.std.specs.Io.KnownBytes.{Appends}
use Rattle.pc_settings.specs.Keys.{of_each}
use Rattle.pc_settings.specs.UnknownKeys.{unknown_in}
use Rattle.pc_settings.specs.UnknownWords.{warning_of}
use Rattle.pc_settings.specs.Inner.Values.{table_in}
use Rattle.pc_settings.proofs.Stages.{each_more}
use Rattle.pc_settings.proofs.UnknownKeys.{lines_behind}
use Rattle.pc_settings.proofs.unknown.warnings.write_list.Goals as goal

pub loop-place-preserved : goal.loop-place-preserved
loop-place-preserved g c =
    let values = c.items_at-value-items.result.now in
    let before = g.W.Write.contents c.args.writer.now in
    let after = g.W.Write.contents c.write_value.new.writer in
    subst (λ told. Appends before after (flat_map warning_of told))
    (sym (each_more table_in (unknown_in c.args.kind) values c.loop-place.place c.value-item.result c.loop-place-test.true c.value-item.is))
    (lines_behind warning_of before (g.W.Write.contents c.loop-place.writer) after (of_each (unknown_in c.args.kind) 0 (map table_in (take c.loop-place.place values)))
    (unknown_in c.args.kind c.loop-place.place (table_in c.value-item.result)) c.loop-place.invariant c.in_ok-write_value.ensures)
