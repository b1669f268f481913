use Rattle.std.proofs.Common.{◌++◌, take, drop, sym, ap, subst, ◌∙◌}
use Rattle.std.proofs.Math.Seq.{take-add}
use Rattle.std.specs.Io.KnownBytes.{Consumes}
use Rattle.std.proofs.KnownBytes.{Consumes-trans}
use Rattle.pc_script.proofs.input.read_bytes.Goals as goal

pub loop-filled-preserved : goal.loop-filled-preserved
loop-filled-preserved g c =
    let filled = c.loop-filled.filled in
    let count = c.in_ok-count.count in
    let text = c.loop-filled.text.items in
    let more = c.read_more.new.text.items in
    let read = c.in_ok-count.ensures in
    let joined = ap (λ front. front ++ take count (drop filled more)) (sym read.kept) ∙ sym (take-add filled count more) in (
      read.within,
      read.short,
      subst (Consumes _ _) joined (Consumes-trans _ _ _ (take filled text) _ c.loop-filled.invariant.2 read.reads),
    )
