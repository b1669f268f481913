use Rattle.std.proofs.Common.{refl}
use Rattle.pc_kernel.proofs.ShownReads.{shown-kinds, shown-number, shown-is_known, shown-content, shown-aseq, shown-on}
use Rattle.pc_kernel.proofs.laws.reads_are_plain.Goals as goal

pub returns : goal.returns
returns c P = record {
  kinds = shown-kinds P;
  number = shown-number P;
  known = shown-is_known P;
  threads = refl;
  content = shown-content P;
  aseq = shown-aseq P;
  on = shown-on P;
}
