use Rattle.std.proofs.Common.{◌≡◌, take}
use Rattle.pc_draw.specs.Pictures.{xml_text}
use Rattle.pc_draw.proofs.words.xml_of.Given as goal

abbrev pub invariant-loop-byte : goal.invariant-loop-byte
invariant-loop-byte l = l.made.items ≡ xml_text (take l.byte-index l.fn.text)
