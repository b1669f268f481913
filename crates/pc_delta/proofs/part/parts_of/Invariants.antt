use Rattle.std.proofs.Common.{◌≡◌, ◌≤◌, ◌+◌, take, length, vec_len, vec_capacity}
use Rattle.pc_delta.specs.Parts.{parts_in}
use Rattle.pc_delta.proofs.part.parts_of.Given as goal

abbrev pub invariant-loop-item : goal.invariant-loop-item
invariant-loop-item l = record {
  told : l.parts.items ≡ parts_in (take l.item-index l.items);
  room : vec_len l.parts + length l.items ≤ vec_capacity l.parts + l.item-index;
}
