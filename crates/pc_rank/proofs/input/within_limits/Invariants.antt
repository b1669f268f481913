use Rattle.std.proofs.Common.{◌≡◌, ◌≤◌, take}
use Rattle.std.specs.Prelude.{count_by}
use Rattle.pc_rank.specs.Tokens.{is_node}
use Rattle.pc_rank.proofs.input.within_limits.Given as goal

abbrev pub invariant-loop-token : goal.invariant-loop-token
invariant-loop-token l = record {
  count : l.count ≡ count_by is_node (take l.token-index l.token-items);
  few : l.count ≤ 64;
  index : l.index ≡ l.token-index;
}
