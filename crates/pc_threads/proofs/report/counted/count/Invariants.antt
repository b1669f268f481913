use Rattle.std.proofs.Common.{◌≡◌, ◌≤◌, ◌*◌, ◌-◌, ◌^◌, take}
use Rattle.pc_threads.specs.Totals.{committed_by, consumed_by, in_all, ran_by, taken_over_by, told_by}
use Rattle.pc_threads.proofs.report.counted.count.Given as goal

-- what the first calls come to, each of which adds one to a count, or what a number of 32 bits tells
abbrev pub invariant-loop-call : goal.invariant-loop-call
invariant-loop-call l = record {
  messages : l.all.messages ≡ in_all told_by (take l.call-index l.calls);
  commits : l.all.commits ≡ in_all committed_by (take l.call-index l.calls);
  taken_over : l.all.taken_over ≡ in_all taken_over_by (take l.call-index l.calls);
  ran : l.all.ran ≡ in_all ran_by (take l.call-index l.calls);
  consumed : l.all.consumed ≡ in_all consumed_by (take l.call-index l.calls);
  few_messages : l.all.messages ≤ l.call-index;
  few_commits : l.all.commits ≤ l.call-index;
  few_taken_over : l.all.taken_over ≤ l.call-index;
  few_items : l.all.consumed ≤ l.call-index * (2 ^ 32 - 1);
  backed : l.all.ran ≤ l.all.messages * (2 ^ 32 - 1);
}
