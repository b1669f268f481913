use Rattle.std.proofs.Common.{◌≡◌, ◌≤◌, ◌*◌, ◌-◌, ◌^◌, take, sum_by}
use Rattle.pc_threads.proofs.report.accounted.sum.Given as goal

-- what the first rows come to
abbrev pub invariant-loop-row : goal.invariant-loop-row
invariant-loop-row l = record {
  commits : l.all.commits ≡ sum_by (λ row. row.commits) (take l.row-index l.rows);
  steals : l.all.steals ≡ sum_by (λ row. row.steals) (take l.row-index l.rows);
  taken : l.all.taken ≡ sum_by (λ row. row.taken) (take l.row-index l.rows);
  few_commits : l.all.commits ≤ l.row-index * (2 ^ 64 - 1);
  few_steals : l.all.steals ≤ l.row-index * (2 ^ 64 - 1);
  few_taken : l.all.taken ≤ l.row-index * (2 ^ 64 - 1);
}
