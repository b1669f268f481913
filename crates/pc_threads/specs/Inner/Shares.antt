-- What shares of ledgers have counted.
use Rattle.std.specs.Prelude.{ℕ, ◌+◌, ◌≡◌, List, length, sum_by}
use Rattle.pc_threads.specs.declared.report.row.Row.{Row}

-- what the driver has: its CPUs, and what it posted: threads, messages of threads, ticks, how often a thread left its
-- CPU, and how many threads died
pub record Spent : Type 0 where
  pub cpus : ℕ
  pub created : ℕ
  pub told : ℕ
  pub ran : ℕ
  pub left : ℕ
  pub died : ℕ

-- on so many CPUs, nothing was posted
abbrev pub unspent : ℕ → Spent
unspent cpus = record { cpus = cpus; created = 0; told = 0; ran = 0; left = 0; died = 0 }

-- so many threads were created, so many messages of threads posted, which told so many ticks, so many times a thread
-- left its CPU, and so many threads died
pub record HasPosted (threads messages ticks leavings deaths : ℕ) (old new : Spent) : Type 0 where
  pub cpus_stay : new.cpus ≡ old.cpus
  pub created_more : new.created ≡ old.created + threads
  pub told_more : new.told ≡ old.told + messages
  pub ran_more : new.ran ≡ old.ran + ticks
  pub left_more : new.left ≡ old.left + leavings
  pub died_more : new.died ≡ old.died + deaths

-- how many agents do not run, and what they did
pub record Done : Type 0 where
  pub agents : ℕ
  pub committed : ℕ
  pub taken_over : ℕ
  pub consumed : ℕ

-- so many agents do not run, and nothing was done
abbrev pub idle : ℕ → Done
idle agents = record { agents = agents; committed = 0; taken_over = 0; consumed = 0 }

-- agents came back, and had counted this
pub record HasDone (rows : List Row) (old new : Done) : Type 0 where
  pub agents_more : new.agents ≡ old.agents + length rows
  pub committed_more : new.committed ≡ old.committed + sum_by (λ row. row.commits) rows
  pub taken_over_more : new.taken_over ≡ old.taken_over + sum_by (λ row. row.steals) rows
  pub consumed_more : new.consumed ≡ old.consumed + sum_by (λ row. row.taken) rows
