-- What the threads of a run leave.
use Rattle.std.specs.Prelude.{◌≡◌, vec_len}
use Rattle.pc_threads.specs.declared.runner.threads.Joined.{Joined}
use Rattle.pc_threads.specs.Settings.{Settings, ticks}
use Rattle.pc_threads.specs.Inner.Driving.{died_in, one, sum_in, told_in}
use Rattle.pc_threads.specs.Inner.Shares.{Done, HasDone, HasPosted, Spent, idle}

-- all steps were done, and every agent came back
pub record HasEnded (settings : Settings) (before : Spent) (pool : Done)
    (after : Spent) (done : Done) (joined : Joined) : Type 0 where
  pub posted : HasPosted 0 (sum_in told_in settings.threads) (sum_in ticks settings.threads)
      (sum_in one settings.threads) (sum_in died_in settings.threads) before after
  pub counted : HasDone joined.rows.items (idle 0) done
  pub rows : vec_len joined.rows ≡ pool.agents
  pub views : vec_len joined.views ≡ pool.agents
