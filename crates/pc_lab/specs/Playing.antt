-- A load that was played.
use Rattle.std.specs.Prelude.{◌≡◌, ℕ, ◌<◌, ◌≤◌, Bool, List, None, IfSome, All, length}
use Rattle.pc_kernel.specs.Reads.{shown}
use Rattle.pc_load.specs.Loads.{Demand}
use Rattle.pc_policy.specs.Rules.{Rules}
use Rattle.pc_policy.specs.declared.named.PolicyName.{PolicyName}
use Rattle.pc_world.specs.PlainWorld.{PlainWorld, opened_by}
use Rattle.pc_lab.specs.declared.counted.Counted.{Counted}
use Rattle.pc_lab.specs.declared.counted.Counted.TheVariants.{Commit}
use Rattle.pc_lab.specs.declared.summary.RunEnding.TheVariants.{Done, Stalled}
use Rattle.pc_lab.specs.declared.summary.Played.{Played}
use Rattle.pc_lab.specs.Accounts.{AddsUp}
use Rattle.pc_lab.specs.Counting.{count_of, counted_in}
use Rattle.pc_lab.specs.Creations.{AreFirst, creations, creations_of}
use Rattle.pc_lab.specs.Limits.{limits_for}
use Rattle.pc_lab.specs.Moments.{IsNoAnswer, IsNoCommit, IsWritten, Leads, Moment, last_tick}
use Rattle.pc_lab.specs.Stages.{Holds}
use Rattle.pc_lab.specs.Stalling.{HasStalled}
use Rattle.pc_policy.specs.Names.{rules_named}
use Rattle.pc_lab.specs.Times.{IsWhole}
use Rattle.pc_lab.specs.Waiting.{ended_waits, unended_waits}

-- Moments led from the start of a world for the load, in which each agent goes by the policy, to some world: each
-- reply is that of the world's step, ticks never descend, and none is behind the makespan; a script can write each
-- event, none answers a digest or commits a thread by its name, and the threads that came are the load's first ones, as
-- it has them. What is told is of these moments: the chronicle has their lines behind a text, counts count them, waits
-- are those that they end, as many as there are commits, and those that they do not end, and the time of each CPU adds
-- up to the makespan. A run that is done adds up to the load, and one that ends as stalled has stalled at that thread
pub record IsPlayedBy (load : Demand) (policy : PolicyName) (keep : Bool) (before : List ℕ)
    (played : Played) : Type 0 where
  pub each : ℕ → Rules
  pub same : (c : ℕ) → c < (limits_for load).cpus → each c ≡ rules_named policy
  pub moments : List Moment
  pub plain : PlainWorld
  pub leads : Leads (opened_by each (limits_for load)) moments plain
  pub in_time : IfSome (last_tick None moments) (λ tick. tick ≤ played.summary.makespan)
  pub written : All IsWritten moments
  pub answers_none : All (λ moment. IsNoAnswer moment.event) moments
  pub commits_none : All (λ moment. IsNoCommit moment.event) moments
  pub created : AreFirst (creations moments) (creations_of load)
  pub told : Holds before played.chronicle moments
  pub events : played.summary.events ≡ length moments
  pub counts : (what : Counted) → counted_in played.summary.tally what ≡ count_of what moments
  pub waits : length played.summary.waits.items ≡ count_of Commit moments
  pub ended : played.summary.waits.items ≡ ended_waits load moments
  pub unended : played.summary.unended.items
      ≡ unended_waits load moments (shown plain.kernel) played.summary.makespan
  pub cpus : length played.summary.times.items ≡ (limits_for load).cpus
  pub times : All (IsWhole played.summary.makespan) played.summary.times.items
  pub adds_up : played.summary.ending ≡ Done → AddsUp load keep (shown plain.kernel) played.summary
  pub stalled : (t : ℕ) → played.summary.ending ≡ Stalled t → HasStalled load (shown plain.kernel) t
