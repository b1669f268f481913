-- What holds of every run.
use Rattle.std.specs.Prelude.{ℕ, ◌≡◌, List, Some, slice_get, take}
use Rattle.pc_agent.specs.PlainAgent.{ready_list}
use Rattle.pc_calls.specs.declared.event.Event.{Event}
use Rattle.pc_calls.specs.declared.event.Event.TheVariants.{Pick}
use Rattle.pc_calls.specs.declared.event.Reply.TheVariants.{Committed}
use Rattle.pc_calls.specs.declared.limits.Limits.{Limits}
use Rattle.pc_kernel.specs.Reads.{shown}
use Rattle.pc_policy.specs.Rules.{Rules}
use Rattle.pc_world.specs.PlainWorld.{PlainWorld, opened_by}
use Rattle.pc_world.specs.Reached.{Reached}
use Rattle.pc_world.specs.Steps.{Step}
use Rattle.pc_lab.specs.Moments.{IsNoCommit, Leads, Moment}

-- The first moments of a run lead to a world, and the next moment is a step that goes on from there
pub record GoesOn (start : PlainWorld) (before : List Moment) (moment : Moment) : Type 0 where
  pub world : PlainWorld
  pub next : PlainWorld
  pub leads : Leads start before world
  pub step : Step world moment.event moment.reply next

-- each moment goes on from those before it
abbrev pub MomentsGoOn : Type 0
MomentsGoOn =
    (start end : PlainWorld) (moments : List Moment) (place : ℕ) (moment : Moment) → Leads start moments end
    → slice_get moments place ≡ Some moment → GoesOn start (take place moments) moment

-- a world to which moments lead from the start is one that events lead to
abbrev pub MomentsReach : Type 0
MomentsReach =
    (each : ℕ → Rules) (limits : Limits) (moments : List Moment) (world : PlainWorld)
    → Leads (opened_by each limits) moments world → Reached limits world

-- The event is an agent's pick, and the thread is the first of its run list that the kernel would commit
pub record TakesTheFirst (world : PlainWorld) (event : Event) (cpu thread : ℕ) : Type 0 where
  pub aseq : ℕ
  pub pick : event ≡ Pick cpu aseq
  pub first : slice_get (ready_list (shown world.kernel) cpu aseq (world.agents cpu).list) 0 ≡ Some thread

-- a commit that no event asked for by the thread's name takes the first
abbrev pub CommitsTakeTheFirst : Type 0
CommitsTakeTheFirst =
    (world next : PlainWorld) (event : Event) (cpu thread : ℕ) → IsNoCommit event
    → Step world event (Committed cpu thread) next → TakesTheFirst world event cpu thread
