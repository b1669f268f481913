-- What a stage holds while a run goes on.
use Rattle.std.specs.Prelude.{◌≡◌, ℕ, ◌<◌, List, [], ◌++◌, Option, Some, None, All, if◌then◌else◌, length, slice_get}
use Rattle.pc_calls.specs.declared.event.Event.{Event}
use Rattle.pc_load.specs.Loads.{Demand}
use Rattle.pc_policy.specs.Names.{rules_named}
use Rattle.pc_policy.specs.Rules.{Rules}
use Rattle.pc_policy.specs.declared.named.PolicyName.{PolicyName}
use Rattle.pc_world.specs.PlainWorld.{PlainWorld, opened_by}
use Rattle.pc_world.specs.Shows.{ShowsWorld, World}
use Rattle.pc_lab.specs.declared.chronicle.Chronicle.{Chronicle}
use Rattle.pc_lab.specs.declared.chronicle.Chronicle.TheVariants.{Untold, Script}
use Rattle.pc_lab.specs.declared.counted.Counted.{Counted}
use Rattle.pc_lab.specs.declared.counted.Counted.TheVariants.{Commit}
use Rattle.pc_lab.specs.Counting.{count_of, counted_in}
use Rattle.pc_lab.specs.Creations.{AreFirst, Creation, creation_at, creations, creations_of}
use Rattle.pc_lab.specs.Limits.{limits_for}
use Rattle.pc_lab.specs.Waiters.{AreBehind}
use Rattle.pc_lab.specs.Waiting.{ended_waits}
use Rattle.pc_lab.specs.Moments.{IsNoAnswer, IsNoCommit, IsWritten, Leads, Moment, last_tick}
use Rattle.pc_lab.specs.declared.waits.Wait.{Wait}
use Rattle.pc_lab.specs.declared.waits.Waiter.{Waiter}
use Rattle.pc_lab.specs.Texts.{body_text, event_line, is_told, tick_line}

-- a chronicle gains the lines of an event at a tick, behind a tick that was told last
abbrev pub Tells : Option ℕ → ℕ → Event → Chronicle → Chronicle → Type 0
Tells told tick event Untold Untold = Unit {0}
Tells told tick event (Script old) (Script new) =
    new.items ≡ old.items ++ ((if is_told told tick then [] else tick_line tick) ++ event_line event)
Tells told tick event Untold (Script new) = ⊥
Tells told tick event (Script old) Untold = ⊥

-- a chronicle holds these moments, behind a text
abbrev pub Holds : List ℕ → Chronicle → List Moment → Type 0
Holds before Untold moments = Unit {0}
Holds before (Script text) moments = text.items ≡ before ++ body_text moments

-- what a stage is seen as: the tick of now, and how many threads have come
pub record Now : Type 0 where
  pub tick : ℕ
  pub came : ℕ

-- where the event is a creation, it is that of the load's next thread, now
abbrev pub MayCome : Demand → Now → Event → Type 0
MayCome load now event =
    (one : Creation) → creation_at now.tick event ≡ Some one → slice_get (creations_of load) now.came ≡ Some one

-- Moments have led from the start of a world for a load, in which each agent goes by the policy, to what the world
-- shows; threads came as the load has them, the chronicle holds the moments behind a text, and all counts are theirs
pub record IsRun (load : Demand) (policy : PolicyName) (before : List ℕ) (world : World) (chronicle : Chronicle)
    (told : Option ℕ) (events : ℕ) (tally : List ℕ) (waits : List Wait) (waiters : List Waiter) (came : ℕ)
    : Type 0 where
  pub each : ℕ → Rules
  pub same : (c : ℕ) → c < (limits_for load).cpus → each c ≡ rules_named policy
  pub moments : List Moment
  pub plain : PlainWorld
  pub leads : Leads (opened_by each (limits_for load)) moments plain
  pub written : All IsWritten moments
  pub answers_none : All (λ moment. IsNoAnswer moment.event) moments
  pub commits_none : All (λ moment. IsNoCommit moment.event) moments
  pub created : AreFirst (creations moments) (creations_of load)
  pub many : came ≡ length (creations moments)
  pub shows : ShowsWorld world plain
  pub last : told ≡ last_tick None moments
  pub holds : Holds before chronicle moments
  pub number : events ≡ length moments
  pub counts : (what : Counted) → counted_in tally what ≡ count_of what moments
  pub ended : length waits ≡ count_of Commit moments
  pub are_told : waits ≡ ended_waits load moments
  pub behind : AreBehind load moments waiters

-- the text of a chronicle
abbrev pub text_in : Chronicle → List ℕ
text_in Untold = []
text_in (Script text) = text.items
