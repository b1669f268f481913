-- Worlds that events lead to: whichever answers the agents choose, also to digests of long ago, and wherever memory
-- runs out.
use Rattle.std.specs.Prelude.{ℕ, ◌≡◌, ◌⊎◌, true, List, [], ◌∷◌}
use Rattle.pc_calls.specs.declared.event.Event.{Event}
use Rattle.pc_calls.specs.declared.event.Event.TheVariants.{Answer}
use Rattle.pc_calls.specs.declared.event.Reply.{Reply}
use Rattle.pc_calls.specs.declared.limits.Limits.{Limits}
use Rattle.pc_join.specs.Sets.{has}
use Rattle.pc_policy.specs.Rules.{Rules}
use Rattle.pc_agent.specs.PlainAgent.{Set}
use Rattle.pc_world.specs.PlainWorld.{PlainWorld, opened_by, sending}
use Rattle.pc_world.specs.RanOut.{RanOut}
use Rattle.pc_world.specs.Steps.{Step, are_cpus}

-- an agent sends a part of what it has taken in, whatever it is: an answer to an older digest is one
pub record IsSentLate (w : PlainWorld) (c : ℕ) (new : PlainWorld) : Type 0 where
  pub set : Set
  pub within : (t n : ℕ) → has set t n ≡ true → has (w.agents c).known t n ≡ true
  pub after : new ≡ sending w set

-- the event is an answer, and it is given to an older digest
abbrev pub IsAnsweredLate : PlainWorld → Event → PlainWorld → Type 0
IsAnsweredLate w (Answer cpu asker) new = (are_cpus w cpu asker ≡ true) × IsSentLate w cpu new
IsAnsweredLate w event new = ⊥

-- the event is done, with whatever reply, or answers an older digest, or finds no memory
abbrev pub LeadsTo : PlainWorld → Event → PlainWorld → Type 0
LeadsTo w event new = ((told : Reply) × Step w event told new) ⊎ (IsAnsweredLate w event new ⊎ RanOut w event new)

-- a list of events, one after another
abbrev pub Leads : PlainWorld → List Event → PlainWorld → Type 0
Leads w [] new = new ≡ w
Leads w (event ∷ events) new = (next : PlainWorld) × LeadsTo w event next × Leads next events new

-- events lead to the world from the start of these limits, with some rules of each agent
pub record Reached (limits : Limits) (w : PlainWorld) : Type 0 where
  pub rules : ℕ → Rules
  pub events : List Event
  pub leads : Leads (opened_by rules limits) events w
