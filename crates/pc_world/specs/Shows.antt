-- What a world shows: its kernel the plain kernel, each agent the plain agent of its CPU, and what was sent.
use Rattle.std.specs.Prelude.{ℕ, ◌≡◌, List, [], ◌∷◌, ◌++◌, Option, Some, None, IsTrue, IsFalse, slice_get}
use Rattle.pc_messages.specs.Run.{Run}
use Rattle.pc_calls.specs.declared.event.Event.{Event}
use Rattle.pc_calls.specs.declared.event.Reply.{Reply}
use Rattle.pc_join.specs.Sets.{IsSameSet, Members, as_members}
use Rattle.pc_kernel.specs.Answers.{Shows}
use Rattle.pc_kernel.specs.PlainKernel.{kinds}
use Rattle.pc_kernel.specs.Reads.{shown, is_cpu}
use Rattle.pc_view.specs.declared.view.View.{View}
use Rattle.pc_delta.specs.declared.part.Part.{Part}
use Rattle.pc_agent.specs.declared.agent.Agent.{Agent}
use Rattle.pc_agent.specs.PlainAgent.{Set}
use Rattle.pc_agent.specs.Shows.{ShowsAgent, ShowsDelta, ShowsView, rules_in}
use Rattle.pc_agent.specs.Wires.{sent_by}
use Rattle.pc_world.specs.declared.parts.Parts.{Parts}
use Rattle.pc_world.specs.PlainWorld.{PlainWorld}
use Rattle.pc_world.specs.Reached.{Reached}
use Rattle.pc_world.specs.RanOut.{IsCutShort, RanOut, RanOutAmong}
use Rattle.pc_world.specs.Steps.{IsAnsweringDigest, Runs}

-- what a world is seen as
abbrev pub World : Type 0
World = Parts

-- the deltas tell these sets, one after another
abbrev pub AreSent : Run → List Set → List (List Part) → Type 0
AreSent run [] [] = Unit {0}
AreSent run (set ∷ sets) (delta ∷ deltas) = ShowsDelta run set delta × AreSent run sets deltas
AreSent run [] (delta ∷ deltas) = ⊥
AreSent run (set ∷ sets) [] = ⊥

-- the deltas that were sent, in order
abbrev pub deltas_of : World → List (List Part)
deltas_of world = sent_by world.wire

-- the world shows this plain world
pub record ShowsWorld (world : World) (w : PlainWorld) : Type 0 where
  pub kernel : Shows world.kernel w.kernel
  pub agents : (c : ℕ) (agent : Agent) → slice_get world.agents.items c ≡ Some agent
      → ShowsAgent (kinds w.kernel) (w.agents c) agent
  pub sent : AreSent (kinds w.kernel) w.sent (deltas_of world)

-- a plain world that events lead to from the start of the kernel's limits, and that is shown; each agent that is there
-- goes by the rules of the start
pub record IsReached (world : World) : Type 0 where
  pub plain : PlainWorld
  pub reached : Reached world.kernel.limits plain
  pub shows : ShowsWorld world plain
  pub rules : (c : ℕ) (agent : Agent) → slice_get world.agents.items c ≡ Some agent → rules_in agent ≡ reached.rules c

-- the agent of a CPU; none of a CPU that is not there
abbrev pub IsAgentAt : PlainWorld → ℕ → Option Agent → Type 0
IsAgentAt w c None = IsFalse (is_cpu (shown w.kernel) c)
IsAgentAt w c (Some agent) = IsTrue (is_cpu (shown w.kernel) c) × ShowsAgent (kinds w.kernel) (w.agents c) agent

-- the view of the agent of a CPU; none of a CPU that is not there
abbrev pub IsViewAt : PlainWorld → ℕ → Option View → Type 0
IsViewAt w c None = IsFalse (is_cpu (shown w.kernel) c)
IsViewAt w c (Some view) = IsTrue (is_cpu (shown w.kernel) c) × ShowsView (kinds w.kernel) (w.agents c).known view

-- for every plain world that is shown before, the reply is that of a step, whose result is shown after
abbrev pub Does : (PlainWorld → Reply → PlainWorld → Type 0) → World → World → Reply → Type 0
Does step old new told = (w : PlainWorld) → ShowsWorld old w → (w' : PlainWorld) × step w told w' × ShowsWorld new w'

-- for every plain world that is shown before, and every set that a digest is of, the reply is that of an answer to this
-- set, whose result is shown after
abbrev pub AnswersDigest : Members → ℕ → World → World → Reply → Type 0
AnswersDigest digest c old new told =
    (set : Set) → IsSameSet digest (as_members set) → Does (IsAnsweringDigest set c) old new told

-- every plain world that is shown before is shown after
abbrev pub ShowsTheSame : World → World → Type 0
ShowsTheSame old new = (w : PlainWorld) → ShowsWorld old w → ShowsWorld new w

-- for every plain world that is shown before, what the event leaves without memory is shown after
abbrev pub LeavesWhenRanOut : Event → World → World → Type 0
LeavesWhenRanOut event old new =
    (w : PlainWorld) → ShowsWorld old w → (w' : PlainWorld) × RanOut w event w' × ShowsWorld new w'

-- for every plain world that is shown before, some first of the events were done, and what the next one leaves without
-- memory is shown after
abbrev pub RunsOutAmong : List Event → World → World → Type 0
RunsOutAmong events old new =
    (w : PlainWorld) → ShowsWorld old w → (w' : PlainWorld) × RanOutAmong w events w' × ShowsWorld new w'

-- what was sent stays sent, and more may follow
abbrev pub KeepsSent : World → World → Type 0
KeepsSent old new = (more : List (List Part)) × (deltas_of new ≡ deltas_of old ++ more)

-- for every plain world that is shown before, the events were done, one after another, with these replies
abbrev pub RunsThrough : List Event → List Reply → World → World → Type 0
RunsThrough events replies old new =
    (w : PlainWorld) → ShowsWorld old w → (w' : PlainWorld) × Runs w events replies w' × ShowsWorld new w'

-- for every plain world that is shown before, some first events were done, and the next one as far as it goes
-- without memory
abbrev pub RunsInPart : List Event → World → World → Type 0
RunsInPart events old new =
    (w : PlainWorld) → ShowsWorld old w → (w' : PlainWorld) × IsCutShort w events w' × ShowsWorld new w'
