-- What the agents of a world have counted, event by event.
use Rattle.std.specs.Prelude.{ℕ, ◌≡◌, ◌⊎◌, List, [], ◌∷◌, ◌++◌, Option, Some, None, Ok, Err, option_map, slice_get}
use Rattle.std.specs.Prelude.{if◌then◌else◌}
use Rattle.pc_calls.specs.declared.event.Event.{Event}
use Rattle.pc_calls.specs.declared.event.Event.TheVariants.{Consume, Pick, Steal}
use Rattle.pc_calls.specs.declared.event.Reply.{Reply}
use Rattle.pc_calls.specs.declared.event.Reply.TheVariants as reply
use Rattle.pc_calls.specs.declared.refusal.CallFault.TheVariants as fault
use Rattle.pc_calls.specs.declared.refusal.Refusal.TheVariants.{BadCpu, Busy}
use Rattle.pc_kernel.specs.PlainKernel.{is_named}
use Rattle.pc_agent.specs.Counts.{consume_counted, none_counted, pick_counted, steal_counted}
use Rattle.pc_agent.specs.declared.counts.Counts.{Counts}
use Rattle.pc_agent.specs.Shows.{counts_of}
use Rattle.pc_world.specs.Mending.{mending, mending_by_steal}
use Rattle.pc_world.specs.Mends.{IsCommit, TellsWhatRuns}
use Rattle.pc_world.specs.PlainWorld.{PlainWorld}
use Rattle.pc_world.specs.RanOut.{IsCutShort, RanOutAmong}
use Rattle.pc_world.specs.Shows.{ShowsWorld, World}
use Rattle.pc_world.specs.Steps.{Runs}

-- the CPU whose agent counts the event: that of a consume, a pick or a steal; no agent counts any other event
abbrev pub counting_cpu : Event → Option ℕ
counting_cpu (Consume cpu) = Some cpu
counting_cpu (Pick cpu aseq) = Some cpu
counting_cpu (Steal cpu) = Some cpu
counting_cpu event = None

-- what that agent has counted behind the event, of what it had counted before, by what was replied: items that were
-- removed, a thread that was committed or taken over, or a refusal of a pick or a steal
abbrev pub counted : Event → Reply → Counts → Counts
counted (Consume cpu) (reply.Consumed items) = consume_counted (Ok items)
counted (Consume cpu) (reply.Refused refusal) = consume_counted (Err refusal)
counted (Pick cpu aseq) (reply.Committed queue thread) = pick_counted (Ok thread)
counted (Pick cpu aseq) (reply.Refused refusal) = pick_counted (Err refusal)
counted (Steal cpu) (reply.Associated queue thread) = steal_counted (Ok thread)
counted (Steal cpu) (reply.Refused refusal) = steal_counted (Err (fault.Refused refusal))
counted event told = λ counts. counts

-- what the agent of a CPU has counted; none of a CPU that is not there
abbrev pub counts_at : World → ℕ → Option Counts
counts_at world c = option_map counts_of (slice_get world.agents.items c)

-- what the agent of a CPU has counted behind an event, by what was replied: only the agent whose event it is counts it
abbrev pub counted_at : ℕ → Event → Reply → Option Counts → Option Counts
counted_at c event told counts =
    if is_named (counting_cpu event) c then option_map (counted event told) counts else counts

-- the event was counted by the agent whose event it is, by what was replied, and each other agent has counted what it
-- had counted before
abbrev pub CountsEvent : Event → World → World → Reply → Type 0
CountsEvent event old new told = (c : ℕ) → counts_at new c ≡ counted_at c event told (counts_at old c)

-- each agent that is there has counted nothing
abbrev pub HaveCountedNothing : World → Type 0
HaveCountedNothing world = (c : ℕ) (counts : Counts) → counts_at world c ≡ Some counts → counts ≡ none_counted

-- each agent has counted what it had counted before
abbrev pub CountsNothing : World → World → Type 0
CountsNothing old new = (c : ℕ) → counts_at new c ≡ counts_at old c

-- from the first counts of a CPU's agent to the last the events were counted, one after another, each by its own reply
abbrev pub AreCounted : ℕ → List Event → List Reply → Option Counts → Option Counts → Type 0
AreCounted c [] [] first last = last ≡ first
AreCounted c (event ∷ events) (told ∷ replies) first last =
    AreCounted c events replies (counted_at c event told first) last
AreCounted c [] (told ∷ replies) first last = ⊥
AreCounted c (event ∷ events) [] first last = ⊥

-- every agent has counted these events, one after another, each by its own reply, and nothing else
abbrev pub CountsEvents : List Event → List Reply → World → World → Type 0
CountsEvents events replies old new = (c : ℕ) → AreCounted c events replies (counts_at old c) (counts_at new c)

-- some first events were done, and the next one as far as it goes without memory, which a plain world tells that is
-- shown after; every agent has counted those that were done, each by its reply, and nothing else
pub record IsCountedInPart (w : PlainWorld) (events : List Event) (old new : World) : Type 0 where
  pub after : PlainWorld
  pub cut : IsCutShort w events after
  pub shows : ShowsWorld new after
  pub counts : CountsEvents cut.done cut.replies old new

-- for every plain world that is shown before, such a part of the events was done from it and counted
abbrev pub CountsInPart : List Event → World → World → Type 0
CountsInPart events old new = (w : PlainWorld) → ShowsWorld old w → IsCountedInPart w events old new

-- some first events were done, and the next one found no memory, which a plain world tells that is shown after; every
-- agent has counted those that were done, each by its reply, and nothing else
pub record IsCountedAmong (w : PlainWorld) (events : List Event) (old new : World) : Type 0 where
  pub after : PlainWorld
  pub among : RanOutAmong w events after
  pub shows : ShowsWorld new after
  pub counts : CountsEvents among.done among.replies old new

-- the events of mending by a pick that commits a thread, or by a steal
abbrev pub AreOfMending : PlainWorld → ℕ → Reply → List Event → Type 0
AreOfMending w c told events = ((events ≡ mending w c) × IsCommit told) ⊎ (events ≡ mending_by_steal w c)

-- the events of mending were done, one after another; the last of their replies is the answer, and tells what runs in a
-- plain world that is shown after; and every agent has counted these events by these replies, and nothing else
pub record IsCountedMending (w : PlainWorld) (c : ℕ) (old new : World) (told : Reply) : Type 0 where
  pub events : List Event
  pub are : AreOfMending w c told events
  pub replies : List Reply  -- but the last
  pub after : PlainWorld
  pub runs : Runs w events (replies ++ told ∷ []) after
  pub tells : TellsWhatRuns w c told after
  pub shows : ShowsWorld new after
  pub counts : CountsEvents events (replies ++ told ∷ []) old new

-- refused, since the CPU is not there or a thread runs on it, nothing is counted
abbrev pub IsUncountedMending : World → World → Reply → Type 0
IsUncountedMending old new told =
    ((told ≡ reply.Refused BadCpu) ⊎ (told ≡ reply.Refused Busy)) × CountsNothing old new

-- for every plain world that is shown before, the events of mending were done from it and counted, and nothing else was
-- counted; or nothing was, where it is refused
abbrev pub CountsMending : ℕ → World → World → Reply → Type 0
CountsMending c old new told =
    (w : PlainWorld) → ShowsWorld old w → IsCountedMending w c old new told ⊎ IsUncountedMending old new told

-- for every plain world that is shown before, some first events of mending by a steal were done from it and counted;
-- the next one found no memory, and was not counted
abbrev pub CountsMendingInPart : ℕ → World → World → Type 0
CountsMendingInPart c old new =
    (w : PlainWorld) → ShowsWorld old w → IsCountedAmong w (mending_by_steal w c) old new
