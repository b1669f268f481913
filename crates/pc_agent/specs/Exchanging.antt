-- What agents tell each other.
use Rattle.std.specs.Prelude.{◌≡◌, ◌⊎◌, List, Result, Ok, Err}
use Rattle.pc_join.specs.declared.join.OutOfMemory.{OutOfMemory as NoMemory}
use Rattle.pc_messages.specs.Run.{Run}
use Rattle.pc_join.specs.Sets.{Members}
use Rattle.pc_view.specs.declared.view.View.{View}
use Rattle.pc_delta.specs.declared.part.Part.{Part}
use Rattle.pc_delta.specs.Exchange.{IsAnswerTo}
use Rattle.pc_agent.specs.declared.agent.Agent.{Agent}
use Rattle.pc_agent.specs.declared.wire.SendFault.{SendFault}
use Rattle.pc_agent.specs.declared.wire.SendFault.TheVariants.{OutOfMemory, WireFault}
use Rattle.pc_agent.specs.PlainAgent.{PlainAgent, Set, taking_in}
use Rattle.pc_agent.specs.Publishing.{Sending}
use Rattle.pc_agent.specs.Shows.{ShowsAgent, ShowsDelta, ShowsPart}

-- the agent takes in what a delta tells; where memory ran out, a part of it
abbrev pub IsDelivered : Run → PlainAgent → Set → Result (Unit {0}) NoMemory → Agent → Type 0
IsDelivered run p set (Ok done) new = ShowsAgent run (taking_in set p) new
IsDelivered run p set (Err fault) new = ShowsPart run p set new

-- for every run that the delta is of, whatever set it tells and whatever the agent shows
abbrev pub Delivers : List Part → Result (Unit {0}) NoMemory → Agent → Agent → Type 0
Delivers delta result old new =
    (run : Run) (p : PlainAgent) (set : Set) → ShowsDelta run set delta → ShowsAgent run p old
    → IsDelivered run p set result new

-- a delta that answers an asker, who knows a set of messages, was handed to the wire, which answered so
pub record IsAnswerSent {W : Type 0} (Sends : Sending W) (view : View) (asked : Members)
    (answer : Result (Unit {0}) SendFault) (wire later : W) : Type 0 where
  pub delta : List Part
  pub answers : IsAnswerTo view asked delta
  pub sent : Sends wire delta answer later

-- an answer; memory may have run out before the send, or in it
abbrev pub IsAnswered : {W : Type 0} → Sending W → View → Members → Result (Unit {0}) SendFault → W → W → Type 0
IsAnswered Sends view asked (Ok done) wire later = IsAnswerSent Sends view asked (Ok tt) wire later
IsAnswered Sends view asked (Err WireFault) wire later = IsAnswerSent Sends view asked (Err WireFault) wire later
IsAnswered Sends view asked (Err OutOfMemory) wire later =
    (later ≡ wire) ⊎ IsAnswerSent Sends view asked (Err OutOfMemory) wire later
