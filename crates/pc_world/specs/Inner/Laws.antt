-- The laws of the crates below that the world stands on.
use Rattle.std.specs.Prelude.{List}
use Rattle.pc_messages.specs.Run.{Run, Extends}
use Rattle.pc_calls.specs.declared.call.Call.{Call}
use Rattle.pc_kernel.specs.Exact.{ReadsArePlain, AcceptedAssociatesAreExact, AcceptedCommitsAreExact}
use Rattle.pc_kernel.specs.Facts.{AlwaysAtHome, AlwaysPlaced, SleepersHadNoPost, RunsAreBegun, NamesAreDense}
use Rattle.pc_kernel.specs.Facts.{CallsExtend}
use Rattle.pc_kernel.specs.PlainKernel.{PlainKernel, kinds}
use Rattle.pc_kernel.specs.Posted.{HomesAreThere, MessagesArePosted, NoMoreIsEaten, OnlyConsumesTake, PostsAreMessages}
use Rattle.pc_kernel.specs.Posted.{QueuesGoOn}
use Rattle.pc_kernel.specs.Steps.{after}
use Rattle.pc_delta.specs.declared.part.Part.{Part}
use Rattle.pc_delta.specs.Parts.{AreOfRun}
use Rattle.pc_agent.specs.declared.agent.Agent.{Agent}
use Rattle.pc_agent.specs.PlainAgent.{PlainAgent}
use Rattle.pc_agent.specs.Shows.{ShowsAgent}

-- a call extends the run, and what is shown of a run is shown of each run that goes on from it
pub record RunsGoOn : Type 0 where
  pub calls : (P : PlainKernel) (call : Call) → Extends (kinds (after P call)) (kinds P)
  pub agents : (longer shorter : Run) (p : PlainAgent) (agent : Agent) → Extends longer shorter
      → ShowsAgent shorter p agent → ShowsAgent longer p agent
  pub deltas : (longer shorter : Run) (parts : List Part) → Extends longer shorter → AreOfRun shorter parts
      → AreOfRun longer parts

-- what holds of the kernel after every list of calls, and of each call
pub record KernelLaws : Type 0 where
  pub home : AlwaysAtHome
  pub placed : AlwaysPlaced
  pub rested : SleepersHadNoPost
  pub begun : RunsAreBegun
  pub dense : NamesAreDense
  pub extend : CallsExtend
  pub reads : ReadsArePlain
  pub associates : AcceptedAssociatesAreExact
  pub commits : AcceptedCommitsAreExact
  pub posted : MessagesArePosted
  pub posts : PostsAreMessages
  pub items : QueuesGoOn
  pub eaten : OnlyConsumesTake
  pub few : NoMoreIsEaten
  pub homes : HomesAreThere
