-- What holds of a kernel and a view at hand, where they show those of a world that events lead to.
use Rattle.std.specs.Prelude.{ℕ, ◌≡◌, IsTrue}
use Rattle.pc_calls.specs.declared.event.Event.TheVariants.{Steal}
use Rattle.pc_calls.specs.declared.event.Reply.TheVariants.{Associated}
use Rattle.pc_calls.specs.declared.limits.Limits.{Limits}
use Rattle.pc_kernel.specs.Answers.{Shows}
use Rattle.pc_kernel.specs.PlainKernel.{kinds}
use Rattle.pc_kernel.specs.Reads.{is_known, reported_of, seen}
use Rattle.pc_kernel.specs.Rows.{KernelRows}
use Rattle.pc_view.specs.Audit.{IsComplete}
use Rattle.pc_view.specs.Prefixes.{reported_in}
use Rattle.pc_view.specs.declared.view.View.{View}
use Rattle.pc_agent.specs.Shows.{ShowsView}
use Rattle.pc_world.specs.Facts.{HasAll}
use Rattle.pc_world.specs.PlainWorld.{PlainWorld}
use Rattle.pc_world.specs.Reached.{Reached}
use Rattle.pc_world.specs.Steps.{Step}

-- the kernel shows that of the world, and the view that of an agent
pub record AreShown (w : PlainWorld) (c : ℕ) (kernel : KernelRows) (view : View) : Type 0 where
  pub of_kernel : Shows kernel w.kernel
  pub of_agent : ShowsView (kinds w.kernel) (w.agents c).known view

-- an agent that has all that stands in queues and all that was sent is complete for each thread that is known
abbrev pub WhoHasAllIsComplete : Type 0
WhoHasAllIsComplete =
    (limits : Limits) (w : PlainWorld) (c t : ℕ) (kernel : KernelRows) (view : View) → Reached limits w
    → AreShown w c kernel view → HasAll w (w.agents c).known → IsTrue (is_known (seen kernel) t)
    → IsComplete view (seen kernel) t

-- before a steal that succeeds the agent's view reports of the thread what the kernel reports
abbrev pub WhatAStealTookIsReported : Type 0
WhatAStealTookIsReported =
    (limits : Limits) (w new : PlainWorld) (c t : ℕ) (kernel : KernelRows) (view : View) → Reached limits w
    → AreShown w c kernel view → Step w (Steal c) (Associated c t) new
    → reported_in view t ≡ reported_of (seen kernel) t
