use Rattle.pc_calls.specs.declared.call.Call.TheVariants.{Env, Agent}
use Rattle.pc_kernel.specs.PlainKernel.{start}
use Rattle.pc_kernel.specs.Steps.{replay}
use Rattle.pc_kernel.proofs.AlwaysEvery.{always_kept}
use Rattle.pc_kernel.proofs.Effects.{agent_has, env_has}
use Rattle.pc_kernel.proofs.laws.effects_are_done.Goals as goal

pub returns-clause-environment : goal.returns-clause-environment
returns-clause-environment c call limits calls accepted = env_has (replay (start limits) calls) call (always_kept limits calls) accepted

pub returns-clause-agents : goal.returns-clause-agents
returns-clause-agents c call limits calls accepted = agent_has (replay (start limits) calls) call accepted
