use Rattle.std.proofs.Common.{◌≡◌, Result, sym, subst}
use Rattle.pc_calls.specs.declared.call.Call.{Call}
use Rattle.pc_calls.specs.declared.call.Call.TheVariants.{Env, Agent, Consume}
use Rattle.pc_calls.specs.declared.call.Answer.{Answer}
use Rattle.pc_calls.specs.declared.refusal.CallFault.{CallFault}
use Rattle.pc_kernel.specs.Answers.{AnsweredInMemory, itself}
use Rattle.pc_kernel.specs.Rows.{KernelRows}
use Rattle.pc_kernel.proofs.Answering.{answers_told, answers_told_plainly}
use Rattle.pc_kernel.proofs.kernel.Kernel.apply.Goals as goal

-- the same of the call that was given and of the result, which are these
same : (call made : Call) (result told : Result Answer CallFault) (old new : KernelRows) → call ≡ made → result ≡ told → AnsweredInMemory itself made told old new → AnsweredInMemory itself call result old new
same call made result told old new is ensures h =
    subst (λ (call : Call). AnsweredInMemory itself call result old new) (sym is) (subst (λ (r : Result Answer CallFault). AnsweredInMemory itself made r old new) (sym ensures) h)

pub returns-in-Env-clause-answered : goal.returns-in-Env-clause-answered
returns-in-Env-clause-answered c =
    same _ (Env c.in-Env.call) _ _ _ _ c.in-Env.is c.posted.ensures (answers_told (Env c.in-Env.call) c.apply_env.result c.args.self.now c.apply_env.new.self c.apply_env.ensures)

pub returns-in-Agent-clause-answered : goal.returns-in-Agent-clause-answered
returns-in-Agent-clause-answered c =
    same _ (Agent c.in-Agent.call) _ _ _ _ c.in-Agent.is c.done.ensures (answers_told_plainly (Agent c.in-Agent.call) c.apply_agent.result c.args.self.now c.apply_agent.new.self c.apply_agent.ensures)

pub returns-in-Consume-clause-answered : goal.returns-in-Consume-clause-answered
returns-in-Consume-clause-answered c =
    same _ (Consume c.in-Consume.cpu c.in-Consume.count) _ _ _ _ c.in-Consume.is c.done-in-Consume.ensures (answers_told_plainly (Consume c.in-Consume.cpu c.in-Consume.count) c.consume.result c.args.self.now c.consume.new.self c.consume.ensures)
