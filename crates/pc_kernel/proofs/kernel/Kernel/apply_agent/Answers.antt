use Rattle.std.proofs.Common.{sym, subst}
use Rattle.pc_calls.specs.declared.call.AgentCall.{AgentCall}
use Rattle.pc_calls.specs.declared.call.Call.TheVariants.{Agent}
use Rattle.pc_kernel.specs.Answers.{Answered, done}
use Rattle.pc_kernel.proofs.kernel.Kernel.apply_agent.Goals as goal

pub returns-in-Associate : goal.returns-in-Associate
returns-in-Associate c =
    subst (λ (call : AgentCall). Answered done (Agent call) c.associate.result c.args.self.now c.associate.new.self) (sym c.in-Associate.is) c.associate.ensures

pub returns-in-Commit : goal.returns-in-Commit
returns-in-Commit c =
    subst (λ (call : AgentCall). Answered done (Agent call) c.commit.result c.args.self.now c.commit.new.self) (sym c.in-Commit.is) c.commit.ensures

pub returns-in-Sleep : goal.returns-in-Sleep
returns-in-Sleep c =
    subst (λ (call : AgentCall). Answered done (Agent call) c.sleep.result c.args.self.now c.sleep.new.self) (sym c.in-Sleep.is) c.sleep.ensures

pub returns-in-Rouse : goal.returns-in-Rouse
returns-in-Rouse c =
    subst (λ (call : AgentCall). Answered done (Agent call) c.rouse.result c.args.self.now c.rouse.new.self) (sym c.in-Rouse.is) c.rouse.ensures

pub returns-in-Config : goal.returns-in-Config
returns-in-Config c =
    subst (λ (call : AgentCall). Answered done (Agent call) c.config_wakeup.result c.args.self.now c.config_wakeup.new.self) (sym c.in-Config.is) c.config_wakeup.ensures
