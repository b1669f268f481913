use Rattle.std.proofs.Common.{◌+◌, ◌∙◌, ℕ, List, sum_by, sym, ap, subst}
use Rattle.pc_kernel.specs.Reads.{seen}
use Rattle.pc_load.specs.Loads.{Need}
use Rattle.pc_lab.specs.Accounts.{AreEnded, demand_of, steps_in}
use Rattle.pc_lab.specs.declared.times.CpuTime.{CpuTime}
use Rattle.pc_lab.proofs.account.adds_up.Goals as goal

pub returns : goal.returns
returns c =
    λ yes. record {
      done = subst (λ (needs : List Need). AreEnded needs (seen c.args.kernel.now)) c.threads-threads.ensures (c.have_ended.ensures c.if-not-have_ended.false);
      ran = ap (sum_by (λ (time : CpuTime). time.ran)) (sym c.as_slice.ensures.value) ∙ c.is_run.ensures c.if-not-is_run.false
          ∙ ap (sum_by demand_of) c.threads-threads.ensures;
      commits = sym c.of-commits.ensures ∙ c.is_committed.ensures yes
          ∙ ap (λ (n : ℕ). n + c.args.summary.now.preempts) (c.in_ok-steps.ensures ∙ ap (steps_in c.args.keep) c.threads-threads.ensures);
    }
