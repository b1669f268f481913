use Rattle.std.proofs.Common.{◌≡◌, ◌≤◌, ◌*◌, ◌-◌, ◌^◌, map, take}
use Rattle.pc_threads.specs.Settings.{messages_in, plan_of, ran_in, steps_in}
use Rattle.pc_threads.proofs.settings.amounts.by_plans.Given as goal

-- what the first threads come to
abbrev pub invariant-loop-plan : goal.invariant-loop-plan
invariant-loop-plan l = record {
  threads : l.all.threads ≡ l.plan-index;
  messages : l.all.messages ≡ messages_in (map plan_of (take l.plan-index l.plans));
  steps : l.all.steps ≡ steps_in (map plan_of (take l.plan-index l.plans));
  ran : l.all.ran ≡ ran_in (map plan_of (take l.plan-index l.plans));
  few : l.all.steps ≤ l.all.messages;
  backed : l.all.ran ≤ l.all.steps * (2 ^ 32 - 1);
}
