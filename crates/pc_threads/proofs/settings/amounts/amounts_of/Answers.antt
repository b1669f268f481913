use Rattle.std.proofs.Common.{◌<◌, ◌^◌, ◌∙◌, List, ap, length, subst, sym}
use Rattle.std.proofs.lemmas.List.{length-map}
use Rattle.pc_threads.specs.Settings.{Plan, messages_in, plan_of, ran_in, steps_in}
use Rattle.pc_threads.proofs.Steps.{messages_few}
use Rattle.pc_threads.proofs.settings.amounts.amounts_of.Goals as goal

pub by_plans-requires : goal.by_plans-requires
by_plans-requires c = subst (λ plans. messages_in plans < 2 ^ 32) (sym c.threads.ensures) (messages_few c.args.config.now c.is_sound.ensures)

pub returns : goal.returns
returns c =
    record {
      threads = c.by_plans.ensures.threads ∙ sym (length-map c.threads.result.now plan_of) ∙ ap (λ (plans : List Plan). length plans) c.threads.ensures;
      messages = c.by_plans.ensures.messages ∙ ap messages_in c.threads.ensures;
      steps = c.by_plans.ensures.steps ∙ ap steps_in c.threads.ensures;
      ran = c.by_plans.ensures.ran ∙ ap ran_in c.threads.ensures;
    }
