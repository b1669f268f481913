use Rattle.std.proofs.Common.{◌∙◌, sym}
use Rattle.pc_settings.proofs.StepTexts.{not_counted, not_named, not_split, step_is}
use Rattle.pc_settings.proofs.steps.step_of.Goals as goal

pub returns-in_err-word : goal.returns-in_err-word
returns-in_err-word c = c.from_residual.ensures ∙ not_split c.args.text.now c.split_once.result c.split_once.ensures.cases c.in_err-word.was

pub returns-in_err-leaving : goal.returns-in_err-leaving
returns-in_err-leaving c =
    c.from_residual-in_err-leaving.ensures
    ∙ not_named c.args.text.now c.split_once.result c.in_ok-word.word c.in_ok-word.number c.split_once.ensures.cases c.in_ok-word.was
    (λ any is. c.in_err-leaving.ensures.leaving any (c.as_bytes.ensures.value ∙ is))

pub returns-in_err-ticks : goal.returns-in_err-ticks
returns-in_err-ticks c =
    c.from_residual-in_err-ticks.ensures
    ∙ not_counted c.args.text.now c.split_once.result c.in_ok-word.word c.in_ok-word.number c.split_once.ensures.cases c.in_ok-word.was
    (λ n small is. c.in_err-ticks.ensures n small (c.as_bytes-2.ensures.value ∙ is))

pub returns : goal.returns
returns c =
    step_is c.args.text.now c.split_once.result c.in_ok-word.word c.in_ok-word.number c.in_ok-leaving.leaving c.in_ok-ticks.ticks
    c.split_once.ensures.cases c.in_ok-word.was (sym c.as_bytes.ensures.value ∙ c.in_ok-leaving.ensures.leaving)
    (sym c.as_bytes-2.ensures.value ∙ c.in_ok-ticks.ensures.1) c.in_ok-ticks.ensures.0
