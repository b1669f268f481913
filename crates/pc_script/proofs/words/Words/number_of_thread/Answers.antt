use Rattle.std.proofs.Common.{arith, ap, sym, get_or, ◌∙◌, ◌∷◌}
use Rattle.pc_script.proofs.Taking.{no_thread, takes_thread}
use Rattle.pc_script.proofs.words.Words.number_of_thread.Goals as goal

pub returns-in_err-first : goal.returns-in_err-first
returns-in_err-first c = rw c.from_residual.ensures (λ n small others named.
    no_thread c.args.self.now.rest.now c.after_spaces.result.now c.after_spaces.ensures.same c.after_spaces.ensures.starts (λ some. absurd (omega (arith, some, c.in_err-first.ensures.cases))) n others named)

pub returns-then-first-ne116 : goal.returns-then-first-ne116
returns-then-first-ne116 c = λ n small others named.
    no_thread c.args.self.now.rest.now c.after_spaces.result.now c.after_spaces.ensures.same c.after_spaces.ensures.starts (λ some is. c.if-first-ne116.true (sym (ap (λ text. get_or text 0 0) c.in_ok-first.ensures.cases.0) ∙ is)) n others named

pub returns : goal.returns
returns c = takes_thread c.args.self.now.rest.now c.after_spaces.result.now _ _ c.take_number.result c.after_spaces.ensures.same c.after_spaces.ensures.starts (c.in_ok-first.ensures.cases.0 ∙ ap (λ b. b ∷ c.in_ok-first.digits.now) c.if-first-ne116.false) c.take_number.ensures
