use Rattle.std.proofs.Common.{◌∙◌, ◌≤◌, ◌++◌, List, ℕ, decimal, drop, length, arith, sym, ap}
use Rattle.std.proofs.lemmas.Fmt.{decimal_digit, length-decimal-le}
use Rattle.pc_script.proofs.text.LineEnd.number.Goals as goal

pub returns-then-number-lt10-clause-written : goal.returns-then-number-lt10-clause-written
returns-then-number-lt10-clause-written c =
    c.text.ensures.written ∙ ap (λ (l : List ℕ). l ++ drop c.args.self.now.start c.args.self.now.bytes) (sym (decimal_digit c.args.number (search arith)))

pub write_digits-self-requires : goal.write_digits-self-requires
write_digits-self-requires c =
    let short : length (decimal c.args.number) ≤ 20 = length-decimal-le 20 c.args.number (omega arith) (omega arith) (omega arith) in
    (omega (arith, short), search arith)

pub returns-else-number-lt10-clause-start : goal.returns-else-number-lt10-clause-start
returns-else-number-lt10-clause-start c =
    let short : length (decimal c.args.number) ≤ 20 = length-decimal-le 20 c.args.number (omega arith) (omega arith) (omega arith) in
    omega (arith, short, c.write_digits-self.ensures.start)
