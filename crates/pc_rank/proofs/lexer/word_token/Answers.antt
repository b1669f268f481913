use Rattle.std.proofs.Common.{◌∙◌, arith}
use Rattle.pc_rank.proofs.Cutting.{name_token, no_number_token, number_token}
use Rattle.pc_rank.proofs.lexer.word_token.Goals as goal

pub returns-in-Some : goal.returns-in-Some
returns-in-Some c = number_token c.args.word.now c.in-Some.number c.in-Some.ensures.0 c.in-Some.ensures.1

pub returns-in-None : goal.returns-in-None
returns-in-None c = no_number_token c.args.word.now c.requires c.if-is_ascii_digit.ensures.cases c.in-None.ensures

pub returns-in-None-2 : goal.returns-in-None-2
returns-in-None-2 c = c.word_named.ensures ∙ name_token c.args.word.now (λ digit. omega (arith, digit, c.if-is_ascii_digit.ensures.cases)) c.in-None.ensures
