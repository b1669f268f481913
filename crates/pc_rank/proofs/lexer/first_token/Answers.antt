use Rattle.std.proofs.Common.{sym, ◌∙◌}
use Rattle.pc_rank.proofs.Cutting.{first_sign, first_word}
use Rattle.pc_rank.proofs.lexer.first_token.Goals as goal

pub returns-then-length-eq0-clause-cuts : goal.returns-then-length-eq0-clause-cuts
returns-then-length-eq0-clause-cuts c =
    c.sign.ensures.sign ∙ sym (first_sign c.args.text.now c.letters-length.result c.letters-length.ensures.count c.if-length-eq0.true)

pub returns-clause-cuts : goal.returns-clause-cuts
returns-clause-cuts c =
    let word = first_word c.args.text.now c.letters-length.result c.letters-length.ensures.count c.if-length-eq0.false in
    cc (c.word_token.ensures, c.split_at.ensures.front, c.split_at.ensures.back)
