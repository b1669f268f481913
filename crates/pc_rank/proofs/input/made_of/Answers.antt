use Rattle.std.proofs.Common.{◌≡◌, ap, sym, subst, Ok, Err, arith}
use Rattle.pc_rank.specs.Inner.Limits.{IsMadeOf, tokens_in}
use Rattle.pc_rank.specs.Inner.Made.{stack, tree_on}
use Rattle.pc_rank.specs.Inner.Reading.{weight, whole}
use Rattle.pc_rank.proofs.Stacks.{made_is}
use Rattle.pc_rank.proofs.Texts.{none_read}
use Rattle.pc_rank.proofs.Weights.{weight_is}
use Rattle.pc_rank.proofs.input.made_of.Goals as goal

pub returns-in-Err-clause-err : goal.returns-in-Err-clause-err
returns-in-Err-clause-err c =
    none_read (tokens_in c.args.found.now) c.in-Err.halt c.placed.result
    (subst (λ ts. whole ts ≡ Err c.in-Err.halt) c.tokens.ensures c.in-Err.ensures.read) c.placed.ensures

pub whole-requires-clause-load : goal.whole-requires-clause-load
whole-requires-clause-load c =
    omega (arith, c.new-made.ensures.count, ap weight c.tokens.ensures, weight_is (tokens_in c.args.found.now), c.requires)

pub returns-in-Ok-clause-ok : goal.returns-in-Ok-clause-ok
unfolding stack
returns-in-Ok-clause-ok c =
    let made = c.whole.new.made in
    subst (IsMadeOf (tokens_in c.args.found.now)) (sym c.into_row.ensures)
    (made_is (tokens_in c.args.found.now) made.row (tree_on made) made.laid c.in-Ok.ensures.alone
    (subst (λ ts. whole ts ≡ Ok (tree_on made)) c.tokens.ensures c.in-Ok.ensures.read))
