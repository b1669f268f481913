use Rattle.std.proofs.Common.{rules, ◌≡◌, ◌∙◌, Some, None, is_none, false, [], inl, subst, sym, ap, arith}
use Rattle.std.proofs.lemmas.Result.{err_from_is_err_and}
use Rattle.pc_rank.specs.Inner.Limits.{tokens_in}
use Rattle.pc_rank.specs.Inner.Written.{Leaves}
use Rattle.pc_rank.specs.Expressions.{Tree}
use Rattle.pc_rank.specs.Layout.{built_of}
use Rattle.pc_rank.specs.Reading.{IsText}
use Rattle.pc_rank.specs.Texts.{text_of}
use Rattle.pc_rank.specs.declared.fault.RankFault.TheVariants as fault
use Rattle.pc_rank.proofs.Room.{is_short}
use Rattle.pc_rank.proofs.Texts.{has_found, no_tree, only, readable, reads_it, reads_none, text_is, too_long, too_many}
use Rattle.pc_rank.proofs.expression.Expression.read.Goals as goal

pub returns-then-text-gt-LONGEST-clause-reads : goal.returns-then-text-gt-LONGEST-clause-reads
returns-then-text-gt-LONGEST-clause-reads c = sym (reads_none c.args.text.now fault.TooLong (inl c.if-text-gt-LONGEST.true))

pub returns-in_err-within_limits-clause-complete : goal.returns-in_err-within_limits-clause-complete
returns-in_err-within_limits-clause-complete c =
    let p = err_from_is_err_and c.from_residual.result c.from_residual.ensures.1 in
    rw (p.1, p.2) (too_many c.args.text.now (tokens_in c.tokens_of-found.result) _ (has_found _ _ c.tokens_of-found.ensures) c.in_err-within_limits.ensures.err)

pub returns-in_err-within_limits-clause-reads : goal.returns-in_err-within_limits-clause-reads
returns-in_err-within_limits-clause-reads c =
    let p = err_from_is_err_and c.from_residual.result c.from_residual.ensures.1 in
    rw p.1 (sym (reads_none c.args.text.now p.0
    (rw p.2 (too_many c.args.text.now (tokens_in c.tokens_of-found.result) _ (has_found _ _ c.tokens_of-found.ensures) c.in_err-within_limits.ensures.err))))

pub returns-in_err-row-clause-complete : goal.returns-in_err-row-clause-complete
returns-in_err-row-clause-complete c =
    let p = err_from_is_err_and c.from_residual-in_err-row.result c.from_residual-in_err-row.ensures.1 in
    rw (p.1, p.2) (no_tree c.args.text.now (tokens_in c.tokens_of-found.result) _ (has_found _ _ c.tokens_of-found.ensures) c.in_err-row.ensures.err)

pub returns-in_err-row-clause-reads : goal.returns-in_err-row-clause-reads
returns-in_err-row-clause-reads c =
    let p = err_from_is_err_and c.from_residual-in_err-row.result c.from_residual-in_err-row.ensures.1 in
    rw p.1 (sym (reads_none c.args.text.now p.0
    (rw p.2 (no_tree c.args.text.now (tokens_in c.tokens_of-found.result) _ (has_found _ _ c.tokens_of-found.ensures) c.in_err-row.ensures.err))))

pub returns-then-is_none-clause-complete : goal.returns-then-is_none-clause-complete
returns-then-is_none-clause-complete c =
    let made = c.in_ok-row.ensures.ok in
    let a : Tree = built_of c.in_ok-row.row in
    let none : c.behind_expression.result ≡ None = search rules in
    let left : Leaves 512 (text_of a) c.behind_expression.result = c.behind_expression.ensures [] a (c.as_slice.ensures ∙ made.laid) in
    too_long c.args.text.now (tokens_in c.tokens_of-found.result) a (has_found _ _ c.tokens_of-found.ensures) made.read (subst (Leaves 512 (text_of a)) none left)

pub returns-then-is_none-clause-reads : goal.returns-then-is_none-clause-reads
returns-then-is_none-clause-reads c =
    sym (reads_none c.args.text.now fault.TooLong (returns-then-is_none-clause-complete c))

pub of-requires : goal.of-requires
of-requires c =
    let made = c.in_ok-row.ensures.ok in
    let a : Tree = built_of c.in_ok-row.row in
    let left : Leaves 512 (text_of a) c.behind_expression.result = c.behind_expression.ensures [] a (c.as_slice.ensures ∙ made.laid) in
    let some : is_none c.behind_expression.result ≡ false = search rules in (
      a,
      made.laid,
      readable c.args.text.now (tokens_in c.tokens_of-found.result) a (has_found _ _ c.tokens_of-found.ensures) made.read c.in_ok-within_limits.ensures.ok
          (is_short (text_of a) c.behind_expression.result some left),
    )

pub returns-clause-sound : goal.returns-clause-sound
returns-clause-sound c =
    let made = c.in_ok-row.ensures.ok in
    let a : Tree = built_of c.in_ok-row.row in
    subst (IsText c.args.text.now) (sym (c.of.ensures a made.laid))
    (text_is c.args.text.now (tokens_in c.tokens_of-found.result) a (has_found _ _ c.tokens_of-found.ensures) made.read)

pub returns-clause-only : goal.returns-clause-only
returns-clause-only c = λ b h.
    let made = c.in_ok-row.ensures.ok in
    let a : Tree = built_of c.in_ok-row.row in
    c.of.ensures a made.laid ∙ only c.args.text.now (tokens_in c.tokens_of-found.result) a (has_found _ _ c.tokens_of-found.ensures) made.read b h

pub returns-clause-reads : goal.returns-clause-reads
returns-clause-reads c =
    let made = c.in_ok-row.ensures.ok in
    let a : Tree = built_of c.in_ok-row.row in
    let left : Leaves 512 (text_of a) c.behind_expression.result = c.behind_expression.ensures [] a (c.as_slice.ensures ∙ made.laid) in
    let some : is_none c.behind_expression.result ≡ false = search rules in
    ap Some (c.of.ensures a made.laid)
    ∙ sym (reads_it c.args.text.now (tokens_in c.tokens_of-found.result) a (has_found _ _ c.tokens_of-found.ensures) made.read (omega (arith, c.if-text-gt-LONGEST.false)) c.in_ok-within_limits.ensures.ok
    (is_short (text_of a) c.behind_expression.result some left))
