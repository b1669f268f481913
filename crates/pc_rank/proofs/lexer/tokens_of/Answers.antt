use Rattle.std.proofs.Common.{◌<◌, ◌++◌, length, sym, ap, ◌∙◌, take, arith}
use Rattle.std.proofs.lemmas.List.{length-set}
use Rattle.pc_rank.proofs.Cutting.{tokens_end, tokens_more, tokens_spaced}
use Rattle.pc_rank.proofs.lexer.tokens_of.Goals as goal

pub loop-byte-preserved-then-byte-eq32 : goal.loop-byte-preserved-then-byte-eq32
loop-byte-preserved-then-byte-eq32 c =
    let rest = c.in-Some.ensures.cases.0 in
    let h = c.loop-byte.invariant in
    record {
      tokens = h.tokens ∙ ap (λ ts. take c.loop-byte.count c.loop-byte.tokens ++ ts) (tokens_spaced c.loop-byte.rest.now _ _ rest c.if-byte-eq32.true);
      shorter = omega (arith, c.in-Some.ensures.cases.1, h.shorter);
      wide = h.wide;
    }

pub loop-byte-preserved : goal.loop-byte-preserved
loop-byte-preserved c =
    let rest = c.in-Some.ensures.cases.0 in
    let h = c.loop-byte.invariant in
    let room : c.loop-byte.count < length c.loop-byte.tokens = omega (arith, h.wide, h.shorter, c.in-Some.ensures.cases.1, c.requires) in
    record {
      tokens = h.tokens ∙ tokens_more c.loop-byte.tokens c.loop-byte.count c.loop-byte.rest.now _ _ _ _ rest c.if-byte-eq32.false c.first_token-token.ensures.cuts room;
      shorter = omega (arith, c.in-Some.ensures.cases.1, h.shorter, c.first_token-token.ensures.less);
      wide = length-set c.loop-byte.tokens c.loop-byte.count c.first_token-token.result.0 ∙ h.wide;
    }

pub returns : goal.returns
returns c =
    sym (c.loop-byte.invariant.tokens ∙ tokens_end (take c.loop-byte.count c.loop-byte.tokens) c.loop-byte.rest.now c.in_default.ensures.cases)
