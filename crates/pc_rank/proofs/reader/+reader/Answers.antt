use Rattle.std.proofs.Common.{arith}
use Rattle.std.proofs.lemmas.Result.{IfOk-weaker}
use Rattle.pc_rank.proofs.Weights.{head_weighs}
use Rattle.pc_rank.proofs.reader.+reader.Goals as goal

pub term_at-push-requires-clause-room : goal.term_at-push-requires-clause-room
term_at-push-requires-clause-room t c = omega (arith, c.requires, head_weighs _ c.args.tokens.now _ c.in-len1-up.len_at_least c.in-Number.is)

pub term_at-returns-in-Number-clause-load : goal.term_at-returns-in-Number-clause-load
term_at-returns-in-Number-clause-load t c = omega (arith, c.push.ensures.count, head_weighs _ c.args.tokens.now _ c.in-len1-up.len_at_least c.in-Number.is)

pub term_at-push-requires-in-Given-clause-room : goal.term_at-push-requires-in-Given-clause-room
term_at-push-requires-in-Given-clause-room t c = omega (arith, c.requires, head_weighs _ c.args.tokens.now _ c.in-len1-up.len_at_least c.in-Given.is)

pub term_at-returns-in-Given-clause-load : goal.term_at-returns-in-Given-clause-load
term_at-returns-in-Given-clause-load t c = omega (arith, c.push-in-Given.ensures.count, head_weighs _ c.args.tokens.now _ c.in-len1-up.len_at_least c.in-Given.is)

pub term_at-push-requires-in-NoRank-clause-room : goal.term_at-push-requires-in-NoRank-clause-room
term_at-push-requires-in-NoRank-clause-room t c = omega (arith, c.requires, head_weighs _ c.args.tokens.now _ c.in-len1-up.len_at_least c.in-NoRank.is)

pub term_at-returns-in-NoRank-clause-load : goal.term_at-returns-in-NoRank-clause-load
term_at-returns-in-NoRank-clause-load t c = omega (arith, c.push-in-NoRank.ensures.count, head_weighs _ c.args.tokens.now _ c.in-len1-up.len_at_least c.in-NoRank.is)

pub term_at-group_at-requires : goal.term_at-group_at-requires
term_at-group_at-requires t c = (omega arith, omega (arith, c.requires, head_weighs _ c.args.tokens.now _ c.in-len1-up.len_at_least c.in-Open.is))

pub term_at-returns-in-Open-clause-load : goal.term_at-returns-in-Open-clause-load
term_at-returns-in-Open-clause-load t c =
    IfOk-weaker c.group_at.result _ _ (λ rest less. omega (arith, less, head_weighs _ c.args.tokens.now _ c.in-len1-up.len_at_least c.in-Open.is)) c.group_at.ensures.load

pub term_at-call_at-requires : goal.term_at-call_at-requires
term_at-call_at-requires t c = (omega arith, omega (arith, c.requires, head_weighs _ c.args.tokens.now _ c.in-len1-up.len_at_least c.in-Call.is))

pub term_at-returns-in-Call-clause-load : goal.term_at-returns-in-Call-clause-load
term_at-returns-in-Call-clause-load t c =
    IfOk-weaker c.call_at.result _ _ (λ rest less. omega (arith, less, head_weighs _ c.args.tokens.now _ c.in-len1-up.len_at_least c.in-Call.is)) c.call_at.ensures.load
