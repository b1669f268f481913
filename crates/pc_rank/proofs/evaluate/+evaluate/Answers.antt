use Rattle.std.proofs.Common.{◌∙◌, ◌++◌, ◌-◌, Some, sym, ap, length, refl}
use Rattle.std.specs.Prelude.{if◌then◌else◌, not}
use Rattle.pc_rank.specs.Meaning.{are_both, by_extreme, by_operator, compares, joined_by, of_both, rank_by}
use Rattle.pc_rank.specs.Layout.{test_layout}
use Rattle.pc_rank.proofs.Ends.{at_expression, at_no_test, at_nothing, at_other, at_other_test, at_test, take_le}
use Rattle.pc_rank.proofs.evaluate.+evaluate.Goals as goal
use Rattle.pc_rank.proofs.evaluate.+evaluate.Goals.{rank_of-then-holds, rank_of-else-holds}

pub holds-returns-in_default-clause-holds : goal.holds-returns-in_default-clause-holds
holds-returns-in_default-clause-holds t c = at_no_test _ _ c.in_default.len_below

pub holds-returns-in-Compare-clause-holds : goal.holds-returns-in-Compare-clause-holds
holds-returns-in-Compare-clause-holds t c = at_test _ _ _ _ c.in-len1-up.len_at_least c.in-Compare.is
    (λ front a b e. let r = c.ranks_of-first.ensures.ranks front a b e in
    (c.holds_of.ensures ∙ (λ i. are_both (compares c.in-Compare.comparison) (r.0 i) (r.1 i)), r.2))

pub holds-returns-in-Join-clause-holds : goal.holds-returns-in-Join-clause-holds
holds-returns-in-Join-clause-holds t c = at_test _ _ _ _ c.in-len1-up.len_at_least c.in-Join.is
    (λ front p q e. let second = c.holds-second.ensures.holds (front ++ test_layout p) q e in
    let first = c.holds-first.ensures.holds front p second.1 in
    (c.join.ensures ∙ (λ i. joined_by c.in-Join.joiner (first.0 i) (second.0 i)), first.1))

pub holds-returns-in-Negate-clause-holds : goal.holds-returns-in-Negate-clause-holds
holds-returns-in-Negate-clause-holds t c = at_test _ _ _ _ c.in-len1-up.len_at_least c.in-Negate.is
    (λ front q e. let first = c.holds-first-in-Negate.ensures.holds front q e in (ap not first.0, first.1))

pub rank_of-returns-in_default-clause-rank : goal.rank_of-returns-in_default-clause-rank
rank_of-returns-in_default-clause-rank t c = at_nothing _ _ c.in_default.len_below

pub rank_of-returns-in-Number-clause-rank : goal.rank_of-returns-in-Number-clause-rank
rank_of-returns-in-Number-clause-rank t c = at_expression _ _ _ _ c.in-len1-up.len_at_least c.in-Number.is (refl, refl)

pub rank_of-returns-in-Given-clause-rank : goal.rank_of-returns-in-Given-clause-rank
rank_of-returns-in-Given-clause-rank t c = at_expression _ _ _ _ c.in-len1-up.len_at_least c.in-Given.is
    (ap Some c.get.ensures, refl)

pub rank_of-returns-in-Infix-clause-rank : goal.rank_of-returns-in-Infix-clause-rank
rank_of-returns-in-Infix-clause-rank t c = at_expression _ _ _ _ c.in-len1-up.len_at_least c.in-Infix.is
    (λ front a b e. let r = c.ranks_of-first.ensures.ranks front a b e in
    (c.apply_to.ensures ∙ (λ i. of_both (by_operator c.in-Infix.operator) (r.0 i) (r.1 i)), r.2))

pub rank_of-returns-in-Call-clause-rank : goal.rank_of-returns-in-Call-clause-rank
rank_of-returns-in-Call-clause-rank t c = at_expression _ _ _ _ c.in-len1-up.len_at_least c.in-Call.is
    (λ front a b e. let r = c.ranks_of-first-in-Call.ensures.ranks front a b e in
    (c.apply_to-in-Call.ensures ∙ (λ i. of_both (by_extreme c.in-Call.extreme) (r.0 i) (r.1 i)), r.2))

pub rank_of-returns-after-holds-clause-rank : goal.rank_of-returns-after-holds-clause-rank
rank_of-returns-after-holds-clause-rank t c = at_expression _ _ _ _ c.in-len1-up.len_at_least c.in-Choice.is
    (λ front q a b e. let r = c.ranks_of-first-in-Choice.ensures.ranks (front ++ test_layout q) a b e in
    let h = c.holds-holds.ensures.holds front q r.2 in
    (elim c.if-holds.branch [ rank_of-then-holds w ↦ w.result-is ∙ r.0 ∙ sym (ap (λ v. if v then rank_by a c.args.facts.now else rank_by b c.args.facts.now) (sym h.0 ∙ w.if-holds.true)) | rank_of-else-holds w ↦ w.result-is ∙ r.1 ∙ sym (ap (λ v. if v then rank_by a c.args.facts.now else rank_by b c.args.facts.now) (sym h.0 ∙ w.if-holds.false)) ], h.1))

pub rank_of-returns-in_default-code-clause-rank : goal.rank_of-returns-in_default-code-clause-rank
rank_of-returns-in_default-code-clause-rank t c = let k = c.in_default-code in
    at_other _ _ _ c.in-len1-up.len_at_least k.not-Number k.not-Given k.not-Infix k.not-Call k.not-Choice (refl, refl)

pub holds-returns-in_default-code : goal.holds-returns-in_default-code
holds-returns-in_default-code t c = let k = c.in_default-code in record {
  shorter = take_le (length c.args.codes.now - 1) c.args.codes.now;
  holds = at_other_test _ _ _ c.in-len1-up.len_at_least k.not-Compare k.not-Join k.not-Negate;
}
