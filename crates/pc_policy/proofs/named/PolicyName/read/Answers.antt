use Rattle.std.proofs.Common.{rules, ◌≡◌, ◌-◌, sym, ◌∙◌, codes, length, subst, true, true≢false, Err, IfErr}
use Rattle.pc_policy.specs.Names.{NamesNoPolicy}
use Rattle.pc_policy.proofs.Policies.{none_before, none_named, refused_so}
use Rattle.pc_policy.proofs.Suffixes.{ends_so}
use Rattle.pc_policy.proofs.named.PolicyName.read.Goals as goal

pub returns-in_err-read-in-Some-clause-err : goal.returns-in_err-read-in-Some-clause-err
returns-in_err-read-in-Some-clause-err c =
    let ends = c.in-Some.ensures in
    let front = c.in-Some.front.now in
    let is = ends_so c.args.text.now front (codes " exact") (length c.args.text.now - 6) ends.cases.0 ends.cases.1 in
    refused_so c.from_residual.result (none_before c.args.text.now front is c.in_err-read-in-Some.ensures.err)

pub returns-in_err-read-in-Some-clause-fault : goal.returns-in_err-read-in-Some-clause-fault
returns-in_err-read-in-Some-clause-fault c =
    let ends = c.in-Some.ensures in
    let front = c.in-Some.front.now in
    let is = ends_so c.args.text.now front (codes " exact") (length c.args.text.now - 6) ends.cases.0 ends.cases.1 in
    let failed : c.from_residual.result ≡ Err c.in_err-read-in-Some.field-0.0 = search rules in
    subst (λ r. IfErr r (λ fault. NamesNoPolicy c.args.text.now fault)) (sym failed)
    (none_named c.args.text.now front true is (λ usual. absurd (true≢false usual)) c.in_err-read-in-Some.ensures.fault)

pub returns-in_ok-read-in-Some-clause-ok : goal.returns-in_ok-read-in-Some-clause-ok
returns-in_ok-read-in-Some-clause-ok c =
    let ends = c.in-Some.ensures in
    let front = c.in-Some.front.now in
    (front, c.in_ok-read-in-Some.ensures.ok, ends_so c.args.text.now front (codes " exact") (length c.args.text.now - 6) ends.cases.0 ends.cases.1)
