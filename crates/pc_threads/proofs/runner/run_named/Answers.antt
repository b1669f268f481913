use Rattle.std.proofs.Common.{length, nat_abs, refl, ap, arith}
use Rattle.pc_threads.specs.Inner.Shares.{Spent, unspent}
use Rattle.pc_threads.proofs.Reported.{all_posted, does_all}
use Rattle.pc_threads.proofs.Steps.{messages_few}
use Rattle.pc_threads.proofs.runner.run_named.Goals as goal

pub report_of-requires-clause-counted : goal.report_of-requires-clause-counted
report_of-requires-clause-counted g c =
    let settings = c.args.config.now in
    let sound = c.is_sound.ensures in
    let all = all_posted (nat_abs settings.cpus) sound.cpus (length settings.threads) settings.threads (unspent (nat_abs settings.cpus)) c.in_ok-tallied.field-0.purse c.in_ok-purse.field-0.purse
    sound.threads refl refl c.in_ok-tallied.ensures.created c.in_ok-purse.ensures.ends.posted in
    omega (arith, c.close-book.ensures.told, ap (λ (s : Spent). s.told) c.in_ok-purse.purse-is, all.told_all, messages_few settings sound)

pub returns-clause-all : goal.returns-clause-all
returns-clause-all g c =
    let settings = c.args.config.now in
    let spent = c.in_ok-purse.field-0.purse in
    let sound = c.is_sound.ensures in
    let all = all_posted (nat_abs settings.cpus) sound.cpus (length settings.threads) settings.threads (unspent (nat_abs settings.cpus)) c.in_ok-tallied.field-0.purse spent
    sound.threads refl refl c.in_ok-tallied.ensures.created c.in_ok-purse.ensures.ends.posted in
    does_all settings c.in_ok-report.report c.close-book.result spent all c.close-book.ensures.limits
    (omega (arith, c.close-book.ensures.created, ap (λ (s : Spent). s.created) c.in_ok-purse.purse-is)) (omega (arith, c.close-book.ensures.told, ap (λ (s : Spent). s.told) c.in_ok-purse.purse-is))
    (omega (arith, c.close-book.ensures.ran, ap (λ (s : Spent). s.ran) c.in_ok-purse.purse-is)) (omega (arith, c.close-book.ensures.left, ap (λ (s : Spent). s.left) c.in_ok-purse.purse-is))
    (omega (arith, c.close-book.ensures.died, ap (λ (s : Spent). s.died) c.in_ok-purse.purse-is)) c.none_runs_in_the_end.ensures c.known_are_created.ensures c.in_ok-report.ensures.book c.in_ok-report.ensures.tells
