use Rattle.std.proofs.Common.{suc, take, drop, All, sym, ap, ◌∙◌, subst, arith, ◌++◌, ◌∷◌, []}
use Rattle.std.proofs.lemmas.Bool.{false≢true}
use Rattle.std.proofs.lemmas.List.{take_more, take_all}
use Rattle.std.proofs.lemmas.List.Elements.{All-push}
use Rattle.pc_thread_view.specs.Histories.{Has}
use Rattle.pc_view.proofs.Audits.{among_at}
use Rattle.pc_view.proofs.auditing.first_other.Goals as goal

pub loop-message-init : goal.loop-message-init
loop-message-init c = λ k d less. absurd (let none : ⊥ = omega arith in none)

pub returns-then-not-has-clause-some : goal.returns-then-not-has-clause-some
returns-then-not-has-clause-some c = record {
  before = take c.loop-message.message-index c.args.early.now;
  kind = c.message-item.result.1;
  after = drop (suc c.loop-message.message-index) c.args.early.now;
  among = among_at c.args.early.now c.loop-message.message-index c.message-item.result c.loop-message-test.true c.message-item.is;
  had = c.loop-message.invariant;
  other = λ had. false≢true (sym c.if-not-has.true ∙ c.has.ensures.1 had);
}

pub loop-message-preserved : goal.loop-message-preserved
loop-message-preserved c =
    subst (All (Has c.args.history.now)) (ap (λ x. take c.loop-message.message-index c.args.early.now ++ x ∷ []) c.message-item.is ∙ sym (take_more c.args.early.now c.loop-message.message-index c.message-item.result c.loop-message-test.true))
    (All-push (Has c.args.history.now) (take c.loop-message.message-index c.args.early.now) c.message-item.result c.loop-message.invariant (c.has.ensures.0 c.if-not-has.false))

pub returns-clause-none : goal.returns-clause-none
returns-clause-none c = λ _. subst (All (Has c.args.history.now)) (take_all c.loop-message.message-index c.args.early.now (omega (arith, c.loop-message-test.false))) c.loop-message.invariant
