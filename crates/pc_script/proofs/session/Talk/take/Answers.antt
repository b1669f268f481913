use Rattle.std.proofs.Common.{◌≡◌, ◌∙◌, ℕ, List, refl, inr, subst, sym, ◌∷◌, [], true≢false}
use Rattle.pc_script.specs.Scripts.{faulted}
use Rattle.pc_script.specs.Inner.Talks.{faults}
use Rattle.pc_script.specs.Sessions.{AsksForHelp}
use Rattle.pc_script.proofs.session.Talk.take.Goals as goal

pub returns-then-not-branch-clause-ok : goal.returns-then-not-branch-clause-ok
returns-then-not-branch-clause-ok g c =
    let stops = rw c.if-not-branch.true at c.in_ok-take.ensures.ok in
    let no_help : AsksForHelp c.args.text.now → ⊥ = λ asks. true≢false (sym (c.asks_for_help.ensures.1 asks) ∙ c.if-asks_for_help.false) in
    let number = c.in_ok-number.ensures.ok in
    rw c.note_fault.ensures
    (faults (inr (no_help, stops.bad)) (λ closed short. stops.no_version closed) number refl stops.same stops.is_open stops.same_version
    (subst (λ n. g.O.Observer.Tells c.args.observer.now (g.W.Write.contents c.args.writer.now) (faulted n ∷ []) c.take.new.observer (g.W.Write.contents c.take.new.writer)) number stops.told))
