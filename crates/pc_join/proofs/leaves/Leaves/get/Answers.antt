use Rattle.std.proofs.Common.{ap, sym, ◌∙◌}
use Rattle.pc_join.specs.ByName.{value_at}
use Rattle.pc_join.specs.Inner.Leaves.{found_in}
use Rattle.pc_join.proofs.Trees.{shown_as}
use Rattle.pc_join.proofs.leaves.Leaves.get.Goals as goal

pub returns-in-Some : goal.returns-in-Some
returns-in-Some g c =
    c.value_of.ensures ∙ ap (λ es. value_at es c.args.name) c.as_slice.ensures.value ∙ ap (λ o. found_in o c.args.name) c.in-Some.ensures.value
    ∙ sym (shown_as c.self.inside.leaves c.args.self.now c.self.view_is c.self.invariant c.args.name)

pub returns-in-None : goal.returns-in-None
returns-in-None g c = ap (λ o. found_in o c.args.name) c.in-None.ensures.value ∙ sym (shown_as c.self.inside.leaves c.args.self.now c.self.view_is c.self.invariant c.args.name)
