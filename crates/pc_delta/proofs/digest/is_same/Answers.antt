use Rattle.std.proofs.Common.{sym, ◌∙◌}
use Rattle.pc_delta.proofs.Digesting.{covers_both, same_both}
use Rattle.pc_delta.proofs.digest.is_same.Goals as goal

pub returns-then-covers : goal.returns-then-covers
returns-then-covers c = (
  λ t. sym c.first.view_is ∙ covers_both c.first.inside.numbers c.other.inside.numbers c.first.invariant c.other.invariant (c.covers.ensures.0 c.if-covers.true) (c.covers-then-covers.ensures.0 t) ∙ c.other.view_is,
  λ e. c.covers-then-covers.ensures.1 (same_both c.first.inside.numbers c.other.inside.numbers (c.first.view_is ∙ e ∙ sym c.other.view_is)).1,
)
