use Rattle.std.proofs.Common.{sym, ◌∙◌}
use Rattle.std.proofs.lemmas.Bool.{false≢true}
use Rattle.pc_join.proofs.Comparing.{both_parts, far_part, near_part}
use Rattle.pc_join.proofs.values.Values.is_same.Goals as goal

pub returns-then-is_same : goal.returns-then-is_same
returns-then-is_same g c = (
  λ t. both_parts g.V.PartialEq.eq c.self.inside.near c.self.inside.far c.args.self.now c.other.inside.near c.other.inside.far c.args.other.now
      c.self.view_is c.self.invariant c.other.view_is c.other.invariant (c.is_same.ensures.0 c.if-is_same.true) (c.is_same-then-is_same.ensures.0 t),
  λ all. c.is_same-then-is_same.ensures.1 (far_part g.V.PartialEq.eq c.self.inside.near c.self.inside.far c.args.self.now c.other.inside.near c.other.inside.far c.args.other.now
      c.self.view_is c.self.invariant c.other.view_is c.other.invariant all),
)

pub returns-else-is_same : goal.returns-else-is_same
returns-else-is_same g c = (
  λ t. absurd (false≢true (sym c.if-is_same.false ∙ t)),
  λ all. c.is_same.ensures.1 (near_part g.V.PartialEq.eq c.self.inside.near c.self.inside.far c.args.self.now c.other.inside.near c.other.inside.far c.args.other.now
      c.self.view_is c.self.invariant c.other.view_is c.other.invariant all),
)
