use Rattle.std.proofs.Common.{◌≡◌, Bool, true, false, not, refl, sym, ◌∙◌}
use Rattle.std.proofs.lemmas.Bool.{false≢true}
use Rattle.pc_join.proofs.Comparing.{other_first, other_value, shorter, walked_both}
use Rattle.pc_join.proofs.leaves.Leaves.is_same.Goals as goal

pub returns-in_default : goal.returns-in_default
returns-in_default g c = (
  λ t. absurd (false≢true t),
  λ all. absurd (shorter g.V.PartialEq.eq c.args.self.now c.args.other.now c.loop-name.name-iterator c.loop-name.others c.loop-name.invariant
      _ _ c.in-Some.ensures.steps c.in_default.ensures.steps.0 all),
)

pub returns-then-index : goal.returns-then-index
returns-then-index g c = (
  λ t. absurd (false≢true t),
  λ all. absurd (other_first g.V.PartialEq.eq c.args.self.now c.args.other.now c.loop-name.name-iterator c.loop-name.others c.loop-name.invariant
      _ _ _ _ c.in-Some.ensures.steps c.in-Some-next.ensures.steps (λ e. c.if-index.true (c.index.ensures ∙ e ∙ sym c.index-in-loop-name.ensures)) all),
)

pub returns-then-ne : goal.returns-then-ne
returns-then-ne g c = (
  λ t. absurd (false≢true t),
  λ all. absurd (other_value g.V.PartialEq.eq c.args.self.now c.args.other.now c.loop-name.name-iterator c.loop-name.others c.loop-name.invariant
      _ _ _ _ c.in-Some.ensures.steps c.in-Some-next.ensures.steps (was_not _ _ c.ne.ensures c.if-ne.true) all),
)
  where
    was_not : (a b : Bool) → a ≡ not b → a ≡ true → b ≡ false
    was_not a true e t = absurd (false≢true (sym e ∙ t))
    was_not a false e t = refl

pub returns : goal.returns
returns g c = walked_both g.V.PartialEq.eq c.args.self.now c.args.other.now c.loop-name.name-iterator c.loop-name.others c.loop-name.invariant
    c.next-2.result c.next-2.new.self c.is_none.result c.in-None.ensures.steps.0 c.next-2.ensures.steps c.is_none.ensures
