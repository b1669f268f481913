use Rattle.std.proofs.Common.{◌≡◌, ◌∙◌, ◌||◌, Bool, true, false, Result, Ok, Err, OnOk, ap, refl, sym}
use Rattle.pc_join.specs.Sets.{Members, IsSameSet, IsUnion}
use Rattle.pc_view.specs.Views.{pairs_of}
use Rattle.pc_example.proofs.meet.Goals as goal

-- what one knows with what the other knows is what the other knows then
both_know : (x y : Bool) → (x || y) ≡ (y || (x || y))
both_know true true = refl
both_know true false = refl
both_know false true = refl
both_know false false = refl

-- who learns from another, and then tells it all, knows the same as that one
same : (first second learnt told : Members) → IsUnion first second learnt → IsUnion second learnt told → IsSameSet learnt told
same first second learnt told one other m =
    one m ∙ both_know (first m) (second m) ∙ ap (λ known. second m || known) (sym (one m)) ∙ sym (other m)

on_ok : {T E A B : Type 0} (result : Result T E) → (A → B) → OnOk result A → OnOk result B
on_ok (Ok value) f a = f a
on_ok (Err fault) f a = tt

pub returns-in-Ok : goal.returns-in-Ok
returns-in-Ok c = record {
  equal = λ run first second.
      let learnt = c.in-Ok.ensures.of_run run first second in
      on_ok c.merge-in-Ok.result (λ union.
      c.views_of_the_same_messages_are_equal.ensures run c.merge.new.self c.merge-in-Ok.new.self
      learnt (c.merge-in-Ok.ensures.of_run run second learnt)
      (same (pairs_of c.args.first.now) (pairs_of c.args.second.now) (pairs_of c.merge.new.self) (pairs_of c.merge-in-Ok.new.self)
      c.in-Ok.ensures.union union))
      c.merge-in-Ok.ensures.union;
}
