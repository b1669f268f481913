use Rattle.std.proofs.Common.{ap, ◌∙◌, arith, ◌≡◌, ◌+◌, vec_len, vec_capacity}
use Rattle.pc_delta.proofs.Telling.{told_message, told_tick, told_every}
use Rattle.pc_delta.proofs.part.parts_of.Goals as goal
use Rattle.pc_delta.proofs.part.parts_of.Goals.{in-Thread, in-Tick}

pub loop-item-preserved : goal.loop-item-preserved
loop-item-preserved c = elim c.match-item.branch [
  | in-Thread w ↦
      let len : vec_len c.match-item.parts ≡ vec_len c.loop-item.parts + 1 = ap vec_len w.parts-is ∙ w.push_reserved.ensures.len in
      let capacity : vec_capacity c.match-item.parts ≡ vec_capacity c.loop-item.parts = ap vec_capacity w.parts-is ∙ w.push_reserved.ensures.capacity in
      record {
        told = told_message c.args.items.now c.loop-item.item-index c.item-item.result w.in-Thread.message c.loop-item.parts.items c.match-item.parts.items c.item-item.is c.loop-item-test.true w.in-Thread.is c.loop-item.invariant.told
            (ap (λ parts. parts.items) w.parts-is ∙ w.push_reserved.ensures.items);
        room = omega arith;
      }
  | in-Tick w ↦
      let len : vec_len c.match-item.parts ≡ vec_len c.loop-item.parts = ap vec_len w.parts-is in
      let capacity : vec_capacity c.match-item.parts ≡ vec_capacity c.loop-item.parts = ap vec_capacity w.parts-is in
      record {
        told = ap (λ parts. parts.items) w.parts-is ∙ told_tick c.args.items.now c.loop-item.item-index c.item-item.result w.in-Tick.field-0 c.loop-item.parts.items c.item-item.is c.loop-item-test.true w.in-Tick.is c.loop-item.invariant.told;
        room = omega arith;
      }
]

pub returns : goal.returns
returns c = told_every c.args.items.now c.loop-item.item-index c.loop-item.parts.items c.loop-item-test.false c.loop-item.invariant.told
