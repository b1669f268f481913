use Rattle.std.proofs.Common.{◌≡◌, ◌∙◌, false, Some, ap, subst, sym}
use Rattle.std.specs.List.{list_any}
use Rattle.std.proofs.lemmas.List.{take_all}
use Rattle.pc_delta.specs.declared.part.Part.{Part}
use Rattle.pc_delta.specs.Parts.{thread_of_part}
use Rattle.pc_protocol.specs.Turning.{offers_in}
use Rattle.pc_protocol.proofs.Turning.{delta_at, nothing_urgent, part_at, parts_more}
use Rattle.pc_protocol.proofs.turns.is_quiet.Goals as goal

pub loop-part-preserved : goal.loop-part-preserved
loop-part-preserved c =
    parts_more (λ part. offers_in c.in-Some.view.now (thread_of_part part) c.args.to) c.parts-part-items.result.now c.loop-part.part-index c.part-item.result
    (part_at c.parts-part-items.result.now c.loop-part.part-index c.part-item.result c.part-item.result c.loop-part-test.true c.part-item.is) (ap (λ t. offers_in c.in-Some.view.now t c.args.to) (sym c.thread.ensures) ∙ sym c.offers.ensures ∙ c.if-offers.false) c.loop-part.invariant

pub returns : goal.returns
returns c quiet =
    let f = λ (part : Part). offers_in c.in-Some.view.now (thread_of_part part) c.args.to in
    let parts = c.parts-part-items.result.now in
    let all : list_any f parts ≡ false = subst (λ l. list_any f l ≡ false) (take_all c.loop-part.part-index parts c.loop-part-test.false) c.loop-part.invariant in
    nothing_urgent c.views_tell_what_their_sets_tell.ensures.reported c.args.world.now c.in-Some.view.now c.args.cpu c.args.delta c.args.to c.sent-sent.result.now parts
    c.in-Some.ensures c.sent-sent.ensures.tell (delta_at c.sent-sent.result.now c.args.delta c.index-sent-delta.result c.index-sent-delta.result c.if-delta-sent.false c.index-sent-delta.is ∙ ap Some (sym c.parts-part-items.ensures.same)) all
