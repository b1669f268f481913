use Rattle.std.proofs.Common.{◌≡◌, ◌++◌, true, ap, sym, subst, ◌∙◌, arith}
use Rattle.std.proofs.lemmas.List.{append-nil, drop_all}
use Rattle.pc_messages.specs.Items.{AreItemsOf}
use Rattle.pc_kernel.specs.PlainKernel as plain
use Rattle.pc_kernel.specs.Reads.{content_read, is_cpu, kinds_read, seen, shown}
use Rattle.pc_agent.specs.Own.{Publishes}
use Rattle.pc_agent.specs.Publishing.{IsPublished}
use Rattle.pc_agent.proofs.Delivered.{published}
use Rattle.pc_agent.proofs.Items.{items_stay, same_run}
use Rattle.pc_agent.proofs.agent.Agent.publish.Goals as goal

pub returns-in-Ok : goal.returns-in-Ok
returns-in-Ok g c =
    let cpu = c.args.self.now.cpu in
    let items = c.as_slice.result.now in
    let did = c.publish_items-in-Ok.ensures in
    let content : items ≡ content_read (seen c.args.kernel.now) cpu = c.as_slice.ensures.value ∙ c.in-Ok.ensures.queued.content in
    record {
      publishes = λ P run p shows extends h.
          let there : is_cpu (shown P) cpu ≡ true = ap (λ r. is_cpu r cpu) (sym shows.reads) ∙ c.requires.there in
          let holds : items ≡ plain.content P cpu = content ∙ ap (λ r. content_read r cpu) shows.reads ∙ (c.reads_are_plain.ensures P).content cpu there in
          let of_kernel : AreItemsOf (kinds_read (seen c.args.kernel.now)) items = subst (AreItemsOf _) (sym c.as_slice.ensures.value) c.in-Ok.ensures.queued.of_run in
          let of_plain : AreItemsOf (plain.kinds P) items = same_run (kinds_read (seen c.args.kernel.now)) (plain.kinds P) items (λ t. ap (λ r. kinds_read r t) shows.reads ∙ (c.reads_are_plain.ensures P).kinds t) of_kernel in
          let of_run : AreItemsOf run items = items_stay c.parts_stay_as_the_run_goes_on.ensures run (plain.kinds P) extends items of_plain in
          subst (λ l. IsPublished g.W.Wire.Sends l run p c.publish_items-in-Ok.result cpu c.publish_items-in-Ok.new.self c.args.wire.now c.publish_items-in-Ok.new.wire) holds
          (published c.views_tell_what_their_sets_tell.ensures.reported c.parts_of_items_are_of_the_run.ensures.set c.parts_of_items_are_of_the_run.ensures.of_run run p items c.args.self.now c.publish_items-in-Ok.new.self of_run h
          g.W.Wire.Sends c.publish_items-in-Ok.result c.args.wire.now c.publish_items-in-Ok.new.wire did.own);
      own = subst (λ l. Publishes g.W.Wire.Sends l c.publish_items-in-Ok.result c.args.self.now c.publish_items-in-Ok.new.self c.args.wire.now c.publish_items-in-Ok.new.wire) content did.own;
      fault = did.fault;
      cpu = did.cpu;
      rules = did.rules;
      counts = did.counts;
    }

pub returns-in-Some-default-empty : goal.returns-in-Some-default-empty
returns-in-Some-default-empty g c =
    let cpu = c.args.self.now.cpu in
    let items = c.in-Some-default-empty.items.now in
    let rest = c.in-Some-default-empty.field-0-1.now in
    let did = c.publish_items.ensures in
    let alone : items ++ rest ≡ items = ap (λ l. items ++ l) (drop_all 0 rest (search arith)) ∙ append-nil items in
    let content : items ≡ content_read (seen c.args.kernel.now) cpu = sym alone ∙ c.in-Some-default-empty.ensures.queued.content in
    record {
      publishes = λ P run p shows extends h.
          let there : is_cpu (shown P) cpu ≡ true = ap (λ r. is_cpu r cpu) (sym shows.reads) ∙ c.requires.there in
          let holds : items ≡ plain.content P cpu = content ∙ ap (λ r. content_read r cpu) shows.reads ∙ (c.reads_are_plain.ensures P).content cpu there in
          let of_kernel : AreItemsOf (kinds_read (seen c.args.kernel.now)) items = subst (AreItemsOf _) alone c.in-Some-default-empty.ensures.queued.of_run in
          let of_plain : AreItemsOf (plain.kinds P) items = same_run (kinds_read (seen c.args.kernel.now)) (plain.kinds P) items (λ t. ap (λ r. kinds_read r t) shows.reads ∙ (c.reads_are_plain.ensures P).kinds t) of_kernel in
          let of_run : AreItemsOf run items = items_stay c.parts_stay_as_the_run_goes_on.ensures run (plain.kinds P) extends items of_plain in
          subst (λ l. IsPublished g.W.Wire.Sends l run p c.publish_items.result cpu c.publish_items.new.self c.args.wire.now c.publish_items.new.wire) holds
          (published c.views_tell_what_their_sets_tell.ensures.reported c.parts_of_items_are_of_the_run.ensures.set c.parts_of_items_are_of_the_run.ensures.of_run run p items c.args.self.now c.publish_items.new.self of_run h
          g.W.Wire.Sends c.publish_items.result c.args.wire.now c.publish_items.new.wire did.own);
      own = subst (λ l. Publishes g.W.Wire.Sends l c.publish_items.result c.args.self.now c.publish_items.new.self c.args.wire.now c.publish_items.new.wire) content did.own;
      fault = did.fault;
      cpu = did.cpu;
      rules = did.rules;
      counts = did.counts;
    }
