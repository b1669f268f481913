use Rattle.std.proofs.Common.{ap, sym, ◌∙◌, ◌≡◌, ◌+◌, ◌≤◌, drop, length, arith}
use Rattle.std.specs.List.{insert}
use Rattle.std.proofs.lemmas.List.{length-drop}
use Rattle.pc_thread_view.proofs.Slots.{insert_dropped, written}
use Rattle.pc_thread_view.proofs.early.insert_behind.Goals as goal

pub returns-clause-ok : goal.returns-clause-ok
returns-clause-ok c =
    let lent : c.as_mut_slice.result.now ≡ c.push.new.self.items = c.as_mut_slice.ensures.value in
    let fits : c.pack.new.front + c.args.place ≤ length c.pack.new.slots.items = omega (arith, c.requires.place, ap length c.in_ok-pack.ensures.items, c.in_ok-pack.ensures.front.0, length-drop c.pack.new.front c.pack.new.slots.items) in
    ap (drop c.pack.new.front)
    (written c.push.new.self.len c.raise.new.slots c.push.new.self.items (c.raise.ensures.len ∙ ap length lent) (sym c.as_mut_slice.ensures.len ∙ ap length lent)
    ∙ c.raise.ensures.raised c.pack.new.slots.items c.args.entry (lent ∙ c.in_ok-push.ensures.items))
    ∙ insert_dropped c.pack.new.front c.args.place c.pack.new.slots.items c.args.entry fits
    ∙ ap (λ l. insert l c.args.place c.args.entry) c.in_ok-pack.ensures.items
