use Rattle.std.proofs.Common.{◌≡◌, Some, map, string_bytes, sym, ap, ◌∙◌}
use Rattle.pc_settings.specs.Keys.{first_some}
use Rattle.pc_settings.specs.UnknownKeys.{unknown_at}
use Rattle.pc_settings.proofs.UnknownKeys.{first_now, keys_seen}
use Rattle.pc_settings.proofs.unknown.first_in.Goals as goal

pub returns-in-Some-unknown_at : goal.returns-in-Some-unknown_at
returns-in-Some-unknown_at c =
    let at = unknown_at c.args.kind c.args.place in
    let here : at (string_bytes c.in-Some.key.now) ≡ Some c.in-Some-unknown_at.unknown =
    ap at (sym c.as_bytes.ensures.value) ∙ sym c.unknown_at.ensures ∙ c.in-Some-unknown_at.is in
    sym (first_now (λ key. at (string_bytes key)) c.loop-key.key-iterator c.next.new.self c.in-Some.key.now c.in-Some-unknown_at.unknown c.in-Some.ensures.steps here)
    ∙ c.loop-key.invariant.2 ∙ ap first_some (keys_seen at c.args.table.now.entries)

pub returns : goal.returns
returns c =
    let at = unknown_at c.args.kind c.args.place in
    sym (ap (λ left. first_some (map (λ key. at (string_bytes key)) left)) c.in-None.ensures.steps.0)
    ∙ c.loop-key.invariant.2 ∙ ap first_some (keys_seen at c.args.table.now.entries)
