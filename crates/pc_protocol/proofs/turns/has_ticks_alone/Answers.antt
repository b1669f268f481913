use Rattle.std.proofs.Common.{◌≡◌, ◌∙◌, ◌&&◌, true, ap, sym}
use Rattle.pc_messages.specs.Items.{pairs_in}
use Rattle.pc_protocol.specs.Protocol.{tells_none}
use Rattle.pc_protocol.proofs.Turning.{tells_none_both}
use Rattle.pc_protocol.proofs.turns.has_ticks_alone.Goals as goal

pub returns-then-are_ticks : goal.returns-then-are_ticks
returns-then-are_ticks c there =
    let near = c.in-Some.near.now in
    let far = c.in-Some.far.now in
    let first : tells_none (pairs_in near) ≡ true = sym c.are_ticks.ensures ∙ c.if-are_ticks.true in
    c.are_ticks-then-are_ticks.ensures ∙ ap (λ b. b && tells_none (pairs_in far)) (sym first) ∙ sym (tells_none_both near far) ∙ ap (λ l. tells_none (pairs_in l)) c.in-Some.ensures.queued.content

pub returns-else-are_ticks : goal.returns-else-are_ticks
returns-else-are_ticks c there =
    let near = c.in-Some.near.now in
    let far = c.in-Some.far.now in
    c.if-are_ticks.false ∙ ap (λ b. b && tells_none (pairs_in far)) (sym c.if-are_ticks.false ∙ c.are_ticks.ensures) ∙ sym (tells_none_both near far) ∙ ap (λ l. tells_none (pairs_in l)) c.in-Some.ensures.queued.content
