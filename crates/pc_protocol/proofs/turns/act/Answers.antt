use Rattle.std.proofs.Common.{◌∙◌, sym}
use Rattle.pc_protocol.proofs.Turning.{acts_picked, acts_stole, none_found, some_found}
use Rattle.pc_protocol.proofs.turns.act.Goals as goal

pub returns-then-not-finds_none : goal.returns-then-not-finds_none
returns-then-not-finds_none c =
    acts_picked c.args.cpu c.args.aseq c.args.world.now c.perform.new.world c.perform-2.new.world c.in_ok-perform.field-0 c.in_ok-picked.picked c.in_ok-perform.ensures c.in_ok-picked.ensures
    (some_found c.in_ok-picked.picked (sym c.finds_none.ensures ∙ c.if-not-finds_none.true))

pub returns : goal.returns
returns c =
    acts_stole c.args.cpu c.args.aseq c.args.world.now c.perform.new.world c.perform-2.new.world c.steal.new.world c.in_ok-perform.field-0 c.in_ok-picked.picked c.in_ok-asks.asks c.in_ok-perform.ensures c.in_ok-picked.ensures
    (none_found c.in_ok-picked.picked (sym c.finds_none.ensures ∙ c.if-not-finds_none.false)) c.in_ok-asks.ensures
