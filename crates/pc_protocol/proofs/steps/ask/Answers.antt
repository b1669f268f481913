use Rattle.pc_protocol.proofs.Doing.{asks_so, none_asked}
use Rattle.pc_protocol.proofs.steps.ask.Goals as goal

pub ask_others-requires : goal.ask_others-requires
ask_others-requires c =
    let h = c.is_reached.ensures in ((h.plain.agents c.args.cpu).known, (c.in-Some.ensures h.plain h.shows).1.known)

pub returns-in_ok-ask_others-clause-asks : goal.returns-in_ok-ask_others-clause-asks
returns-in_ok-ask_others-clause-asks c =
    asks_so c.args.world.now c.args.cpu c.in-Some.view.now c.args.seats.now.items c.ask_others.new.seats.items c.in-Some.ensures c.in_ok-ask_others.ensures.asks

pub returns-in_default-clause-asks : goal.returns-in_default-clause-asks
returns-in_default-clause-asks c = none_asked c.args.world.now c.args.cpu c.args.seats.now.items c.in_default.ensures
