use Rattle.pc_thread_view.proofs.Places.{is_there}
use Rattle.pc_thread_view.proofs.held.is_among.Goals as goal

pub returns : goal.returns
returns c = is_there c.args.early.now c.args.number c.place_of.result c.is_none.result c.place_of.ensures c.is_none.ensures
