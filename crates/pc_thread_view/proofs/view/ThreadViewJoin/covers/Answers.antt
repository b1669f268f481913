use Rattle.pc_thread_view.specs.Inner.Held.{told}
use Rattle.pc_thread_view.proofs.Among.{covers_numbers}
use Rattle.pc_thread_view.proofs.view.ThreadViewJoin.covers.Goals as goal

pub returns : goal.returns
returns c = covers_numbers (told c.self.inside.held) (told c.other.inside.held) c.args.self.now c.args.other.now c.covers_held.result c.self.view_is c.other.view_is c.covers_held.ensures
