use Rattle.std.proofs.Common.{arith}
use Rattle.pc_policy.specs.Rankings.{ranks_of}
use Rattle.pc_agent.proofs.Kept.{held_but}
use Rattle.pc_agent.proofs.Settles.{stands_alike, still_stands}
use Rattle.pc_agent.proofs.shortcuts.Shortcuts.look_anew.Goals as goal

pub returns : goal.returns
returns c before list keeps h = record {
  settled = λ e.
      let ranks = ranks_of c.args.policy.now in
      let noted = c.args.self.now.noted.items in
      stands_alike ranks c.args.view.now c.args.cpu list noted c.drop_as_noted.new.noted.items c.drop_as_noted.ensures
      (still_stands ranks c.args.parts.now before c.args.view.now c.args.cpu list noted keeps (h.others e) (h.settled e));
  runnable = c.keep_runnable.ensures (held_but c.args.parts.now before c.args.view.now c.args.cpu c.args.self.now.runnable keeps h.runnable);
  passed = λ t lt. absurd (omega (arith, h.none_passed, lt));
}
