use Rattle.std.proofs.Common.{◌≡◌, length, map}
use Rattle.pc_script.specs.Inner.Walks.{stand}
use Rattle.pc_script.proofs.Walking.{HasWalked}
use Rattle.pc_script.proofs.walker.walk.Given as goal

abbrev pub invariant-loop-text : goal.invariant-loop-text
invariant-loop-text g l = record {
  counted : l.number ≡ length l.yielded;
  walked : HasWalked g.M.Machine.StandsAfter g.O.Observer.Tells (map (λ line. line.now) l.yielded)
      (stand l.initial.walk.machine l.initial.walk.is_open l.initial.walk.version l.initial.observer (g.W.Write.contents l.initial.writer))
      (stand l.walk.machine l.walk.is_open l.walk.version l.observer (g.W.Write.contents l.writer));
}
