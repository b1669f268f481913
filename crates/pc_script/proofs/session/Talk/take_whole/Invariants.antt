use Rattle.std.proofs.Common.{◌≡◌, ◌≤◌, ◌+◌, List, ℕ, length, ◌++◌}
use Rattle.pc_script.specs.Inner.Pieces.{IsCut}
use Rattle.pc_script.specs.Inner.Talks.{HearsAll, talking}
use Rattle.pc_script.proofs.session.Talk.take_whole.Given as goal

abbrev pub invariant-loop-line : goal.invariant-loop-line
invariant-loop-line g l = record {
  heard : (taken : List (List ℕ)) × HearsAll g.M.Machine.StandsAfter g.O.Observer.Tells
      (talking l.initial.self.walk.machine l.initial.self.walk.is_open l.initial.self.walk.version l.initial.self.number l.initial.self.had_fault l.initial.observer (g.W.Write.contents l.initial.writer))
      taken
      (talking l.self.walk.machine l.self.walk.is_open l.self.walk.version l.self.number l.self.had_fault l.observer (g.W.Write.contents l.writer))
      × IsCut l.text taken l.rest;
  behind : (front : List ℕ) × (l.text ≡ front ++ l.rest);
  passes : l.self.passes ≡ l.initial.self.passes;
  counted : l.self.number + length l.rest ≤ l.initial.self.number + length l.text;
}

abbrev pub decreases-loop-line : goal.decreases-loop-line
decreases-loop-line g l = length l.rest
