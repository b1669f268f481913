use Rattle.std.proofs.Common.{◌≡◌, map, take}
use Rattle.pc_session.proofs.show.numbers_of.Given as goal

abbrev pub invariant-loop-number : goal.invariant-loop-number
invariant-loop-number l = l.numbers ≡ map (λ e. e.0) (take l.number-index l.early)
