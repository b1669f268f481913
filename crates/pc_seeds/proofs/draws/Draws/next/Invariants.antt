use Rattle.std.proofs.Common.{◌≡◌, MatchOption}
use Rattle.pc_seeds.specs.Draws.{IsChoice, NobodyChooses}
use Rattle.pc_seeds.proofs.draws.Draws.next.Given as goal

abbrev pub invariant-loop-cpu : goal.invariant-loop-cpu
invariant-loop-cpu l =
    (l.self.cpus ≡ l.fn.self.cpus) × MatchOption l.last (NobodyChooses l.machine l.cpu l.driver) (IsChoice l.machine l.fn.self.cpus l.driver)
