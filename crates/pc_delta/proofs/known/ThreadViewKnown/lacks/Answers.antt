use Rattle.std.proofs.Common.{ℕ, ◌<◌, ◌≡◌, IsTrue, nat_lt, arith}
use Rattle.std.proofs.lemmas.Bool.Decides.{nat_tests}
use Rattle.pc_delta.proofs.Useful.{lacking_told}
use Rattle.pc_delta.proofs.known.ThreadViewKnown.lacks.Goals as goal

less : (a b c : ℕ) → a ≡ c → IsTrue (nat_lt a b) → c < b
less a b c e h = grind (arith, nat_tests)

pub returns-clause-one : goal.returns-clause-one
returns-clause-one c = λ t. lacking_told c.args.self.now c.args.upto c.upto.ensures.sound (less c.upto.result c.args.upto c.args.self.now.upto c.upto.ensures.value t)
