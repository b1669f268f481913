use Rattle.std.proofs.Common.{arith}
use Rattle.std.proofs.lemmas.List.{drop_all}
use Rattle.pc_script.proofs.text.LineEnd.clear.Goals as goal

pub returns-clause-empty : goal.returns-clause-empty
returns-clause-empty c = drop_all 160 c.args.self.now.bytes (omega arith)
