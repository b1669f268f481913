use Rattle.std.proofs.Common.{rules}
use Rattle.pc_load.specs.Loads.{need_of}
use Rattle.pc_lab.proofs.Accounting.{same_state}
use Rattle.pc_lab.proofs.account.is_ended.Goals as goal

pub returns : goal.returns
returns c = λ yes. same_state c.args.state.now (need_of c.args.thread.now) (search rules) (search rules) (search rules) (search rules)
