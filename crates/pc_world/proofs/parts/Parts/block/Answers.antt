use Rattle.std.proofs.Common.{refl}
use Rattle.pc_calls.specs.declared.call.EnvCall.TheVariants as calls
use Rattle.pc_world.proofs.Posting.{posted}
use Rattle.pc_world.proofs.parts.Parts.block.Goals as goal

pub returns-clause-handles : goal.returns-clause-handles
returns-clause-handles c =
    posted c.runs_go_on.ensures c.args.self.now _ (calls.Block c.args.cpu c.args.ran) c.block.result c.put_posted.result c.put_posted.new.reply refl refl c.block.ensures c.put_posted.ensures.put
