use Rattle.pc_rank.specs.Inner.Made.{stack}
use Rattle.pc_rank.proofs.Stacks.{put_kind, put_top, put_under, still_laid}
use Rattle.pc_rank.proofs.making.Making.push.Goals as goal

pub invariant_of-self : goal.invariant_of-self
unfolding stack
invariant_of-self c = let old = c.args.self.now in record {
  laid = still_laid old.row c.push.new.self c.args.code old.laid c.push.ensures c.requires.kinds;
}

pub returns-clause-kind : goal.returns-clause-kind
unfolding stack
returns-clause-kind c = let old = c.args.self.now in put_kind old.row c.push.new.self c.args.code old.laid c.push.ensures c.requires.kinds

pub returns-clause-top : goal.returns-clause-top
unfolding stack
returns-clause-top c = let old = c.args.self.now in put_top old.row c.push.new.self c.args.code old.laid c.push.ensures c.requires.kinds

pub returns-clause-under : goal.returns-clause-under
unfolding stack
returns-clause-under c = let old = c.args.self.now in put_under old.row c.push.new.self c.args.code old.laid c.push.ensures c.requires.kinds
