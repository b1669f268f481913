use Rattle.std.proofs.Common.{◌∙◌}
use Rattle.pc_rank.specs.Inner.Made.{stack}
use Rattle.pc_rank.proofs.Stacks.{alone_is}
use Rattle.pc_rank.proofs.reader.whole.Goals as goal

pub returns-in-empty-clause-alone : goal.returns-in-empty-clause-alone
returns-in-empty-clause-alone c =
    alone_is (stack c.rank_at.new.made) c.in_ok-rest.ensures.kind (c.in_ok-rest.ensures.under ∙ c.requires.none)
