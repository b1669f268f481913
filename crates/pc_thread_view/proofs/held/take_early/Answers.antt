use Rattle.pc_thread_view.proofs.Taking.{one_of_source}
use Rattle.pc_thread_view.proofs.held.take_early.Goals as goal

pub returns-in_ok-take_one-in-len1-clause-of_source : goal.returns-in_ok-take_one-in-len1-clause-of_source
returns-in_ok-take_one-in-len1-clause-of_source c = λ s a b. c.in_ok-take_one-in-len1.ensures.ok.of_source s a (one_of_source c.args.more.now c.one-item.result s c.in-len1.len_at_least c.in-len1.len_below c.one-item.is b)
