use Rattle.pc_join.proofs.leaf.put_in.Goals as goal

pub returns-then-stands_at-clause-leaf : goal.returns-then-stands_at-clause-leaf
returns-then-stands_at-clause-leaf g c = λ k is leaf. c.join_at.ensures.leaf k leaf
