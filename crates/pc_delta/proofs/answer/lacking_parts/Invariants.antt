use Rattle.std.proofs.Common.{◌++◌}
use Rattle.pc_delta.proofs.Useful.{IsAnswering}
use Rattle.pc_delta.proofs.answer.lacking_parts.Given as goal

-- the threads behind those of near names are left too
abbrev pub invariant-near : goal.invariant-near
invariant-near g l = IsAnswering l.view (g.A.Asker.members l.asker) (l.thread-iterator ++ l.far) l.parts.items

abbrev pub invariant-far : goal.invariant-far
invariant-far g l = IsAnswering l.view (g.A.Asker.members l.asker) l.thread-iterator l.parts.items
