use Rattle.std.proofs.Common.{sym, subst, IsPermutation}
use Rattle.std.specs.List.Sorted.{IsNonDecreasing}
use Rattle.std.proofs.lemmas.List.Sorted.{IsNonDecreasingBy-from_sort}
use Rattle.pc_table.proofs.figures.figures_among.Goals as goal

pub figures_in-requires : goal.figures_in-requires
figures_in-requires c = subst IsNonDecreasing (sym c.as_slice.ensures.value) (IsNonDecreasingBy-from_sort (λ x. x) c.sort_unstable.new.self.items c.sort_unstable.ensures.sorted)

pub returns : goal.returns
returns c = c.figures_in.ensures c.args.ticks.items (subst (IsPermutation c.args.ticks.items) (sym c.as_slice.ensures.value) c.sort_unstable.ensures.permutation)
