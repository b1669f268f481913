use Rattle.std.proofs.Common.{◌∙◌, sym, subst, refl}
use Rattle.std.proofs.lemmas.Bool.{false≢true}
use Rattle.pc_join.specs.ByName.{known_in, value_at}
use Rattle.pc_join.specs.Sets.{IsWithin}
use Rattle.pc_join.proofs.Names.{found_all, covering_start, covering_on, covering_done, covering_found, covered_at}
use Rattle.pc_join.proofs.by_name.covers_all.Goals as goal

pub loop-name-init : goal.loop-name-init
loop-name-init g c = covering_start g.V.Join.known (value_at c.args.values.now) c.args.other.now c.into_iter-name-iterator.result (c.into_iter-name-iterator.ensures.into_iter_gives ∙ c.iter-name-items.ensures.entries) (found_all 0 c.args.other.now c.iter-name-items.ensures.ascend)

pub returns-then-not-covers_at : goal.returns-then-not-covers_at
returns-then-not-covers_at g c =
    let here = covering_found g.V.Join.known (value_at c.args.values.now) (value_at c.args.other.now) c.loop-name.name-iterator c.next.new.self c.in-Some.name c.in-Some.value.now c.in-Some.ensures.steps c.loop-name.invariant in
    (λ e. absurd (false≢true e), λ all. absurd (false≢true (sym c.if-not-covers_at.true ∙ c.covers_at.ensures.not_covered (c.requires c.in-Some.name c.in-Some.value.now here) (subst (λ k. IsWithin (g.V.Join.known c.in-Some.value.now) (known_in g.V.Join.known (value_at c.args.values.now k))) (sym c.index.ensures) (covered_at g.V.Join.known (value_at c.args.values.now) (value_at c.args.other.now) c.in-Some.name c.in-Some.value.now here all)))))

pub loop-name-preserved : goal.loop-name-preserved
loop-name-preserved g c = covering_on g.V.Join.known (value_at c.args.values.now) (value_at c.args.other.now) c.loop-name.name-iterator c.next.new.self c.in-Some.name c.in-Some.value.now c.in-Some.ensures.steps c.loop-name.invariant (subst (λ k. IsWithin (g.V.Join.known c.in-Some.value.now) (known_in g.V.Join.known (value_at c.args.values.now k))) c.index.ensures (c.covers_at.ensures.covered c.if-not-covers_at.false))

pub returns : goal.returns
returns g c = (λ e. covering_done g.V.Join.known (value_at c.args.values.now) (value_at c.args.other.now) c.loop-name.name-iterator c.in-None.ensures.steps.0 c.loop-name.invariant, λ all. refl)
