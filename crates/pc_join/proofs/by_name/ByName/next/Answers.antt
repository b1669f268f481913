use Rattle.std.proofs.Common.{subst, ℕ, ◌<◌, IsSome}
use Rattle.pc_join.specs.ByName.{value_at}
use Rattle.pc_join.specs.ByName.{IsLeastFrom, HasShortNames}
use Rattle.pc_join.proofs.Puts.{next_shown, none_shown}
use Rattle.pc_join.proofs.by_name.ByName.next.Goals as goal

pub returns-in-None : goal.returns-in-None
returns-in-None g c = record {
  least = none_shown c.self.inside.values c.args.self.now c.args.from c.self.view_is (subst (λ k. (name : ℕ) → IsSome (value_at c.self.inside.values name) → name < k) c.index.ensures c.in-None.ensures);
  short = subst (λ m. HasShortNames m) c.self.view_is c.self.invariant.1;
}

pub returns-in-Some : goal.returns-in-Some
returns-in-Some g c = record {
  least = next_shown c.self.inside.values c.args.self.now c.args.from c.in-Some.name c.self.view_is c.self.invariant.1 (subst (λ k. IsLeastFrom (value_at c.self.inside.values) k c.in-Some.name) c.index.ensures c.in-Some.ensures);
  short = subst (λ m. HasShortNames m) c.self.view_is c.self.invariant.1;
}
