use Rattle.std.proofs.Common.{◌<◌, List, length, take, subst, ◌∙◌, ◌+◌, ◌-◌, sym, ap, arith, drop, replicate}
use Rattle.std.proofs.lemmas.List.{drop-drop, drop-replicate, drop-set-lt, length-set, length-take}
use Rattle.pc_rank.specs.declared.code.Code.{Code}
use Rattle.pc_rank.specs.declared.code.Code.TheVariants as code
use Rattle.pc_rank.proofs.row.Row.push.Goals as goal

pub invariant_of-self : goal.invariant_of-self
invariant_of-self c =
    let old = c.self.inside in
    let room : length (take old.count old.codes) < 64 = subst (λ (l : List Code). length l < 64) (sym c.self.view_is) c.requires in record {
      within = omega (arith, room, length-take old.count old.codes, c.self.invariant.full, c.self.invariant.within);
      full = length-set old.codes c.from-index.result c.args.code ∙ c.self.invariant.full;
      rest = drop-set-lt (old.count + 1) old.codes c.from-index.result c.args.code (omega (arith, c.from-index.ensures))
          ∙ sym (drop-drop 1 old.count old.codes) ∙ ap (drop 1) c.self.invariant.rest
          ∙ drop-replicate 1 (64 - old.count) code.NoRank ∙ ap (λ n. replicate n code.NoRank) (omega arith);
    }
