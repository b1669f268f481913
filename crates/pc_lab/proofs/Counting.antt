-- One moment more is counted.
use Rattle.std.proofs.Common.{◌≡◌, ◌++◌, ◌+◌, ◌∷◌, [], List, if◌then◌else◌, ◌∙◌, arith}
use Rattle.pc_lab.specs.declared.counted.Counted.{Counted}
use Rattle.pc_lab.specs.Counting.{count_of, counted_as, is_counted}
use Rattle.pc_lab.specs.Moments.{Moment}
use Rattle.std.proofs.lemmas.List.Sums.{sum_by-append}

pub one_more : (what : Counted) (moments : List Moment) (moment : Moment)
    → count_of what (moments ++ moment ∷ []) ≡ count_of what moments + (if is_counted what (counted_as moment.event moment.reply) then 1 else 0)
one_more what moments moment =
    sum_by-append (λ given. if is_counted what (counted_as given.event given.reply) then 1 else 0) moments (moment ∷ []) ∙ omega arith
