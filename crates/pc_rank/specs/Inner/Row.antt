-- Codes that grow lie at the front of an array.
use Rattle.std.specs.Prelude.{◌≡◌, ◌-◌, ◌≤◌, List, drop, length, replicate, take}
use Rattle.pc_rank.specs.declared.code.Code.{Code}
use Rattle.pc_rank.specs.declared.code.Code.TheVariants as code
use Rattle.pc_rank.specs.declared.row.Row.TheInside.{Inside}

-- those that count
abbrev pub codes_in : Inside → List Code
codes_in fields = take fields.count fields.codes

-- behind them is `none`
pub record IsRow (fields : Inside) : Type 0 where
  pub within : fields.count ≤ 64
  pub full : length fields.codes ≡ 64
  pub rest : drop fields.count fields.codes ≡ replicate (64 - fields.count) code.NoRank
