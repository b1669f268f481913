-- How an expression lies in its fields: its codes, and `none` up to the end.
use Rattle.std.specs.Prelude.{◌≡◌, ◌-◌, ◌++◌, length, take, replicate}
use Rattle.std.proofs.Common.{sym}
use Rattle.pc_rank.specs.Expressions.{Tree}
use Rattle.pc_rank.specs.Layout.{layout, built_of}
use Rattle.pc_rank.specs.Reading.{IsReadable}
use Rattle.pc_rank.specs.declared.code.Code.TheVariants as code
use Rattle.pc_rank.specs.declared.expression.Expression.TheInside.{Inside}

-- the expression of the codes that count
abbrev pub tree_in : Inside → Tree
tree_in fields = built_of (take fields.count fields.codes)

-- the fields of an expression
abbrev pub fields_of : Tree → Inside
fields_of a = record {
  codes = layout a ++ replicate (64 - length (layout a)) code.NoRank;
  count = length (layout a);
}

-- the fields are those of their expression, which is read from what is written of it
pub record IsLaid (fields : Inside) : Type 0 where
  pub codes : fields.codes ≡ layout (tree_in fields) ++ replicate (64 - length (layout (tree_in fields))) code.NoRank
  pub count : fields.count ≡ length (layout (tree_in fields))
  pub readable : IsReadable (tree_in fields)

-- so its fields are had again from it
pub fields_again : (a : Inside) → IsLaid a → fields_of (tree_in a) ≡ a
fields_again a laid = λ i. record { codes = sym laid.codes i; count = sym laid.count i }
