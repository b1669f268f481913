-- The codes of an expression are the first of its fields.
use Rattle.std.specs.Prelude.{◌≡◌, ◌-◌, ◌≤◌, List, ◌++◌, length, replicate, take}
use Rattle.std.proofs.Common.{ap, sym, subst, ◌∙◌, arith}
use Rattle.std.proofs.Math.Seq.{take-append_seam}
use Rattle.pc_rank.specs.Expressions.{Tree}
use Rattle.pc_rank.specs.Fields.{IsLaid, tree_in}
use Rattle.pc_rank.specs.Laid.{built_again}
use Rattle.pc_rank.specs.Layout.{layout, built_of}
use Rattle.pc_rank.specs.Reading.{IsReadable}
use Rattle.pc_rank.specs.declared.code.Code.{Code}
use Rattle.pc_rank.specs.declared.code.Code.TheVariants as code
use Rattle.pc_rank.specs.declared.expression.Expression.TheInside.{Inside}
use Rattle.pc_rank.proofs.Sizes.{length_layout}

pub laid_count : (fields : Inside) → IsLaid fields → fields.count ≤ 64
laid_count fields laid = omega (arith, laid.count, length_layout (tree_in fields), laid.readable.few)

-- the fields that hold the codes of an expression are of it
pub is_tree : (fields : Inside) (row : List Code) (a : Tree)
    → fields.codes ≡ row ++ replicate (64 - length row) code.NoRank → fields.count ≡ length row → row ≡ layout a
    → tree_in fields ≡ a
is_tree fields row a codes count is =
    ap built_of ((λ i. take (count i) (codes i)) ∙ take-append_seam row _ ∙ is) ∙ built_again a

pub is_laid : (fields : Inside) (row : List Code) (a : Tree)
    → fields.codes ≡ row ++ replicate (64 - length row) code.NoRank → fields.count ≡ length row → row ≡ layout a
    → IsReadable a → IsLaid fields
is_laid fields row a codes count is readable =
    let e : a ≡ tree_in fields = sym (is_tree fields row a codes count is) in record {
      codes = subst (λ t. fields.codes ≡ layout t ++ replicate (64 - length (layout t)) code.NoRank) e
          (codes ∙ ap (λ l. l ++ replicate (64 - length l) code.NoRank) is);
      count = subst (λ t. fields.count ≡ length (layout t)) e (count ∙ ap length is);
      readable = subst IsReadable e readable;
    }
