-- An expression is stored as its codes.
use Rattle.std.specs.Prelude.{List}
use Rattle.std.specs.Coded.{Coded, code_by, coded_list}
use Rattle.pc_rank.specs.Expressions.{Tree}
use Rattle.pc_rank.specs.Laid.{built_again}
use Rattle.pc_rank.specs.Layout.{layout, built_of}
use Rattle.pc_rank.specs.contracts.code.Code as row
use Rattle.pc_rank.specs.declared.code.Code.{Code}

-- the code of an expression is the list of its codes
abbrev pub tree_code : Coded Tree
tree_code = code_by (List Code) (coded_list row.the_row.coded) layout built_of (λ a. built_again a)
