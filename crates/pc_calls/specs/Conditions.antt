-- Of several conditions, the first that holds; and the refusal that a result is.
use Rattle.std.specs.Prelude.{Bool, List, [], ◌∷◌, Option, Some, None, Result, if◌then◌else◌}
use Rattle.std.specs.Result.{result_err}
use Rattle.pc_calls.specs.declared.refusal.Refusal.{Refusal}

-- what stands beside the first condition that holds
abbrev pub first_of : {X : Type 0} → List (Bool × X) → Option X
first_of [] = None
first_of (c ∷ cs) = if c.0 then Some c.1 else first_of cs

-- the refusal that a result is, none of an answer
abbrev pub refusal_in : {A : Type 0} → Result A Refusal → Option Refusal
refusal_in result = result_err result
