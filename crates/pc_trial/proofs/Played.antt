-- Runs that were played.
use Rattle.std.proofs.Common.{◌≡◌, ◌∙◌, ◌++◌, ◌∷◌, [], Bool, true, false, List, ℕ, map, ap, sym, subst, Contains, Vec, Global, bytes_eq, Result, Ok, Err, IfOk, None, Some, position, length, cond, ltb, ◌≤◌, arith}
use Rattle.std.proofs.lemmas.Slice.Eq.{bytes_eq-Decides}
use Rattle.std.specs.List.{AllZip, list_any}
use Rattle.std.specs.List.{position_or_len}
use Rattle.std.proofs.lemmas.Bool.Decides.{nat_tests}
use Rattle.std.proofs.lemmas.List.Folds.{list_any_at, list_any_none}
use Rattle.std.proofs.lemmas.List.Sums.{fails_before_first}
use Rattle.pc_table.proofs.Lists.{some_of}
use Rattle.pc_lab.specs.declared.fault.LabFault.{LabFault}
use Rattle.pc_lab.specs.declared.fault.LabFault.TheVariants as lab
use Rattle.pc_trial.specs.declared.fault.CompareFault.TheVariants.{NoVariant}
use Rattle.pc_load.specs.Variants.{Choice, choice_of}
use Rattle.pc_lab.specs.Heads.{head_text}
use Rattle.pc_lab.specs.Limits.{limits_for}
use Rattle.pc_lab.specs.Playing.{IsPlayedBy}
use Rattle.pc_lab.specs.Stages.{Holds}
use Rattle.pc_lab.specs.Texts.{body_text}
use Rattle.pc_lab.specs.declared.chronicle.Chronicle.TheVariants.{Script}
use Rattle.pc_lab.specs.declared.summary.Played.{Played}
use Rattle.pc_load.specs.Loads.{Demand}
use Rattle.pc_load.specs.declared.variant.Variant.{Variant}
use Rattle.pc_trial.specs.Comparing.{IsScript, fault_of, is_named}

-- two lists go on side by side
pub zip_push : {A B : Type 0} (R : A → B → Type 0) (xs : List A) (ys : List B) (x : A) (y : B) → AllZip R xs ys → R x y → AllZip R (xs ++ x ∷ []) (ys ++ y ∷ [])
zip_push R [] [] x y all one = (one, tt)
zip_push R [] (b ∷ ys) x y all one = absurd all
zip_push R (a ∷ xs) [] x y all one = absurd all
zip_push R (a ∷ xs) (b ∷ ys) x y all one = (all.0, zip_push R xs ys x y all.1 one)

-- a run that left a script has its head and the lines of its moments
pub scripted : (load : Demand) (variant : Variant) (before : List ℕ) (played : Played) (text : Vec ℕ Global)
    → IsPlayedBy load variant.policy variant.keep before played → played.chronicle ≡ Script text
    → before ≡ head_text (limits_for load) variant → IsScript load variant text.items
scripted load variant before played text is same head =
    let both : (is' : IsPlayedBy load variant.policy variant.keep before played) × (text.items ≡ before ++ body_text is'.moments) =
    (is, subst (λ chronicle. Holds before chronicle is.moments) same is.told) in
    let moved = subst (λ b. (is' : IsPlayedBy load variant.policy variant.keep b played) × (text.items ≡ b ++ body_text is'.moments)) head both in
    record { played = played; is_played = moved.0; told = moved.1 }

-- a variant that has the name is one of the choices that have it
pub some_named : (name : List ℕ) (variants : List Variant) (choices : List Choice) (variant : Variant) → map choice_of variants ≡ choices
    → Contains variants variant → bytes_eq variant.name.items name ≡ true → list_any (is_named name) choices ≡ true
some_named name variants choices variant chosen there named =
    let p : Variant → Bool = λ other. bytes_eq other.name.items name in
    ap (list_any (is_named name)) (sym chosen) ∙ some_of choice_of (is_named name) variants
    ∙ list_any_at p variants there.0 variant there.1 (ap p there.2 ∙ named)

-- where no variant has the name, no choice has it
pub none_named : (name : List ℕ) (variants : List Variant) (choices : List Choice) → map choice_of variants ≡ choices
    → list_any (λ variant. bytes_eq variant.name.items name) variants ≡ false → list_any (is_named name) choices ≡ false
none_named name variants choices chosen none =
    ap (list_any (is_named name)) (sym chosen) ∙ some_of choice_of (is_named name) variants ∙ none

-- no fault of the lab says that there is no variant
pub not_missing : (fault : LabFault) → fault_of fault ≡ NoVariant → ⊥
not_missing lab.OutOfMemory same = cc
not_missing lab.ScriptTooLong same = cc
not_missing lab.TooLong same = cc
not_missing lab.Unaccounted same = cc

-- bytes that are equal
pub same_bytes : (xs ys : List ℕ) → bytes_eq xs ys ≡ true → xs ≡ ys
same_bytes xs ys same = (bytes_eq-Decides xs ys).0 same

-- what has a name and what has not
pub missing : {X : Type 0} (bytes name : List ℕ) (choices : List Choice) → bytes ≡ name
    → list_any (is_named bytes) choices ≡ true → list_any (is_named name) choices ≡ false → X
missing bytes name choices same some none =
    let clash : true ≡ false = sym some ∙ ap (λ n. list_any (is_named n) choices) same ∙ none in cc

-- what is said of a value, where a result is that one
pub all_ok : {T E : Type 0} (P : T → Type 0) (result : Result T E) (value : T) → IfOk result (λ other. other ≡ value) → P value → IfOk result P
all_ok P (Ok other) value same holds = subst P (sym same) holds
all_ok P (Err fault) value same holds = tt

past_all : (a b : ℕ) → cond (ltb a b) (Some a) None ≡ None → b ≤ a
past_all a b none = grind (arith, nat_tests)

-- where none is found, none passes
pub none_there : {X : Type 0} (p : X → Bool) (xs : List X) → position p xs ≡ None → list_any p xs ≡ false
none_there p xs none =
    let past = past_all (position_or_len p xs) (length xs) none in
    list_any_none p xs (λ k d low. fails_before_first p xs k d (omega (arith, past, low)))
