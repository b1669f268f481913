-- What the first fault of parts can be, and what stands where there is no conflict.
use Rattle.std.proofs.Common.{ℕ, ◌≡◌, ◌==◌, nat_lt, ◌*◌, Bool, true, false, List, [], ◌∷◌, Option, Some, None, Result, Err, refl, ◌∙◌, subst}
use Rattle.std.specs.Option.{option_or}
use Rattle.pc_messages.specs.declared.message.TheConstants.{GREATEST_NUMBER}
use Rattle.pc_messages.specs.declared.kind.TheConstants.{MOST_TICKS}
use Rattle.pc_messages.specs.Run.{is_created}
use Rattle.pc_delta.specs.declared.part.Part.{Part}
use Rattle.pc_delta.specs.declared.part.Part.TheVariants.{One, Folded}
use Rattle.pc_delta.specs.declared.fault.DeltaFault.{DeltaFault}
use Rattle.pc_delta.specs.declared.fault.DeltaFault.TheVariants.{ZeroNumber, NumberTooLarge, CreatedMisplaced, RanTooLarge, OutOfMemory, Conflict}
use Rattle.pc_delta.specs.Faults.{first_fault, first_of, fault_of, is_misplaced, HasNoConflict}
use Rattle.pc_delta.specs.Inner.Places.{IsLeast}

-- a fault of one part
abbrev pub IsOfPart : DeltaFault → Type 0
IsOfPart ZeroNumber = Unit {0}
IsOfPart NumberTooLarge = Unit {0}
IsOfPart CreatedMisplaced = Unit {0}
IsOfPart RanTooLarge = Unit {0}
IsOfPart OutOfMemory = ⊥
IsOfPart (Conflict thread number) = ⊥

found : {f g : DeltaFault} → ◌≡◌ {A = Option DeltaFault} (Some f) (Some g) → IsOfPart f → IsOfPart g
found {f} {g} e h = subst IsOfPart (inside e) h
  where
    inside : {f g : DeltaFault} → ◌≡◌ {A = Option DeltaFault} (Some f) (Some g) → f ≡ g
    inside e = cc

of_three : (a b c : Bool) (f g h fault : DeltaFault) → IsOfPart f → IsOfPart g → IsOfPart h → first_of ((a, f) ∷ (b, g) ∷ (c, h) ∷ []) ≡ Some fault → IsOfPart fault
of_three true b c f g h fault x y z e = found e x
of_three false true c f g h fault x y z e = found e y
of_three false false true f g h fault x y z e = found e z
of_three false false false f g h fault x y z e = cc

of_part : (part : Part) (fault : DeltaFault) → fault_of part ≡ Some fault → IsOfPart fault
of_part (One m) fault e = of_three (m.number == 0) (nat_lt GREATEST_NUMBER m.number) (is_misplaced (is_created m.kind) m.number) ZeroNumber NumberTooLarge CreatedMisplaced fault tt tt tt e
of_part (Folded t u r) fault e = of_three (u == 0) (nat_lt GREATEST_NUMBER u) (nat_lt (u * MOST_TICKS) r.ran) ZeroNumber NumberTooLarge RanTooLarge fault tt tt tt e

by_first : (p : Part) (ps : List Part) (fault : DeltaFault) (o : Option DeltaFault) → fault_of p ≡ o → (first_fault ps ≡ Some fault → IsOfPart fault) → option_or o (first_fault ps) ≡ Some fault → IsOfPart fault
by_first p ps fault None g later e = later e
by_first p ps fault (Some found) g later e = of_part p fault (g ∙ e)

pub first_of_part : (parts : List Part) (fault : DeltaFault) → first_fault parts ≡ Some fault → IsOfPart fault
first_of_part [] fault e = cc
first_of_part (p ∷ ps) fault e = by_first p ps fault (fault_of p) refl (λ h. first_of_part ps fault h) e

inside_err : {T : Type 0} {f g : DeltaFault} → ◌≡◌ {A = Result T DeltaFault} (Err f) (Err g) → f ≡ g
inside_err e = cc

pub not_memory : {T : Type 0} (parts : List Part) (fault : DeltaFault) → first_fault parts ≡ Some fault → ◌≡◌ {A = Result T DeltaFault} (Err fault) (Err OutOfMemory) → ⊥
not_memory parts fault e same = subst IsOfPart (inside_err same) (first_of_part parts fault e)

pub not_conflict : {T : Type 0} (parts : List Part) (fault : DeltaFault) (thread number : ℕ) → first_fault parts ≡ Some fault → ◌≡◌ {A = Result T DeltaFault} (Err fault) (Err (Conflict thread number)) → ⊥
not_conflict parts fault thread number e same = subst IsOfPart (inside_err same) (first_of_part parts fault e)

pub none_found : (found : Option (ℕ × ℕ)) (given parts : List Part) → found ≡ None → given ≡ parts → IsLeast found given → HasNoConflict parts
none_found found given parts e same least = subst (λ ps. HasNoConflict ps) same (subst (λ o. IsLeast o given) e least)
