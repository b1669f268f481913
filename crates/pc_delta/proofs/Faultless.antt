-- What parts without a fault are.
use Rattle.std.proofs.Common.{ℕ, ◌*◌, ◌≤◌, ◌≡◌, ◌==◌, ◌↔◌, nat_lt, Bool, true, false, not, IsTrue, List, [], ◌∷◌, Option, Some, None, refl, sym, ap, ◌∙◌, arith}
use Rattle.std.specs.List.{All}
use Rattle.std.specs.Option.{option_or}
use Rattle.std.proofs.lemmas.Bool.{false≢true}
use Rattle.std.proofs.lemmas.Bool.Decides.{nat_tests}
use Rattle.pc_messages.specs.declared.message.TheConstants.{GREATEST_NUMBER}
use Rattle.pc_messages.specs.declared.kind.TheConstants.{MOST_TICKS}
use Rattle.pc_messages.specs.declared.message.Message.{Message}
use Rattle.pc_messages.specs.declared.reported.Reported.{Reported}
use Rattle.pc_messages.specs.Run.{IsWellFormed, is_created}
use Rattle.pc_delta.specs.declared.part.Part.{Part}
use Rattle.pc_delta.specs.declared.part.Part.TheVariants.{One, Folded}
use Rattle.pc_delta.specs.declared.fault.DeltaFault.{DeltaFault}
use Rattle.pc_delta.specs.declared.fault.DeltaFault.TheVariants.{ZeroNumber, NumberTooLarge, CreatedMisplaced, RanTooLarge}
use Rattle.pc_delta.specs.Faults.{first_fault, first_of, fault_of, is_misplaced, IsPossiblePrefix}
use Rattle.pc_delta.proofs.Lists.{all_none, all_first, all_rest, all_cons}

-- no test of three holds
none_holds : (a b c : Bool) (f g h : DeltaFault) → first_of ((a, f) ∷ (b, g) ∷ (c, h) ∷ []) ≡ None → (a ≡ false) × (b ≡ false) × (c ≡ false)
none_holds true b c f g h e = cc
none_holds false true c f g h e = cc
none_holds false false true f g h e = cc
none_holds false false false f g h e = (refl, refl, refl)

positive : (n : ℕ) → (n == 0) ≡ false → 1 ≤ n
positive n e = grind (arith, nat_tests)

not_zero : (n : ℕ) → 1 ≤ n → (n == 0) ≡ false
not_zero n h = grind (arith, nat_tests)

at_most : (a b : ℕ) → nat_lt a b ≡ false → b ≤ a
at_most a b e = grind (arith, nat_tests)

not_above : (a b : ℕ) → b ≤ a → nat_lt a b ≡ false
not_above a b h = grind (arith, nat_tests)

equal : (a b : ℕ) → (a == b) ≡ true → a ≡ b
equal a b e = grind (arith, nat_tests)

other : (a b : ℕ) → ¬ (a ≡ b) → (a == b) ≡ false
other a b h = grind (arith, nat_tests)

itself : (a b : ℕ) → a ≡ b → (a == b) ≡ true
itself a b h = grind (arith, nat_tests)

placed : (created : Bool) (n : ℕ) → is_misplaced created n ≡ false → IsTrue created ↔ (n ≡ 1)
placed true n e = (λ t. equal n 1 (not_false (n == 1) e), λ h. refl)
  where
    not_false : (b : Bool) → not b ≡ false → b ≡ true
    not_false true e = refl
    not_false false e = absurd (false≢true (sym e))
placed false n e = (λ t. absurd (false≢true t), λ h. absurd (false≢true (sym e ∙ itself n 1 h)))

not_misplaced : (created : Bool) (n : ℕ) → IsTrue created ↔ (n ≡ 1) → is_misplaced created n ≡ false
not_misplaced true n h = ap not (itself n 1 (h.0 refl))
not_misplaced false n h = other n 1 (λ e. false≢true (h.1 e))

pub message_faultless : (message : Message) → fault_of (One message) ≡ None ↔ IsWellFormed message.number message.kind
message_faultless m = (
  λ e.
      let tests = none_holds (m.number == 0) (nat_lt GREATEST_NUMBER m.number) (is_misplaced (is_created m.kind) m.number) ZeroNumber NumberTooLarge CreatedMisplaced e in
      record { from_one = positive m.number tests.0; greatest = at_most GREATEST_NUMBER m.number tests.1; created = placed (is_created m.kind) m.number tests.2 },
  λ w. λ i. first_of ((not_zero m.number w.from_one i, ZeroNumber) ∷ (not_above GREATEST_NUMBER m.number w.greatest i, NumberTooLarge) ∷ (not_misplaced (is_created m.kind) m.number w.created i, CreatedMisplaced) ∷ []),
)

pub prefix_faultless : (thread upto : ℕ) (reported : Reported) → fault_of (Folded thread upto reported) ≡ None ↔ IsPossiblePrefix upto reported
prefix_faultless t u r = (
  λ e.
      let tests = none_holds (u == 0) (nat_lt GREATEST_NUMBER u) (nat_lt (u * MOST_TICKS) r.ran) ZeroNumber NumberTooLarge RanTooLarge e in
      record { positive = positive u tests.0; greatest = at_most GREATEST_NUMBER u tests.1; ran = at_most (u * MOST_TICKS) r.ran tests.2 },
  λ w. λ i. first_of ((not_zero u w.positive i, ZeroNumber) ∷ (not_above GREATEST_NUMBER u w.greatest i, NumberTooLarge) ∷ (not_above (u * MOST_TICKS) r.ran w.ran i, RanTooLarge) ∷ []),
)

or_first : (a b : Option DeltaFault) → option_or a b ≡ None → (a ≡ None) × (b ≡ None)
or_first None b h = (refl, h)
or_first (Some x) b h = cc

all_from : (parts : List Part) → first_fault parts ≡ None → All (λ part. fault_of part ≡ None) parts
all_from [] e = all_none (λ part. fault_of part ≡ None)
all_from (p ∷ ps) e =
    let both = or_first (fault_of p) (first_fault ps) e in
    all_cons (λ part. fault_of part ≡ None) p ps both.0 (all_from ps both.1)

all_to : (parts : List Part) → All (λ part. fault_of part ≡ None) parts → first_fault parts ≡ None
all_to [] all = refl
all_to (p ∷ ps) all =
    let here : fault_of p ≡ None = all_first (λ part. fault_of part ≡ None) p ps all in
    let rest : first_fault ps ≡ None = all_to ps (all_rest (λ part. fault_of part ≡ None) p ps all) in
    λ i. option_or (here i) (rest i)

pub all_faultless : (parts : List Part) → first_fault parts ≡ None ↔ All (λ part. fault_of part ≡ None) parts
all_faultless parts = (all_from parts, all_to parts)
