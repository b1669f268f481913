-- Parts worked by hand: the first fault of lists, and the pairs that parts tell.
use Rattle.std.specs.Prelude.{ℕ, ◌≡◌, false, true, [], ◌∷◌, Some, None}
use Rattle.pc_messages.specs.declared.kind.Kind.{Kind}
use Rattle.pc_messages.specs.declared.kind.Kind.TheVariants.{Created, Blocked, Wakeup}
use Rattle.pc_messages.specs.declared.reported.Phase.TheVariants as phase
use Rattle.pc_delta.specs.declared.part.Part.{Part}
use Rattle.pc_delta.specs.declared.part.Part.TheVariants.{One, Folded}
use Rattle.pc_delta.specs.declared.fault.DeltaFault.TheVariants.{ZeroNumber, NumberTooLarge, CreatedMisplaced}
use Rattle.pc_delta.specs.declared.fault.DeltaFault.TheVariants.{RanTooLarge}
use Rattle.pc_delta.specs.Faults.{first_fault, place_of}
use Rattle.pc_delta.specs.Parts.{pairs_of_parts}

-- a message of t0
abbrev pub one : ℕ → Kind → Part
one number kind = One (record { thread = 0; number = number; kind = kind })

-- the first messages of t0, which is blocked with mask 3
abbrev pub folded : ℕ → ℕ → Part
folded upto ran = Folded 0 upto (record { phase = phase.Blocked; mask = 3; ran = ran; level = 0 })

-- no parts have no fault
abbrev pub NoParts : Type 0
NoParts = first_fault [] ≡ None

-- numbers of messages and prefixes are 1 to 16,000,000
abbrev pub Numbers : Type 0
Numbers = (first_fault (folded 0 0 ∷ []) ≡ Some ZeroNumber)
    × (first_fault (folded 16000001 0 ∷ []) ≡ Some NumberTooLarge)
    × (first_fault (folded 16000000 0 ∷ []) ≡ None)
    × (first_fault (one 0 Wakeup ∷ []) ≡ Some ZeroNumber)
    × (first_fault (one 16000000 Wakeup ∷ []) ≡ None)
    × (first_fault (one 16000001 Wakeup ∷ []) ≡ Some NumberTooLarge)

-- the first message is a Created, and no other is
abbrev pub Misplaced : Type 0
Misplaced = (first_fault (one 2 (Created true 3) ∷ []) ≡ Some CreatedMisplaced)
    × (first_fault (one 1 Wakeup ∷ []) ≡ Some CreatedMisplaced)
    × (first_fault (one 1 (Created false 3) ∷ []) ≡ None)

-- the ticks of one message of a prefix are below 2 ^ 32
abbrev pub Ran : Type 0
Ran = (first_fault (folded 1 4294967296 ∷ []) ≡ Some RanTooLarge) × (first_fault (folded 1 4294967295 ∷ []) ≡ None)

-- the first part that has a fault decides, and in it the first test
abbrev pub FirstPart : Type 0
FirstPart = (first_fault (folded 1 4294967296 ∷ one 0 Wakeup ∷ []) ≡ Some RanTooLarge)
    × (first_fault (one 2 Wakeup ∷ one 0 Wakeup ∷ folded 1 4294967296 ∷ []) ≡ Some ZeroNumber)

-- two messages with one number belong together, and a message does not belong with a folded part
abbrev pub Places : Type 0
Places = (place_of (one 2 Wakeup) ≡ place_of (one 2 (Blocked 1)))
    × (place_of (one 2 Wakeup) ≡ (0, 2, false))
    × (place_of (folded 2 1) ≡ (0, 2, true))

-- the pairs that parts tell, in order and with repeats
abbrev pub Pairs : Type 0
Pairs = (pairs_of_parts (one 2 Wakeup ∷ folded 1 0 ∷ one 2 Wakeup ∷ []) ≡ (0, 2) ∷ (0, 1) ∷ (0, 2) ∷ [])
    × (pairs_of_parts (folded 3 0 ∷ []) ≡ (0, 1) ∷ (0, 2) ∷ (0, 3) ∷ [])
