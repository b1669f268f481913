-- A wire that keeps what it took.
use Rattle.std.specs.Prelude.{◌+◌, ◌≡◌, true, false, List, [], ◌∷◌, ◌++◌, Result, Ok, Err}
use Rattle.pc_delta.specs.declared.part.Part.{Part}
use Rattle.pc_agent.specs.declared.kept_wire.KeptWire.{KeptWire}
use Rattle.pc_agent.specs.declared.wire.SendFault.{SendFault}
use Rattle.pc_agent.specs.declared.wire.SendFault.TheVariants.{OutOfMemory, WireFault}

-- what it took, in order
abbrev pub sent_by : KeptWire → List (List Part)
sent_by wire = wire.sent.items

-- a send puts the delta at the end; the wire refuses exactly while it is told to, and counts that; memory may run out
-- only where it does not, and also where the parts would be too many
abbrev pub Keeps : KeptWire → List Part → Result (Unit {0}) SendFault → KeptWire → Type 0
Keeps old delta (Ok done) new =
    (old.refuses ≡ false) × (sent_by new ≡ sent_by old ++ delta ∷ []) × (new.refuses ≡ old.refuses)
    × (new.faults ≡ old.faults)
Keeps old delta (Err WireFault) new =
    (old.refuses ≡ true) × (sent_by new ≡ sent_by old) × (new.refuses ≡ old.refuses) × (new.faults ≡ old.faults + 1)
Keeps old delta (Err OutOfMemory) new =
    (old.refuses ≡ false) × (sent_by new ≡ sent_by old) × (new.refuses ≡ old.refuses) × (new.faults ≡ old.faults)
