-- The deltas that were sent.
use Rattle.std.proofs.Common.{◌≡◌, ℕ, zero, suc, List, [], ◌∷◌, ◌++◌, length, Some, None, slice_get, refl, ap, subst}
use Rattle.pc_messages.specs.Run.{Run}
use Rattle.pc_delta.specs.declared.part.Part.{Part}
use Rattle.pc_delta.specs.Parts.{AreOfRun}
use Rattle.pc_agent.specs.PlainAgent.{Set}
use Rattle.pc_agent.specs.Shows.{ShowsDelta}
use Rattle.pc_world.specs.Shows.{AreSent}

-- the deltas that were sent
pub sent_length : (run : Run) (sets : List Set) (deltas : List (List Part)) → AreSent run sets deltas → length deltas ≡ length sets
sent_length run [] [] h = refl
sent_length run [] (d ∷ ds) h = absurd h
sent_length run (s ∷ ss) [] h = absurd h
sent_length run (s ∷ ss) (d ∷ ds) h = ap suc (sent_length run ss ds h.1)

pub sent_more : (run : Run) (sets : List Set) (deltas : List (List Part)) (set : Set) (delta : List Part) → AreSent run sets deltas → ShowsDelta run set delta → AreSent run (sets ++ set ∷ []) (deltas ++ delta ∷ [])
sent_more run [] [] set delta h one = (one, tt)
sent_more run [] (d ∷ ds) set delta h one = absurd h
sent_more run (s ∷ ss) [] set delta h one = absurd h
sent_more run (s ∷ ss) (d ∷ ds) set delta h one = (h.0, sent_more run ss ds set delta h.1 one)

pub sent_stays : (run longer : Run) (sets : List Set) (deltas : List (List Part)) → ((parts : List Part) → AreOfRun run parts → AreOfRun longer parts) → AreSent run sets deltas → AreSent longer sets deltas
sent_stays run longer [] [] stays h = tt
sent_stays run longer [] (d ∷ ds) stays h = absurd h
sent_stays run longer (s ∷ ss) [] stays h = absurd h
sent_stays run longer (s ∷ ss) (d ∷ ds) stays h = (record { of_run = stays d h.0.of_run; told = h.0.told }, sent_stays run longer ss ds stays h.1)

-- the delta with an index
pub sent_at : (run : Run) (sets : List Set) (deltas : List (List Part)) (k : ℕ) (delta : List Part) → AreSent run sets deltas → slice_get deltas k ≡ Some delta
    → (set : Set) × (slice_get sets k ≡ Some set) × ShowsDelta run set delta
sent_at run [] [] k delta h e = cc
sent_at run [] (d ∷ ds) k delta h e = absurd h
sent_at run (s ∷ ss) [] k delta h e = absurd h
sent_at run (s ∷ ss) (d ∷ ds) zero delta h e = (s, refl, subst (ShowsDelta run s) (let same : d ≡ delta = cc in same) h.0)
sent_at run (s ∷ ss) (d ∷ ds) (suc k) delta h e = sent_at run ss ds k delta h.1 e

pub sent_none : (run : Run) (sets : List Set) (deltas : List (List Part)) (k : ℕ) → AreSent run sets deltas → slice_get deltas k ≡ None → slice_get sets k ≡ None
sent_none run [] [] k h e = refl
sent_none run [] (d ∷ ds) k h e = absurd h
sent_none run (s ∷ ss) [] k h e = absurd h
sent_none run (s ∷ ss) (d ∷ ds) zero h e = cc
sent_none run (s ∷ ss) (d ∷ ds) (suc k) h e = sent_none run ss ds k h.1 e
