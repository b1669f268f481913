-- How a session ended, and what was written of it.
use Rattle.std.proofs.Common.{◌≡◌, ◌⊎◌, inl, inr, ℕ, Bool, true, false, List, Option, Result, Ok, Err, IfOk, refl}
use Rattle.std.specs.Io.KnownBytes.{Appends, Consumes, IsAtEnd, Keeps}
use Rattle.std.proofs.KnownBytes.{Appends-kept}
use Rattle.pc_script.specs.Sessions.{ConsumesMost, IsAnsweredBy, IsAnsweredUntil}
use Rattle.pc_script.specs.declared.outcome.ScriptFault.{ScriptFault}
use Rattle.pc_script.specs.declared.outcome.ScriptFault.TheVariants as fault
use Rattle.pc_script.specs.declared.session.Conversed.{Conversed}
use Rattle.pc_session.specs.Session.{IsSession, RanOut}
use Rattle.pc_program.specs.Endings.{ending_of_session}
use Rattle.pc_program.specs.Programs.{IsTalked}
use Rattle.pc_program.specs.declared.ending.Ending.{Ending}
use Rattle.pc_program.specs.declared.ending.Ending.TheVariants.{Finished, FaultLine, DrawnToFault, CannotRead}
use Rattle.pc_program.specs.declared.ending.Ending.TheVariants.{BadCommandLine, OutOfMemory, Settings, Run, CannotStart}
use Rattle.pc_program.specs.declared.ending.Ending.TheVariants.{NothingToDraw}
use Rattle.pc_program.specs.declared.ending.Failure.TheVariants as failure

module _ (plain : List ℕ → List ℕ) (left rest old new : Option (List ℕ)) where
  -- what is said of a session that memory sufficed for, and of another
  abbrev Answered : Conversed → Type 0
  Answered conversed = (text : List ℕ) × Consumes left rest text × (conversed.is_whole ≡ true → IsAtEnd rest)
      × ((written : List ℕ) × IsAnsweredBy IsSession text conversed.had_fault (plain written) × Appends old new written)

  abbrev Until : Type 0
  Until = (text : List ℕ) × Consumes left rest text × ((written : List ℕ) × IsAnsweredUntil IsSession RanOut text (plain written) × Appends old new written)

  ended_so : (had_fault is_whole : Bool) → Answered (record { had_fault = had_fault; is_whole = is_whole })
      → IsTalked plain left rest old new (ending_of_session (Ok (record { had_fault = had_fault; is_whole = is_whole })))
  ended_so true true (text, read, end, written) = (end refl, (text, read, written))
  ended_so false true (text, read, end, written) = (end refl, (text, read, written))
  ended_so had_fault false (text, read, end, written) = (had_fault, (text, read, written))

  pub talked : (answer : Result Conversed ScriptFault) → IfOk answer Answered → (answer ≡ Err fault.OutOfMemory → Until) → (answer ≡ Err fault.TooLong → ConsumesMost left rest)
      → ((why : ScriptFault) → answer ≡ Err why → (why ≡ fault.OutOfMemory) ⊎ (why ≡ fault.Write) ⊎ (why ≡ fault.TooLong))
      → IsTalked plain left rest old new (ending_of_session answer)
  talked (Ok conversed) whole until most only = ended_so conversed.had_fault conversed.is_whole whole
  talked (Err fault.OutOfMemory) whole until most only = until refl
  talked (Err fault.Write) whole until most only = tt
  talked (Err fault.TooLong) whole until most only = most refl
  talked (Err fault.Read) whole until most only =
      let not_so : ⊥ = elim (only fault.Read refl) [ inl e ↦ cc | inr others ↦ elim others [ inl e ↦ cc | inr e ↦ cc ] ] in absurd not_so

-- what was written is kept by a flush
kept_talk : (plain : List ℕ → List ℕ) (left rest old mid new : Option (List ℕ)) (ending : Ending) → IsTalked plain left rest old mid ending → Keeps mid new
    → IsTalked plain left rest old new ending
kept_talk plain left rest old mid new Finished (end, (text, read, (written, is, put))) kept =
    (end, (text, read, (written, is, Appends-kept old mid new written put kept)))
kept_talk plain left rest old mid new FaultLine (end, (text, read, (written, is, put))) kept =
    (end, (text, read, (written, is, Appends-kept old mid new written put kept)))
kept_talk plain left rest old mid new (CannotRead failure.Read) (had_fault, (text, read, (written, is, put))) kept =
    (had_fault, (text, read, (written, is, Appends-kept old mid new written put kept)))
kept_talk plain left rest old mid new OutOfMemory (text, read, (written, is, put)) kept =
    (text, read, (written, is, Appends-kept old mid new written put kept))
kept_talk plain left rest old mid new (CannotRead failure.TooLong) talk kept = talk
kept_talk plain left rest old mid new (CannotRead failure.Write) talk kept = tt
kept_talk plain left rest old mid new (CannotRead failure.NotUtf8) talk kept = absurd talk
kept_talk plain left rest old mid new (DrawnToFault line) talk kept = absurd talk
kept_talk plain left rest old mid new (NothingToDraw missing) talk kept = absurd talk
kept_talk plain left rest old mid new BadCommandLine talk kept = absurd talk
kept_talk plain left rest old mid new (Settings bad) talk kept = absurd talk
kept_talk plain left rest old mid new (Run why) talk kept = absurd talk
kept_talk plain left rest old mid new CannotStart talk kept = absurd talk

-- and its fault is told before all else
pub talked_kept : (plain : List ℕ → List ℕ) (left rest old mid new : Option (List ℕ)) (ending answer : Ending) → IsTalked plain left rest old mid ending → Keeps mid new
    → (answer ≡ CannotRead failure.Write) ⊎ (answer ≡ ending) → IsTalked plain left rest old new answer
talked_kept plain left rest old mid new ending answer talk kept (inl failed) = rw failed tt
talked_kept plain left rest old mid new ending answer talk kept (inr same) =
    rw same (kept_talk plain left rest old mid new ending talk kept)
