-- What is written of a whole script.
use Rattle.std.proofs.Common.{◌≡◌, ℕ, List, Option, Some, None, Result, Ok, Err, IfOk, IfSome, OnOk, ◌⊎◌, inl, inr, ◌∙◌}
use Rattle.std.specs.Io.KnownBytes.{Appends, Consumes}
use Rattle.pc_calls.specs.declared.limits.Profile.{Profile}
use Rattle.pc_script.specs.Scripts.{IsOutput, IsOutputUntil, IsWalked, IsWalkedUntil, Telling, notices_text}
use Rattle.pc_script.specs.Sessions.{IsAnsweredBy, IsAnsweredUntil, IsConversed, IsConversedUntil}
use Rattle.pc_script.specs.Text.{lines}
use Rattle.pc_script.specs.declared.command.Command.{Command}
use Rattle.pc_script.specs.declared.outcome.Outcome.{Outcome}
use Rattle.pc_script.specs.declared.outcome.ScriptFault.{ScriptFault}
use Rattle.pc_script.specs.declared.outcome.ScriptFault.TheVariants.{OutOfMemory, Write}
use Rattle.pc_script.specs.declared.session.Conversed.{Conversed}
use Rattle.pc_script.specs.declared.response.Response.{Response}
use Rattle.pc_script.proofs.Notices.{all_are, answers_are}
use Rattle.pc_explain.specs.Comments.{HasPrintedComments, without_comments}
use Rattle.pc_explain.specs.Inner.Writing.{Annotates}
use Rattle.pc_explain.proofs.Annotations.{comments_printed, without_comments_is}

-- what is told is written, with comments
abbrev Tells : {O : Type 0} → Telling O
Tells old before notices new after = Annotates (notices_text notices) before after

-- what was written has printed comments
printed_of : {plain : List ℕ} (before after : Option (List ℕ)) → Annotates plain before after
    → (written : List ℕ) × HasPrintedComments written × Appends before after written
printed_of before after h = (h.0, comments_printed h.1, h.2)

module _ {O : Type 0} (IsRun : Profile → List Command → List Response → Type 0) where
  explained_of : (text : List ℕ) (outcome : Outcome) (old new : O) (before after : Option (List ℕ)) → IsWalked Tells IsRun (lines text) outcome old before new after
      → (written : List ℕ) × IsOutput IsRun text outcome (without_comments written) × Appends before after written
  explained_of text outcome old new before after walked = (
    walked.told.0,
    record {
      version = walked.version;
      responses = walked.responses;
      runs = walked.runs;
      written = without_comments_is walked.told.1 ∙ all_are walked.version walked.responses outcome;
    },
    walked.told.2,
  )

  pub whole_explained : (known : Option (List ℕ)) (text : List ℕ) (old new : O) (before after : Option (List ℕ)) (answer : Result Outcome ScriptFault)
      → IfSome known (λ bytes. bytes ≡ text) → IfOk answer (λ outcome. IsWalked Tells IsRun (lines text) outcome old before new after)
      → IfOk answer (λ outcome. IfSome known (λ bytes. (written : List ℕ) × IsOutput IsRun bytes outcome (without_comments written) × Appends before after written))
  whole_explained known text old new before after (Err e) is walked = tt
  whole_explained None text old new before after (Ok outcome) is walked = tt
  whole_explained (Some bytes) text old new before after (Ok outcome) is walked =
      let told : IsWalked Tells IsRun (lines bytes) outcome old before new after = rw is walked in
      explained_of bytes outcome old new before after told

  pub whole_printed : (script : List (List ℕ)) (old new : O) (before after : Option (List ℕ)) (answer : Result Outcome ScriptFault)
      → IfOk answer (λ outcome. IsWalked Tells IsRun script outcome old before new after)
      → OnOk answer ((written : List ℕ) × HasPrintedComments written × Appends before after written)
  whole_printed script old new before after (Err e) walked = tt
  whole_printed script old new before after (Ok outcome) walked = printed_of before after walked.told

  pub until_explained : (RanOut : Profile → List Command → List Response → Command → Type 0) (known : Option (List ℕ)) (text : List ℕ) (old new : O)
      (before after : Option (List ℕ)) → IfSome known (λ bytes. bytes ≡ text)
      → (OutOfMemory ≡ Write) ⊎ IsWalkedUntil Tells IsRun RanOut (lines text) old before new after
      → IfSome known (λ bytes. (written : List ℕ) × IsOutputUntil IsRun RanOut bytes (without_comments written) × Appends before after written)
  until_explained RanOut None text old new before after is walked = tt
  until_explained RanOut (Some bytes) text old new before after is (inl other) = cc
  until_explained RanOut (Some bytes) text old new before after is (inr walked) =
      let told : IsWalkedUntil Tells IsRun RanOut (lines bytes) old before new after = rw is walked in (
        told.told.0,
        record {
          version = told.version;
          responses = told.responses;
          runs = told.runs;
          written = without_comments_is told.told.1 ∙ answers_are told.version told.responses;
        },
        told.told.2,
      )

  pub session_explained : (left rest : Option (List ℕ)) (whole : Conversed → Type 0) (old new : O) (before after : Option (List ℕ)) (answer : Result Conversed ScriptFault)
      → IfOk answer (λ conversed. (text : List ℕ) × Consumes left rest text × whole conversed × IsConversed Tells IsRun (lines text) conversed.had_fault old before new after)
      → IfOk answer (λ conversed. (text : List ℕ) × Consumes left rest text × whole conversed
      × ((written : List ℕ) × IsAnsweredBy IsRun text conversed.had_fault (without_comments written) × Appends before after written))
  session_explained left rest whole old new before after (Err e) told = tt
  session_explained left rest whole old new before after (Ok conversed) (text, read, end, told) = (
    text,
    read,
    end,
    (
      told.told.0,
      record { notices = told.notices; conversation = told.conversation; fault = told.fault; written = without_comments_is told.told.1 },
      told.told.2,
    ),
  )

  pub session_printed : (left rest : Option (List ℕ)) (whole : Conversed → Type 0) (old new : O) (before after : Option (List ℕ)) (answer : Result Conversed ScriptFault)
      → IfOk answer (λ conversed. (text : List ℕ) × Consumes left rest text × whole conversed × IsConversed Tells IsRun (lines text) conversed.had_fault old before new after)
      → OnOk answer ((written : List ℕ) × HasPrintedComments written × Appends before after written)
  session_printed left rest whole old new before after (Err e) told = tt
  session_printed left rest whole old new before after (Ok conversed) (text, read, end, told) = printed_of before after told.told

  pub session_until : (RanOut : Profile → List Command → List Response → Command → Type 0) (left rest : Option (List ℕ)) (old new : O) (before after : Option (List ℕ))
      → (OutOfMemory ≡ Write) ⊎ ((text : List ℕ) × Consumes left rest text × IsConversedUntil Tells IsRun RanOut (lines text) old before new after)
      → (text : List ℕ) × Consumes left rest text
      × ((written : List ℕ) × IsAnsweredUntil IsRun RanOut text (without_comments written) × Appends before after written)
  session_until RanOut left rest old new before after (inl other) = cc
  session_until RanOut left rest old new before after (inr (text, read, told)) = (
    text,
    read,
    (
      told.told.0,
      record { notices = told.notices; conversation = told.conversation; written = without_comments_is told.told.1 },
      told.told.2,
    ),
  )
