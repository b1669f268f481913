-- The text of notices, one after another.
use Rattle.std.proofs.Common.{◌≡◌, ℕ, List, [], ◌∷◌, ◌++◌, map, refl, sym, ap, ◌∙◌, subst, Option, Some, None, Result, Ok, Err, IfOk, IfSome, ◌⊎◌, inl, inr, append-nil}
use Rattle.std.specs.Io.KnownBytes.{Appends, append_known}
use Rattle.std.proofs.lemmas.Grind.{flat_map-append}
use Rattle.pc_calls.specs.declared.limits.Profile.{Profile}
use Rattle.pc_script.specs.Inner.Outputs.{output_held, waiting}
use Rattle.pc_script.specs.Responses.{response_text, text_line}
use Rattle.pc_script.specs.Scripts.{IsOutput, IsOutputUntil, IsRunOf, IsRunUntil, IsWalked, IsWalkedUntil, Telling, answered, notice_text, notices_text, opening_notices, outcome_notices, answer_notices, answers_text, responses_text, outcome_text}
use Rattle.pc_script.specs.Text.{lines}
use Rattle.pc_script.specs.Versions.{opening_text}
use Rattle.pc_script.specs.declared.command.Command.{Command}
use Rattle.pc_script.specs.declared.outcome.Outcome.{Outcome}
use Rattle.pc_script.specs.declared.outcome.Outcome.TheVariants.{Finished, FaultLine}
use Rattle.pc_script.specs.declared.outcome.ScriptFault.{ScriptFault}
use Rattle.pc_script.specs.declared.outcome.ScriptFault.TheVariants.{OutOfMemory, Write}
use Rattle.pc_script.specs.declared.response.Response.{Response}
use Rattle.pc_script.specs.declared.run.Replies.{Replies}
use Rattle.pc_script.specs.declared.version.Version.{Version}
use Rattle.pc_script.specs.declared.version.Version.TheVariants.{One, Two, Three}

-- ---- of a whole run

opening_is : (version : Version) → notices_text (opening_notices version) ≡ opening_text version
opening_is One = refl
opening_is Two = refl
opening_is Three = refl

outcome_is : (outcome : Outcome) → notices_text (outcome_notices outcome) ≡ outcome_text outcome
outcome_is Finished = refl
outcome_is (FaultLine number) = append-nil (outcome_text (FaultLine number))

responses_are : (responses : List Response) → notices_text (map answered responses) ≡ responses_text responses
responses_are [] = refl
responses_are (response ∷ responses) = ap (λ rest. text_line (response_text response) ++ rest) (responses_are responses)

pub answers_are : (version : Version) (responses : List Response) → notices_text (answer_notices version responses) ≡ answers_text version responses
answers_are version responses =
    flat_map-append notice_text (opening_notices version) (map answered responses)
    ∙ ap (λ front. front ++ notices_text (map answered responses)) (opening_is version)
    ∙ ap (λ rest. opening_text version ++ rest) (responses_are responses)

pub all_are : (version : Version) (responses : List Response) (outcome : Outcome)
    → notices_text (answer_notices version responses ++ outcome_notices outcome) ≡ answers_text version responses ++ outcome_text outcome
all_are version responses outcome =
    flat_map-append notice_text (answer_notices version responses) (outcome_notices outcome)
    ∙ ap (λ front. front ++ notices_text (outcome_notices outcome)) (answers_are version responses)
    ∙ ap (λ rest. answers_text version responses ++ rest) (outcome_is outcome)

-- ---- what waits, and is written at the end

pub written_out : (before now after : Option (List ℕ)) (first last told : List ℕ) → first ≡ [] → Appends (append_known before first) (append_known now last) told
    → Appends now after last → Appends before after told
written_out None now after first last told none h k = tt
written_out (Some xs) None after first last told none h k = absurd h
written_out (Some xs) (Some ys) None first last told none h k = absurd k
written_out (Some xs) (Some ys) (Some zs) first last told none h k =
    k ∙ h ∙ ap (λ w. xs ++ w ++ told) none ∙ ap (λ front. front ++ told) (append-nil xs)

-- what a walk was told is the output, once all of it is written
output_of : (IsRun : Profile → List Command → List Response → Type 0) (text first last : List ℕ) (outcome : Outcome) (before now after : Option (List ℕ))
    → first ≡ [] → (version : Version) (responses : List Response) → IsRunOf IsRun (lines text) outcome version responses
    → Appends (append_known before first) (append_known now last) (notices_text (answer_notices version responses ++ outcome_notices outcome))
    → Appends now after last → (output : List ℕ) × IsOutput IsRun text outcome output × Appends before after output
output_of IsRun text first last outcome before now after none version responses runs told out = (
  answers_text version responses ++ outcome_text outcome,
  record { version = version; responses = responses; runs = runs; written = refl },
  subst (Appends before after) (all_are version responses outcome) (written_out before now after first last _ none told out),
)

output_until_of : (IsRun : Profile → List Command → List Response → Type 0) (RanOut : Profile → List Command → List Response → Command → Type 0)
    (text first last : List ℕ) (before now after : Option (List ℕ)) → first ≡ [] → (version : Version) (responses : List Response)
    → IsRunUntil IsRun RanOut (lines text) version responses
    → Appends (append_known before first) (append_known now last) (notices_text (answer_notices version responses))
    → Appends now after last → (output : List ℕ) × IsOutputUntil IsRun RanOut text output × Appends before after output
output_until_of IsRun RanOut text first last before now after none version responses runs told out = (
  answers_text version responses,
  record { version = version; responses = responses; runs = runs; written = refl },
  subst (Appends before after) (answers_are version responses) (written_out before now after first last _ none told out),
)

-- the replies were told so, and then what waited was written
abbrev pub Tells : Telling Replies
Tells old before notices new after = Appends (output_held before old.output) (output_held after new.output) (notices_text notices)

pub whole_output : (IsRun : Profile → List Command → List Response → Type 0) (known : Option (List ℕ)) (text : List ℕ) (old new : Replies) (before now after : Option (List ℕ))
    (ended answer : Result Outcome ScriptFault) → IfSome known (λ bytes. bytes ≡ text) → waiting old.output.waiting ≡ []
    → IfOk ended (λ outcome. IsWalked Tells IsRun (lines text) outcome old before new now)
    → (answer ≡ ended) ⊎ (answer ≡ Err Write) → (answer ≡ Err Write) ⊎ Appends now after (waiting new.output.waiting)
    → IfOk answer (λ outcome. IfSome known (λ bytes. (output : List ℕ) × IsOutput IsRun bytes outcome output × Appends before after output))
whole_output IsRun known text old new before now after ended (Err e) is none walked same out = tt
whole_output IsRun None text old new before now after ended (Ok outcome) is none walked same out = tt
whole_output IsRun (Some bytes) text old new before now after (Ok ending) (Ok outcome) is none walked (inl same) (inr out) =
    let one : ending ≡ outcome = cc in
    let told : IsWalked Tells IsRun (lines bytes) outcome old before new now = rw (is, sym one) walked in
    output_of IsRun bytes _ _ outcome before now after none told.version told.responses told.runs told.told out
whole_output IsRun (Some bytes) text old new before now after (Err e) (Ok outcome) is none walked (inl same) out = cc
whole_output IsRun (Some bytes) text old new before now after ended (Ok outcome) is none walked (inr same) out = cc
whole_output IsRun (Some bytes) text old new before now after ended (Ok outcome) is none walked same (inl bad) = cc

ran_out : (IsRun : Profile → List Command → List Response → Type 0) (RanOut : Profile → List Command → List Response → Command → Type 0)
    (bytes text : List ℕ) (old new : Replies) (before now after : Option (List ℕ)) → bytes ≡ text → waiting old.output.waiting ≡ []
    → (OutOfMemory ≡ Write) ⊎ IsWalkedUntil Tells IsRun RanOut (lines text) old before new now → Appends now after (waiting new.output.waiting)
    → (output : List ℕ) × IsOutputUntil IsRun RanOut bytes output × Appends before after output
ran_out IsRun RanOut bytes text old new before now after is none (inl other) out = cc
ran_out IsRun RanOut bytes text old new before now after is none (inr walked) out =
    let told : IsWalkedUntil Tells IsRun RanOut (lines bytes) old before new now = rw is walked in
    output_until_of IsRun RanOut bytes _ _ before now after none told.version told.responses told.runs told.told out

pub until_output : (IsRun : Profile → List Command → List Response → Type 0) (RanOut : Profile → List Command → List Response → Command → Type 0)
    (known : Option (List ℕ)) (text : List ℕ) (old new : Replies) (before now after : Option (List ℕ)) (ended answer : Result Outcome ScriptFault)
    → IfSome known (λ bytes. bytes ≡ text) → waiting old.output.waiting ≡ []
    → (ended ≡ Err OutOfMemory → (OutOfMemory ≡ Write) ⊎ IsWalkedUntil Tells IsRun RanOut (lines text) old before new now)
    → (answer ≡ ended) ⊎ (answer ≡ Err Write) → (answer ≡ Err Write) ⊎ Appends now after (waiting new.output.waiting)
    → answer ≡ Err OutOfMemory
    → IfSome known (λ bytes. (output : List ℕ) × IsOutputUntil IsRun RanOut bytes output × Appends before after output)
until_output IsRun RanOut None text old new before now after ended answer is none walked same out memory = tt
until_output IsRun RanOut (Some bytes) text old new before now after ended answer is none walked (inr same) out memory = cc
until_output IsRun RanOut (Some bytes) text old new before now after ended answer is none walked same (inl bad) memory = cc
until_output IsRun RanOut (Some bytes) text old new before now after ended answer is none walked (inl same) (inr out) memory =
    ran_out IsRun RanOut bytes text old new before now after is none (walked (sym same ∙ memory)) out
