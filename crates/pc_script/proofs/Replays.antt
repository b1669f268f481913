-- A session without a fault is a replay.
use Rattle.std.proofs.Common.{◌≡◌, ◌∙◌, ◌⊎◌, inl, inr, ℕ, false, List, [], ◌∷◌, ◌++◌, Option, Some, None, Result, Ok, Err, OnOk, take, map, refl, sym, ap, subst, append-nil}
use Rattle.std.proofs.lemmas.Bool.{true≢false}
use Rattle.std.specs.Io.KnownBytes.{Appends, Consumes, append_known}
use Rattle.std.proofs.KnownBytes.{Appends-nil}
use Rattle.pc_calls.specs.declared.limits.Profile.{Profile}
use Rattle.pc_script.specs.Scripts.{IsOutput, Notice, Script, answered, answers_text, notices_text, opening_notices}
use Rattle.pc_script.specs.Scripts as script
use Rattle.pc_script.specs.Sessions.{AsksNoHelp, Begins, Conversation, IsAnsweredUntil, IsConversation, IsConversedUntil, has_fault}
use Rattle.pc_script.specs.Sessions as session
use Rattle.pc_script.specs.Text.{lines}
use Rattle.pc_script.specs.Versions.{Names, Opens}
use Rattle.pc_script.specs.Versions as opens
use Rattle.pc_script.specs.declared.command.Command.{Command}
use Rattle.pc_script.specs.declared.outcome.Outcome.TheVariants.{Finished}
use Rattle.pc_script.specs.declared.response.Response.{Response}
use Rattle.pc_script.specs.declared.version.Version.{Version}
use Rattle.pc_script.specs.declared.version.Version.TheVariants.{One, Two, Three}
use Rattle.pc_script.specs.Inner.Outputs.{waiting}
use Rattle.pc_script.specs.declared.outcome.ScriptFault.TheVariants.{OutOfMemory, Write}
use Rattle.pc_script.specs.declared.output.Waiting.{Waiting}
use Rattle.pc_script.specs.declared.run.Replies.{Replies}
use Rattle.pc_script.proofs.Notices.{Tells, answers_are, written_out}

asked_in : {version : Version} {number : ℕ} {rest : List (List ℕ)} {commands : List Command} {responses : List Response} {told : List Notice}
    → Conversation version number rest commands responses told → has_fault told ≡ false → AsksNoHelp rest
    → Script version number rest commands Finished × (told ≡ map answered responses)
asked_in session.Conversation.at_end fine no_help = (script.at_end, refl)
asked_in (session.Conversation.silent (short, inl none) more) fine no_help = let r = asked_in more fine no_help.1 in (script.no_reply none r.0, r.1)
asked_in (session.Conversation.silent (short, inr help) more) fine no_help = absurd (no_help.0 help)
asked_in (session.Conversation.command {response = response} short asks more) fine no_help =
    let r = asked_in more fine no_help.1 in (script.command asks r.0, ap (λ ns. answered response ∷ ns) r.1)
asked_in (session.Conversation.fault bad more) fine no_help = absurd (true≢false fine)

-- the first line that is answered has a reply
first_speaks : {number : ℕ} {line : List ℕ} {more : List (List ℕ)} {commands : List Command} {responses : List Response} {told : List Notice}
    → Conversation One number (line ∷ more) commands responses told → has_fault told ≡ false
    → (session.IsSilent line → ⊥) → (session.IsShort line → (any : Version) → Names any line → ⊥)
    → Opens One 0 (line ∷ more) (line ∷ more)
first_speaks (session.Conversation.silent h more) fine speaks no_name = absurd (speaks h)
first_speaks (session.Conversation.command short asks more) fine speaks no_name = opens.unnamed (λ none. speaks (short, inl none)) (no_name short)
first_speaks (session.Conversation.fault bad more) fine speaks no_name = absurd (true≢false fine)

opens_in : {version : Version} {passed number : ℕ} {rest all : List (List ℕ)} {commands : List Command} {responses : List Response} {told : List Notice}
    → Begins version passed rest all → AsksNoHelp all → Conversation version number rest commands responses told → has_fault told ≡ false
    → Opens version passed rest all × AsksNoHelp rest
opens_in (session.Begins.silent (short, inl none) more) no_help asks fine =
    let r = opens_in more no_help.1 asks fine in (opens.no_reply none r.0, r.1)
opens_in (session.Begins.silent (short, inr help) more) no_help asks fine = absurd (no_help.0 help)
opens_in (session.Begins.named short is) no_help asks fine = (opens.named is, no_help.1)
opens_in (session.Begins.unnamed speaks no_name) no_help asks fine = (first_speaks asks fine speaks no_name, no_help)
opens_in session.Begins.at_end no_help asks fine = (opens.at_end, tt)

told_fine : (version : Version) (told : List Notice) → has_fault (opening_notices version ++ told) ≡ has_fault told
told_fine One told = refl
told_fine Two told = refl
told_fine Three told = refl

pub replayed : (IsRun : Profile → List Command → List Response → Type 0) (text : List ℕ) (notices : List Notice) → has_fault notices ≡ false → AsksNoHelp (lines text)
    → IsConversation IsRun (lines text) notices → IsOutput IsRun text Finished (notices_text notices)
replayed IsRun text notices fine no_help talk =
    let told_is : has_fault talk.told ≡ false = sym (told_fine talk.version talk.told) ∙ ap has_fault (sym talk.whole) ∙ fine in
    let begins = opens_in talk.begins no_help talk.asks told_is in
    let asks = asked_in talk.asks told_is begins.1 in
    record {
      version = talk.version;
      responses = talk.responses;
      runs = record {
        passed = talk.passed;
        rest = talk.rest;
        commands = talk.commands;
        opens = begins.0;
        asks = asks.0;
        run = talk.run;
      };
      written = ap notices_text (talk.whole ∙ ap (λ ns. opening_notices talk.version ++ ns) asks.1) ∙ answers_are talk.version talk.responses
          ∙ sym (append-nil (answers_text talk.version talk.responses));
    }

-- ---- what waits of the replies

-- nothing waited before, and nothing waits behind
pub none_waits : (before after : Option (List ℕ)) (first last told : List ℕ) → first ≡ [] → last ≡ [] → Appends (append_known before first) (append_known after last) told
    → Appends before after told
none_waits before after first last told none none_left h =
    written_out before after after first last told none h (subst (Appends after after) (sym none_left) (Appends-nil after))

-- all that waited was written
pub all_written : (before after : Option (List ℕ)) (first last : List ℕ) → last ≡ [] → Appends before after first
    → Appends (append_known before first) (append_known after last) []
all_written None after first last none h = tt
all_written (Some xs) None first last none h = absurd h
all_written (Some xs) (Some ys) first last none h =
    ap (λ l. ys ++ l) none ∙ append-nil ys ∙ h ∙ sym (append-nil (xs ++ first))

pub on_ok : {A B E : Type 0} (r : Result (Unit {0}) E) → OnOk r A → (A → B) → OnOk r B
on_ok (Ok done) h next = next h
on_ok (Err e) h next = tt

pub emptied : (waits : Waiting) → waits.len ≡ 0 → waiting waits ≡ []
emptied waits none = ap (λ n. take n waits.bytes) none

-- what a session was told until memory ran out is what it answered, once all of it is written
pub session_until : (IsRun : Profile → List Command → List Response → Type 0) (RanOut : Profile → List Command → List Response → Command → Type 0)
    (first left before now after : Option (List ℕ)) (old new : Replies) → waiting old.output.waiting ≡ []
    → (OutOfMemory ≡ Write) ⊎ ((text : List ℕ) × Consumes first left text × IsConversedUntil Tells IsRun RanOut (lines text) old before new now)
    → Appends now after (waiting new.output.waiting)
    → (text : List ℕ) × Consumes first left text × ((output : List ℕ) × IsAnsweredUntil IsRun RanOut text output × Appends before after output)
session_until IsRun RanOut first left before now after old new none (inl other) out = cc
session_until IsRun RanOut first left before now after old new none (inr (text, read, told)) out = (
  text,
  read,
  (
    notices_text told.notices,
    record { notices = told.notices; conversation = told.conversation; written = refl },
    written_out before now after (waiting old.output.waiting) (waiting new.output.waiting) (notices_text told.notices) none told.told out,
  ),
)
