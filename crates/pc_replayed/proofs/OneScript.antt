-- The lines of a script ask for commands in one way.
use Rattle.std.proofs.Common.{◌≡◌, ◌∙◌, not, cond, eqb, ltb, ℕ, suc, true, false, List, [], ◌∷◌, filter, length, get_or, Some, refl, sym, ap, ap₂, inl, inr, arith}
use Rattle.std.specs.List.{onto_first, slice_split}
use Rattle.std.specs.Prelude.{codes, slice_get}
use Rattle.std.proofs.lemmas.Bool.{ltb-true, ne_eqb}
use Rattle.std.proofs.lemmas.List.Splits.{slice_split-cons_no}
use Rattle.std.proofs.lemmas.Option.{same_Some}
use Rattle.pc_calls.specs.declared.call.AgentCall.TheVariants as agent_call
use Rattle.pc_calls.specs.declared.call.EnvCall.TheVariants as env
use Rattle.pc_calls.specs.declared.event.Event.TheVariants as event
use Rattle.pc_script.specs.Grammar.{AsksFor, HasNoReply, Spells, row_of, words_of}
use Rattle.pc_script.proofs.Spellings.{begun}
use Rattle.pc_script.specs.Scripts as script
use Rattle.pc_script.specs.Scripts.{Script}
use Rattle.pc_script.specs.Text.{words}
use Rattle.pc_script.specs.Versions as versions
use Rattle.pc_script.specs.Versions.{Names, Opens}
use Rattle.pc_script.specs.declared.command.Command.{Command}
use Rattle.pc_script.specs.declared.command.Command.TheVariants as command
use Rattle.pc_script.specs.declared.command.Read.TheVariants as read
use Rattle.pc_script.specs.declared.outcome.Outcome.{Outcome}
use Rattle.pc_script.specs.declared.outcome.Outcome.TheVariants.{Finished}
use Rattle.pc_script.specs.declared.version.Version.{Version}
use Rattle.pc_script.specs.declared.version.Version.TheVariants.{One, Two, Three}

-- ---- a line has a reply, or none

-- the first byte of the first word
abbrev pub first_byte : List (List ℕ) → ℕ
first_byte all = get_or (get_or all 0 []) 0 0

not_nothing : (word : List ℕ) (more : List (List ℕ)) → [] ≡ word ∷ more → ⊥
not_nothing word more same = cc

pub apart : (m n : ℕ) → ltb m n ≡ true → m ≡ n → ⊥
apart m n less same = let below = ltb-true m n less in omega (arith, below, same)

-- words without the empty ones
abbrev kept : List (List ℕ) → List (List ℕ)
kept = filter (λ word. not (eqb (length word) 0))

kept_first : (b : ℕ) (part : List ℕ) (parts : List (List ℕ)) → first_byte (kept ((b ∷ part) ∷ parts)) ≡ b
kept_first b part parts =
    ap (λ none. first_byte (cond (not none) ((b ∷ part) ∷ kept parts) (kept parts))) (ne_eqb (length (b ∷ part)) 0 (λ none. omega (arith, none)))

onto_kept : (b : ℕ) (parts : List (List ℕ)) → first_byte (kept (onto_first b parts)) ≡ b
onto_kept b [] = kept_first b [] []
onto_kept b (part ∷ parts) = kept_first b part parts

-- a line that begins with another byte than a space has this one at the front of its first word
begins : (b : ℕ) (rest : List ℕ) → eqb b 32 ≡ false → first_byte (words (b ∷ rest)) ≡ b
unfolding words
begins b rest other =
    ap (λ parts. first_byte (kept parts)) (slice_split-cons_no (λ c. eqb c 32) b rest other) ∙ onto_kept b (slice_split (λ c. eqb c 32) rest)

comment_begins : (line : List ℕ) → slice_get line 0 ≡ Some 35 → first_byte (words line) ≡ 35
comment_begins [] comment = cc
comment_begins (b ∷ rest) comment =
    let is : b ≡ 35 = same_Some b 35 comment in
    begins b rest (ne_eqb b 32 (λ space. omega (arith, is, space))) ∙ is

-- no command begins as a comment does
name_begins : (given : Command) → ltb 35 (get_or (row_of given).name 0 0) ≡ true
name_begins (command.Enclave limits) = refl
name_begins (command.Event (event.Env (env.Create queue ready mask))) = refl
name_begins (command.Event (event.Env (env.Wake thread))) = refl
name_begins (command.Event (event.Env (env.Block cpu ran))) = refl
name_begins (command.Event (event.Env (env.YieldNow cpu ran))) = refl
name_begins (command.Event (event.Env (env.Preempt cpu ran))) = refl
name_begins (command.Event (event.Env (env.Die cpu ran))) = refl
name_begins (command.Event (event.Env (env.SetAffinity thread mask))) = refl
name_begins (command.Event (event.Env (env.SetPriority thread level))) = refl
name_begins (command.Event (event.Env (env.Tick cpu))) = refl
name_begins (command.Event (event.Agent (agent_call.Associate thread queue number))) = refl
name_begins (command.Event (event.Agent (agent_call.Commit cpu thread aseq))) = refl
name_begins (command.Event (event.Agent (agent_call.Sleep cpu aseq))) = refl
name_begins (command.Event (event.Agent (agent_call.Rouse cpu))) = refl
name_begins (command.Event (event.Agent (agent_call.Config queue target))) = refl
name_begins (command.Event (event.Publish cpu fails)) = refl
name_begins (command.Event (event.Consume cpu)) = refl
name_begins (command.Event (event.Deliver cpu delta)) = refl
name_begins (command.Event (event.Answer cpu asker)) = refl
name_begins (command.Event (event.Pick cpu aseq)) = refl
name_begins (command.Event (event.Steal cpu)) = refl
name_begins (command.Event (event.Crash cpu)) = refl
name_begins (command.Read (read.Status thread)) = refl
name_begins (command.Read (read.Asleep cpu)) = refl
name_begins (command.Read (read.Show cpu)) = refl
name_begins (command.Read (read.Same cpu other)) = refl
name_begins (command.Read (read.Complete cpu thread)) = refl
name_begins (command.Policy named) = refl
name_begins (command.Mend cpu) = refl

-- a line whose words begin behind `#` in the order of bytes has a reply
speaks : (line word : List ℕ) (more : List (List ℕ)) → words line ≡ word ∷ more → ltb 35 (get_or word 0 0) ≡ true → HasNoReply line → ⊥
speaks line word more spelled behind (inl none) = not_nothing word more (sym none ∙ spelled)
speaks line word more spelled behind (inr comment) = apart 35 (get_or word 0 0) behind (sym (comment_begins line comment) ∙ ap first_byte spelled)

pub command_speaks : (version : Version) (line : List ℕ) (given : Command) → AsksFor version (words line) given → HasNoReply line → ⊥
command_speaks version line given asks =
    let front = begun (words line) given asks.1 in
    speaks line (row_of given).name front.behind front.is (name_begins given)

version_speaks : (version : Version) (line : List ℕ) → Names version line → HasNoReply line → ⊥
version_speaks One line names = absurd names
version_speaks Two line names = speaks line (codes "version") (codes "2" ∷ []) names refl
version_speaks Three line names = speaks line (codes "version") (codes "3" ∷ []) names refl

-- ---- the version

-- the first byte of the second word
abbrev second_byte : List (List ℕ) → ℕ
second_byte all = get_or (get_or all 1 []) 0 0

one_name : (version other : Version) (line : List ℕ) → Names version line → Names other line → version ≡ other
one_name One other line names named = absurd names
one_name Two One line names named = absurd named
one_name Two Two line names named = refl
one_name Two Three line names named = absurd (apart 50 51 refl (ap second_byte (sym names ∙ named)))
one_name Three One line names named = absurd named
one_name Three Two line names named = absurd (apart 50 51 refl (ap second_byte (sym named ∙ names)))
one_name Three Three line names named = refl

-- two openings of the same lines are the same
pub record SameOpening (version other : Version) (passed before : ℕ) (rest behind : List (List ℕ)) : Type 0 where
  pub version_same : version ≡ other
  pub passed_same : passed ≡ before
  pub rest_same : rest ≡ behind

pub opens_once : {version other : Version} {passed before : ℕ} {rest behind all : List (List ℕ)}
    → Opens version passed rest all → Opens other before behind all → SameOpening version other passed before rest behind
opens_once (versions.no_reply none more) (versions.no_reply silent others) =
    let once = opens_once more others in
    record { version_same = once.version_same; passed_same = ap suc once.passed_same; rest_same = once.rest_same }
opens_once (versions.no_reply {line} none more) (versions.named {version} names) = absurd (version_speaks version line names none)
opens_once (versions.no_reply none more) (versions.unnamed spoken unnamed) = absurd (spoken none)
opens_once (versions.named {version} {line} names) (versions.no_reply none more) = absurd (version_speaks version line names none)
opens_once (versions.named {version} {line} names) (versions.named {version = other} named) =
    record { version_same = one_name version other line names named; passed_same = refl; rest_same = refl }
opens_once (versions.named {version} names) (versions.unnamed spoken unnamed) = absurd (unnamed version names)
opens_once (versions.unnamed spoken unnamed) (versions.no_reply none more) = absurd (spoken none)
opens_once (versions.unnamed spoken unnamed) (versions.named {version} names) = absurd (unnamed version names)
opens_once (versions.unnamed spoken unnamed) (versions.unnamed said others) = record { version_same = refl; passed_same = refl; rest_same = refl }
opens_once versions.at_end versions.at_end = record { version_same = refl; passed_same = refl; rest_same = refl }

-- ---- the commands

abbrev pub OneCommand : Type 0
OneCommand = (spelled : List (List ℕ)) (one other : Command) → Spells spelled one → Spells spelled other → one ≡ other

module _ (spells_one : OneCommand) where
  -- lines that ask for commands without a fault ask for no others
  pub asks_once : {version : Version} {number : ℕ} {all : List (List ℕ)} {commands others : List Command} {outcome : Outcome}
      → Script version number all commands Finished → Script version number all others outcome → (others ≡ commands) × (outcome ≡ Finished)
  asks_once script.at_end script.at_end = (refl, refl)
  asks_once (script.no_reply none more) (script.no_reply silent rest) = asks_once more rest
  asks_once {version} (script.no_reply {line} none more) (script.command {command = given} asks rest) = absurd (command_speaks version line given asks none)
  asks_once (script.no_reply none more) (script.fault bad) = absurd (bad.0 none)
  asks_once {version} (script.command {line} {command = given} asks more) (script.no_reply none rest) = absurd (command_speaks version line given asks none)
  asks_once (script.command {line} {command = given} {commands} asks more) (script.command {command = other} {commands = others} asked rest) =
      let once = asks_once more rest in
      (ap₂ (λ c cs. c ∷ cs) (spells_one (words line) other given asked.1 asks.1) once.0, once.1)
  asks_once (script.command {command = given} asks more) (script.fault bad) = absurd (bad.1 given asks)
