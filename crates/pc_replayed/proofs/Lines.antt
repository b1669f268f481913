-- The lines of a script stand on one line each, and so its text asks for what was written.
use Rattle.std.proofs.Common.{◌≡◌, All, ℕ, suc, Bool, true, false, if◌then◌else◌, List, [], ◌∷◌, ◌++◌, append_assoc, map, Option, Some, None, refl, sym, ap, ◌∙◌, subst, inl, inr, leb, arith, ◌&&◌}
use Rattle.std.proofs.lemmas.Bool.{and_from, le-leb, ltb-true}
use Rattle.std.specs.Prelude.{codes, decimal}
use Rattle.std.proofs.lemmas.List.Elements.{All-head, All-tail}
use Rattle.pc_calls.specs.declared.call.AgentCall.TheVariants as agent_call
use Rattle.pc_calls.specs.declared.call.EnvCall.TheVariants as env
use Rattle.pc_calls.specs.declared.event.Event.TheVariants as event
use Rattle.pc_lab.specs.Moments.{IsWritten, Moment}
use Rattle.pc_lab.specs.Texts.{body_after, event_line, is_told, moment_text, tick_line}
use Rattle.pc_script.specs.Grammar.{AreInRange, Field, Processors, Processor, Queue, Level, Count, Mask, Index, Thread, State, Target, Failure, Policy, IsInRange, Spells, command_text, event_row, field_words, row_of, spaced, words_of}
use Rattle.pc_script.specs.Scripts as script
use Rattle.pc_script.specs.Scripts.{Script}
use Rattle.pc_script.specs.Text.{lines, words}
use Rattle.pc_script.specs.declared.command.Command.{Command}
use Rattle.pc_script.specs.declared.command.Command.TheVariants as command
use Rattle.pc_policy.proofs.Policies.{policy_neat}
use Rattle.pc_policy.specs.Names.{IsReadAgain, policy_text}
use Rattle.pc_rank.proofs.Neat as neat
use Rattle.pc_rank.proofs.Neat.{IsBlack, Neat}
use Rattle.pc_script.proofs.Spaces.{has_words, neat_words}
use Rattle.pc_script.specs.declared.command.Read.TheVariants as read
use Rattle.pc_script.specs.declared.outcome.Outcome.TheVariants.{Finished}
use Rattle.pc_script.specs.declared.version.Version.{Version}
use Rattle.pc_replayed.specs.Replays.{command_of}
use Rattle.pc_replayed.proofs.Printed.{is_printed, line_ended, lines_of_nothing, printed_both, printed_decimal, words_of_nothing}

-- ---- the line of a command

-- each word stands on one line
abbrev ArePrinted : List (List ℕ) → Type 0
ArePrinted [] = Unit {0}
ArePrinted (word ∷ more) = (is_printed word ≡ true) × ArePrinted more

both_printed : (first second : List (List ℕ)) → ArePrinted first → ArePrinted second → ArePrinted (first ++ second)
both_printed [] second printed other = other
both_printed (word ∷ first) second printed other = (printed.0, both_printed first second printed.1 other)

spaced_printed : (all : List (List ℕ)) → ArePrinted all → is_printed (spaced all) ≡ true
spaced_printed [] printed = refl
spaced_printed (word ∷ []) printed = printed.0
spaced_printed (word ∷ next ∷ more) printed =
    printed_both word (32 ∷ spaced (next ∷ more)) printed.0 (spaced_printed (next ∷ more) printed.1)

-- what is written of a neat text stands on one line
black_printed : (b : ℕ) → IsBlack b → leb 32 b ≡ true
black_printed b black = let above = ltb-true 32 b black in le-leb 32 b (omega (arith, above))

words_printed : (text : List ℕ) (n : Neat text) → ArePrinted ((has_words text n).first ∷ (has_words text n).more)
words_printed _ (neat.byte b h) = (and_from (leb 32 b) true (black_printed b h) refl, tt)
words_printed _ (neat.next b {text} h n) =
    let printed = words_printed text n in
    (and_from (leb 32 b) (is_printed (has_words text n).first) (black_printed b h) printed.0, printed.1)
words_printed _ (neat.gap b {text} h n) = (and_from (leb 32 b) true (black_printed b h) refl, words_printed text n)

pub neat_printed : (text : List ℕ) → Neat text → is_printed text ≡ true
neat_printed _ (neat.byte b h) = and_from (leb 32 b) true (black_printed b h) refl
neat_printed _ (neat.next b {text} h n) = and_from (leb 32 b) (is_printed text) (black_printed b h) (neat_printed text n)
neat_printed _ (neat.gap b {text} h n) = and_from (leb 32 b) (is_printed text) (black_printed b h) (neat_printed text n)

-- a policy is written so that it is read again
abbrev IsNeat : Field → Type 0
IsNeat (Policy named) = IsReadAgain named.order
IsNeat field = Unit {0}

abbrev AreNeat : List Field → Type 0
AreNeat [] = Unit {0}
AreNeat (field ∷ fields) = IsNeat field × AreNeat fields

field_neat : (field : Field) → IsInRange field → IsNeat field
field_neat (Processors number) h = tt
field_neat (Processor cpu) h = tt
field_neat (Queue queue) h = tt
field_neat (Level level) h = tt
field_neat (Count number) h = tt
field_neat (Mask mask) h = tt
field_neat (Index index) h = tt
field_neat (Thread thread) h = tt
field_neat (State ready) h = tt
field_neat (Target cpu) h = tt
field_neat (Failure fails) h = tt
field_neat (Policy named) h = h

fields_neat : (fields : List Field) → AreInRange fields → AreNeat fields
fields_neat [] h = tt
fields_neat (field ∷ fields) h = (field_neat field h.0, fields_neat fields h.1)

field_printed : (field : Field) → IsNeat field → ArePrinted (field_words field)
field_printed (Processors number) h = (printed_decimal number, tt)
field_printed (Processor cpu) h = (printed_decimal cpu, tt)
field_printed (Queue queue) h = (printed_decimal queue, tt)
field_printed (Level level) h = (printed_decimal level, tt)
field_printed (Count number) h = (printed_decimal number, tt)
field_printed (Mask mask) h = (printed_decimal mask, tt)
field_printed (Index index) h = (printed_decimal index, tt)
field_printed (Thread thread) h = (printed_decimal thread, tt)
field_printed (State true) h = (refl, tt)
field_printed (State false) h = (refl, tt)
field_printed (Target None) h = (refl, tt)
field_printed (Target (Some cpu)) h = (printed_decimal cpu, tt)
field_printed (Failure true) h = (refl, tt)
field_printed (Failure false) h = tt
field_printed (Policy named) h =
    let text = policy_text named in
    let n = policy_neat named h in
    subst ArePrinted (sym (neat_words text n)) (words_printed text n)

fields_printed : (fields : List Field) → AreNeat fields → ArePrinted (words_of fields)
fields_printed [] h = tt
fields_printed (field ∷ fields) h =
    both_printed (field_words field) (words_of fields) (field_printed field h.0) (fields_printed fields h.1)

name_printed : (given : Command) → is_printed (row_of given).name ≡ true
name_printed (command.Enclave limits) = refl
name_printed (command.Event (event.Env (env.Create queue ready mask))) = refl
name_printed (command.Event (event.Env (env.Wake thread))) = refl
name_printed (command.Event (event.Env (env.Block cpu ran))) = refl
name_printed (command.Event (event.Env (env.YieldNow cpu ran))) = refl
name_printed (command.Event (event.Env (env.Preempt cpu ran))) = refl
name_printed (command.Event (event.Env (env.Die cpu ran))) = refl
name_printed (command.Event (event.Env (env.SetAffinity thread mask))) = refl
name_printed (command.Event (event.Env (env.SetPriority thread level))) = refl
name_printed (command.Event (event.Env (env.Tick cpu))) = refl
name_printed (command.Event (event.Agent (agent_call.Associate thread queue number))) = refl
name_printed (command.Event (event.Agent (agent_call.Commit cpu thread aseq))) = refl
name_printed (command.Event (event.Agent (agent_call.Sleep cpu aseq))) = refl
name_printed (command.Event (event.Agent (agent_call.Rouse cpu))) = refl
name_printed (command.Event (event.Agent (agent_call.Config queue target))) = refl
name_printed (command.Event (event.Publish cpu fails)) = refl
name_printed (command.Event (event.Consume cpu)) = refl
name_printed (command.Event (event.Deliver cpu delta)) = refl
name_printed (command.Event (event.Answer cpu asker)) = refl
name_printed (command.Event (event.Pick cpu aseq)) = refl
name_printed (command.Event (event.Steal cpu)) = refl
name_printed (command.Event (event.Crash cpu)) = refl
name_printed (command.Read (read.Status thread)) = refl
name_printed (command.Read (read.Asleep cpu)) = refl
name_printed (command.Read (read.Show cpu)) = refl
name_printed (command.Read (read.Same cpu other)) = refl
name_printed (command.Read (read.Complete cpu thread)) = refl
name_printed (command.Policy named) = refl
name_printed (command.Mend cpu) = refl

pub command_printed : (given : Command) → AreInRange (row_of given).fields → is_printed (command_text given) ≡ true
command_printed given h =
    spaced_printed ((row_of given).name ∷ words_of (row_of given).fields)
    (name_printed given, fields_printed (row_of given).fields (fields_neat (row_of given).fields h))

-- the line of a command, and the lines behind it
pub command_ended : (given : Command) (rest : List ℕ) → AreInRange (row_of given).fields
    → lines (command_text given ++ codes "\n" ++ rest) ≡ command_text given ∷ lines rest
command_ended given rest h = line_ended (command_text given) rest (command_printed given h)

-- ---- the lines of a run's moments

-- the line that a command is written as asks for that command
abbrev pub CommandsAreRead : Type 0
CommandsAreRead = (given : Command) → AreInRange (row_of given).fields → Spells (words (command_text given)) given

module _ (reads : CommandsAreRead) where
  -- the comment that tells a tick has no reply
  with_tick : (version : Version) (commands : List Command) (tick : ℕ) (line rest : List ℕ) (told : Bool)
      → ((number : ℕ) → Script version number (lines (line ++ rest)) commands Finished)
      → (number : ℕ) → Script version number (lines ((if told then [] else tick_line tick) ++ line ++ rest)) commands Finished
  with_tick version commands tick line rest true later number = later number
  with_tick version commands tick line rest false later number =
      let comment = codes "# at " ++ decimal tick in
      let cut : lines (tick_line tick ++ line ++ rest) ≡ comment ∷ lines (line ++ rest) =
      ap lines (append_assoc (tick_line tick) line rest) ∙ line_ended comment (line ++ rest) (printed_decimal tick) in
      subst (λ all. Script version number all commands Finished) (sym cut) (script.no_reply (inr refl) (later (suc number)))

  one_moment : (version : Version) (commands : List Command) (told : Option ℕ) (moment : Moment) (rest : List ℕ)
      → AreInRange (event_row moment.event).fields → ((number : ℕ) → Script version number (lines rest) commands Finished)
      → (number : ℕ) → Script version number (lines (moment_text told moment ++ rest)) (command_of moment ∷ commands) Finished
  one_moment version commands told moment rest written later =
      with_tick version (command_of moment ∷ commands) moment.tick (event_line moment.event) rest (is_told told moment.tick) (λ number.
      subst (λ all. Script version number all (command_of moment ∷ commands) Finished) (sym (command_ended (command_of moment) rest written))
      (script.command (tt, reads (command_of moment) written) (later (suc number))))

  -- the lines of moments ask for their events, in order
  pub asks_for_moments : (version : Version) (told : Option ℕ) (moments : List Moment) → All IsWritten moments
      → (number : ℕ) → Script version number (lines (body_after told moments)) (map command_of moments) Finished
  asks_for_moments version told [] written number =
      subst (λ all. Script version number all [] Finished) (sym lines_of_nothing) (script.no_reply (inl words_of_nothing) script.at_end)
  asks_for_moments version told (moment ∷ moments) written number =
      one_moment version (map command_of moments) told moment (body_after (Some moment.tick) moments)
      (All-head IsWritten moment moments written)
      (asks_for_moments version (Some moment.tick) moments (All-tail IsWritten moment moments written)) number
