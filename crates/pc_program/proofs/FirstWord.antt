-- The parser with the command alone that the first word names is one of which clap says all, and it reads the words as
-- the parser with all commands does.
use Rattle.std.proofs.Common.{◌≡◌, ◌∙◌, ap, ap₂, sym, subst, refl, true, false, Bool, List, [], ◌∷◌, Option, Some, None, codes, drop, fold, is_some, if◌then◌else◌}
use Rattle.std.specs.Str.{bytes_eq}
use Rattle.std.specs.Option.{option_map_or}
use Rattle.std.specs.Cmp.Lexicographic.{same_text}
use Rattle.clap.specs.Faults.{check_fault, defaults_fault, entered_fault, fault_of, is_simple_and_free, settle_fault, turn_fault, walk_fault}
use Rattle.clap.specs.Kinds.{Kinds, or_else}
use Rattle.clap.specs.Simple.{App, built, entered, is_simple, names_of, subcommand_of}
use Rattle.clap.specs.Walk.{Text, Walk, finished, nothing_held, settled, stop_after, walk_from, walked}
use Rattle.clap.proofs.FaultLemmas.{stopped_fault}
use Rattle.clap.proofs.OnLiterals.{clap_on_literals}
use Rattle.clap.proofs.WalkLemmas.{walk_stopped}
use Rattle.pc_program.specs.CommandLine.{drawing, lab, of_file, only, pc_sim, run, session}
use Rattle.pc_program.specs.Inner.FirstWord.{first_word, program_for}
use Rattle.pc_program.proofs.Commands.{simple, simple_and_free}

-- a walk that has met this command, and left it these words
abbrev met : Text → List Text → Walk
met name words = record (walk_from nothing_held) { stopped = Some (name, words) }

-- the faults of a built parser whose walk ended so, with these faults on the way
abbrev faults_at : App → Walk → Kinds → Kinds
faults_at a end faults =
    or_else faults
    (or_else (entered_fault a end.stopped)
    (or_else (settle_fault a.top.rules a.top.args_override_self end.held)
    (or_else (defaults_fault (settled a.top.rules end.held).rows a.top.rules)
    (check_fault a.top (finished a.top.rules end.held) (is_some (entered a end.stopped))))))

-- what a parser reads whose walk meets a command at the first word
reads : (a : App) (program name : Text) (words : List Text) → a.top.no_binary_name ≡ false
    → walked (built a).top.rules (names_of (built a)) (walk_from nothing_held) name ≡ met name []
    → turn_fault (built a).top (names_of (built a)) (walk_from nothing_held) name ≡ []
    → (subcommand_of a (program ∷ name ∷ words) ≡ entered (built a) (Some (name, words)))
    × (fault_of a (program ∷ name ∷ words) ≡ faults_at (built a) (met name words) [])
unfolding walk_fault
reads a program name words binary step turn =
    let top = (built a).top in
    let names = names_of (built a) in
    let behind : (if a.top.no_binary_name then program ∷ name ∷ words else drop 1 (program ∷ name ∷ words)) ≡ name ∷ words =
    ap (λ b. if b then program ∷ name ∷ words else drop 1 (program ∷ name ∷ words)) binary in
    let ended : fold (walked top.rules names) (walk_from nothing_held) (name ∷ words) ≡ met name words =
    ap (λ w. fold (walked top.rules names) w words) step ∙ sym (walk_stopped top.rules names (walk_from nothing_held) name [] words) in
    let none : walk_fault top names (walk_from nothing_held) (name ∷ words) ≡ [] =
    ap₂ or_else turn (ap (λ w. walk_fault top names w words) step ∙ stopped_fault top names (walk_from nothing_held) (name, []) words) in (
      ap (λ ws. entered (built a) (stop_after top.rules names ws)) behind ∙ ap (λ (w : Walk). entered (built a) w.stopped) ended,
      ap (λ ws. faults_at (built a) (fold (walked top.rules names) (walk_from nothing_held) ws) (walk_fault top names (walk_from nothing_held) ws)) behind
          ∙ ap₂ (faults_at (built a)) ended none,
    )

-- the parser reads the words as that with all commands does
abbrev ReadsAll : List Text → App → Type 0
ReadsAll words a = (subcommand_of a words ≡ subcommand_of pc_sim words) × (fault_of a words ≡ fault_of pc_sim words)

replay_alone : (program : Text) (words : List Text) → ReadsAll (program ∷ codes "replay" ∷ words) (only (of_file (codes "replay")))
unfolding clap_on_literals
replay_alone program words =
    let alone = reads (only (of_file (codes "replay"))) program (codes "replay") words refl refl refl in
    let all = reads pc_sim program (codes "replay") words refl refl refl in
    (alone.0 ∙ sym all.0, alone.1 ∙ sym all.1)

explain_alone : (program : Text) (words : List Text) → ReadsAll (program ∷ codes "explain" ∷ words) (only (of_file (codes "explain")))
unfolding clap_on_literals
explain_alone program words =
    let alone = reads (only (of_file (codes "explain"))) program (codes "explain") words refl refl refl in
    let all = reads pc_sim program (codes "explain") words refl refl refl in
    (alone.0 ∙ sym all.0, alone.1 ∙ sym all.1)

draw_alone : (program : Text) (words : List Text) → ReadsAll (program ∷ codes "draw" ∷ words) (only drawing)
unfolding clap_on_literals
draw_alone program words =
    let alone = reads (only drawing) program (codes "draw") words refl refl refl in
    let all = reads pc_sim program (codes "draw") words refl refl refl in
    (alone.0 ∙ sym all.0, alone.1 ∙ sym all.1)

run_alone : (program : Text) (words : List Text) → ReadsAll (program ∷ codes "run" ∷ words) (only run)
unfolding clap_on_literals
run_alone program words =
    let alone = reads (only run) program (codes "run") words refl refl refl in
    let all = reads pc_sim program (codes "run") words refl refl refl in
    (alone.0 ∙ sym all.0, alone.1 ∙ sym all.1)

session_alone : (program : Text) (words : List Text) → ReadsAll (program ∷ codes "session" ∷ words) (only session)
unfolding clap_on_literals
session_alone program words =
    let alone = reads (only session) program (codes "session") words refl refl refl in
    let all = reads pc_sim program (codes "session") words refl refl refl in
    (alone.0 ∙ sym all.0, alone.1 ∙ sym all.1)

lab_alone : (program : Text) (words : List Text) → ReadsAll (program ∷ codes "lab" ∷ words) (only lab)
unfolding clap_on_literals
lab_alone program words =
    let alone = reads (only lab) program (codes "lab") words refl refl refl in
    let all = reads pc_sim program (codes "lab") words refl refl refl in
    (alone.0 ∙ sym all.0, alone.1 ∙ sym all.1)

-- what holds of the first of two where it is chosen, and of the other, holds of the choice
pick : {X : Type 0} (P : X → Type 0) (b : Bool) (x y : X) → (b ≡ true → P x) → P y → P (if b then x else y)
pick P true x y first other = first refl
pick P false x y first other = other

-- the same of the choice between the command that is named, where the word is its name, and others
chosen : (P : Text → App → Type 0) (word name : Text) (command : App) (others : Option App) → P name (only command)
    → P word (option_map_or only others pc_sim) → P word (option_map_or only (if bytes_eq word name then Some command else others) pc_sim)
chosen P word name command others alone other =
    pick (λ o. P word (option_map_or only o pc_sim)) (bytes_eq word name) (Some command) others
    (λ yes. subst (λ w. P w (only command)) (sym (same_text word name (sym yes))) alone) other

-- what holds of each command's parser at its name, and of that of all at each word, holds of the parser for a word
each_word : (P : Text → App → Type 0) → P (codes "replay") (only (of_file (codes "replay"))) → P (codes "explain") (only (of_file (codes "explain")))
    → P (codes "draw") (only drawing) → P (codes "run") (only run) → P (codes "session") (only session) → P (codes "lab") (only lab)
    → ((word : Text) → P word pc_sim) → (word : Text) → P word (program_for word)
each_word P replays explains draws runs talks compares all word =
    chosen P word (codes "replay") _ _ replays
    (chosen P word (codes "explain") _ _ explains
    (chosen P word (codes "draw") _ _ draws
    (chosen P word (codes "run") _ _ runs
    (chosen P word (codes "session") _ _ talks (chosen P word (codes "lab") _ None compares (all word))))))

reads_all : (words : List Text) → ReadsAll words (program_for (first_word words))
reads_all [] = (refl, refl)
reads_all (program ∷ []) = (refl, refl)
reads_all (program ∷ word ∷ words) =
    each_word (λ w a. ReadsAll (program ∷ w ∷ words) a) (replay_alone program words) (explain_alone program words) (draw_alone program words)
    (run_alone program words) (session_alone program words) (lab_alone program words) (λ w. (refl, refl)) word

each_simple : (word : Text) → is_simple (program_for word) ≡ true
unfolding clap_on_literals
each_simple = each_word (λ _ a. is_simple a ≡ true) refl refl refl refl refl refl (λ _. simple)

each_free : (word : Text) → is_simple_and_free (program_for word) ≡ true
unfolding clap_on_literals
each_free = each_word (λ _ a. is_simple_and_free a ≡ true) refl refl refl refl refl refl (λ _. simple_and_free)

-- what clap wants of the parser for the first word, and what it then says, as of the parser with all commands
module _ (a : App) (words : List Text) (is : a ≡ program_for (first_word words)) where
  pub is_plain : is_simple a ≡ true
  is_plain = ap is_simple is ∙ each_simple (first_word words)

  pub is_free : is_simple_and_free a ≡ true
  is_free = ap is_simple_and_free is ∙ each_free (first_word words)

  pub same_command : subcommand_of a words ≡ subcommand_of pc_sim words
  same_command = ap (λ b. subcommand_of b words) is ∙ (reads_all words).0

  pub same_faults : fault_of a words ≡ fault_of pc_sim words
  same_faults = ap (λ b. fault_of b words) is ∙ (reads_all words).1
