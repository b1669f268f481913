-- The program's parser is one of which clap says all, and words that it takes name one of its commands.
use Rattle.std.proofs.Common.{◌≡◌, true, false, refl, rules, Bool, List, [], ◌∷◌, Option, Some, None, IfSome, if◌then◌else◌}
use Rattle.std.proofs.Common.{option_map, is_some, find}
use Rattle.clap.specs.Faults.{check_fault, defaults_fault, entered_fault, fault_of, is_simple_and_free, level_fault, settle_fault, walk_fault}
use Rattle.clap.specs.Kinds.{Kinds, or_else}
use Rattle.clap.specs.Simple.{Shape, argument_words, built, entered, is_simple, label_of, names_of, rows_at, subcommand_of}
use Rattle.clap.specs.Walk.{Held, Names, Row, Text, answers_to, finished, nothing_held, settled, stop_after, walk, walk_from}
use Rattle.clap.proofs.OnLiterals.{clap_on_literals}
use Rattle.pc_program.specs.CommandLine.{IsCommandMet, pc_sim}

pub simple_and_free : is_simple_and_free pc_sim ≡ true
unfolding clap_on_literals
simple_and_free = refl

pub simple : is_simple pc_sim ≡ true
unfolding clap_on_literals
simple = refl

-- of two lists of faults that together have none the second has none
second : (a b : Kinds) → or_else a b ≡ [] → b ≡ []
second [] b none = none
second (k ∷ ks) b none = search rules

-- without a fault a command was met
met : (rows : List Row) (has : Bool) → check_fault (built pc_sim).top rows has ≡ [] → has ≡ true
met rows true none = refl
met rows false none = search rules

-- the first of two if it is the one that is chosen, or else the other
pick : {X : Type 0} (P : X → Type 0) (b : Bool) (x : X) (rest : Option X) → P x → IfSome rest P
    → IfSome (if b then Some x else rest) P
pick P true x rest first other = first
pick P false x rest first other = other

-- what a word names is a command of the program
named : (word : Text) (words : List Text)
    → IfSome (find (λ s. answers_to word (label_of s)) (built pc_sim).subs) (λ s. IsCommandMet (Some (rows_at s words)))
named word words = search rules

-- what was found is such a command, where anything was found
of_found : (words : List Text) (found : Option Shape) → IfSome found (λ s. IsCommandMet (Some (rows_at s words)))
    → is_some (option_map (λ s. rows_at s words) found) ≡ true → IsCommandMet (option_map (λ s. rows_at s words) found)
of_found words None is has = search rules
of_found words (Some s) is has = is

-- where the words stop at a command it is one of the program's
stopped : (stop : Option (Text × List Text)) → is_some (entered (built pc_sim) stop) ≡ true
    → IsCommandMet (entered (built pc_sim) stop)
stopped None has = search rules
stopped (Some (word, words)) has =
    of_found words (find (λ s. answers_to word (label_of s)) (built pc_sim).subs) (named word words) has

-- of five lists of faults that together have none the last has none
fifth : (a b c d e : Kinds) → or_else a (or_else b (or_else c (or_else d e))) ≡ [] → e ≡ []
fifth a b c d e none =
    second d e (second c (or_else d e) (second b (or_else c (or_else d e)) (second a (or_else b (or_else c (or_else d e))) none)))

-- a level without a fault has none at its last check
checked : (s : Shape) (names : Names) (h : Held) (words : List Text) (has : Bool) (below : Kinds)
    → level_fault s names h words has below ≡ []
    → check_fault s (finished s.rules (walk s.rules names h words).held) has ≡ []
checked s names h words has below none =
    fifth (walk_fault s names (walk_from h) words) below
    (settle_fault s.rules s.args_override_self (walk s.rules names h words).held)
    (defaults_fault (settled s.rules (walk s.rules names h words).held).rows s.rules)
    (check_fault s (finished s.rules (walk s.rules names h words).held) has)
    none

-- words without a fault name one of the program's commands
pub command_met : (words : List Text) → fault_of pc_sim words ≡ [] → IsCommandMet (subcommand_of pc_sim words)
command_met words none =
    let rest : List Text = argument_words pc_sim words in
    let stop = stop_after (built pc_sim).top.rules (names_of (built pc_sim)) rest in
    let has : Bool = is_some (entered (built pc_sim) stop) in
    stopped stop (met (finished (built pc_sim).top.rules (walk (built pc_sim).top.rules (names_of (built pc_sim)) nothing_held rest).held) has
    (checked (built pc_sim).top (names_of (built pc_sim)) nothing_held rest has (entered_fault (built pc_sim) stop) none))
