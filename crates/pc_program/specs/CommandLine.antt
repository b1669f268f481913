-- The parser of the command line as a value, and what the words ask for.
use Rattle.std.specs.Prelude.{◌≡◌, ◌≢◌, ◌⊎◌, ◌↔◌, ◌<◌, ◌≤◌, ◌^◌, ℕ, IsTrue, true, List, [], Option, Some, None}
use Rattle.std.specs.Prelude.{codes, option_map, string_bytes}
use Rattle.std.specs.Str.Parse.{IsNumeral, digits_value, without_leading_plus}
use Rattle.clap.specs.Walk.{Row, Rule, Text, count_of, first_of, one_of}
use Rattle.clap.specs.Simple.{App, new_app, new_rule, on_top, with_rule, with_subcommand}
use Rattle.clap.specs.Kinds.{IsAmong, Kinds}
use Rattle.clap.specs.Values.{kind_of}
use Rattle.clap.specs.declared.builder.action.ArgAction.TheVariants.{Count, Set, SetTrue}
use Rattle.clap.specs.declared.builder.value_parser.ValueParser.TheVariants.{Unsigned}
use Rattle.clap.specs.declared.error.kind.ErrorKind.TheVariants as kind
use Rattle.pc_draw.specs.declared.ticks.Axis.{Axis}
use Rattle.pc_draw.specs.declared.ticks.Axis.TheVariants.{Lines, Ticks}
use Rattle.pc_draw.specs.declared.part.Interval.{Interval}
use Rattle.pc_draw.specs.declared.part.DrawnPart.{DrawnPart}
use Rattle.pc_policy.specs.Names as names
use Rattle.pc_policy.specs.Names.{is_usual}
use Rattle.pc_policy.specs.declared.named.PolicyName.{PolicyName}
use Rattle.pc_program.specs.Numbers.{IsWritten, SpellsNone}
use Rattle.pc_program.specs.Seeds.{AreNumbers}
use Rattle.pc_program.specs.declared.command_line.ProgramCommand.{ProgramCommand}
use Rattle.pc_program.specs.declared.command_line.ProgramCommand.TheVariants.{Replay, Explain, Draw, Run, Tally}
use Rattle.pc_program.specs.declared.command_line.ProgramCommand.TheVariants.{Session, Lab}
use Rattle.pc_program.specs.declared.command_line.VariantsFrom.{VariantsFrom}
use Rattle.pc_program.specs.declared.command_line.VariantsFrom.TheVariants as from
use Rattle.pc_program.specs.declared.command_line.CommandFault.{CommandFault}
use Rattle.pc_program.specs.declared.command_line.CommandFault.TheVariants.{OutOfMemory, BadNumbers, BadPolicy}
use Rattle.pc_program.specs.declared.command_line.CommandFault.TheVariants.{BadRuns, Clap}
use Rattle.pc_program.specs.declared.command_line.RunsFault.{RunsFault}
use Rattle.pc_program.specs.declared.command_line.RunsFault.TheVariants as runs_fault
use Rattle.pc_program.specs.declared.report.ReportForm.{ReportForm}
use Rattle.pc_program.specs.declared.report.ReportForm.TheVariants.{Totals, EachCpu, EachRefusal, Picture}
use Rattle.pc_program.specs.declared.seeds.Seeds.{Seeds}

-- the word after a command
abbrev pub file : Rule
file = new_rule (codes "FILE")

-- a command that takes a file
abbrev pub of_file : Text → App
of_file name = with_rule (new_app name) file

-- the flag `--name`
abbrev pub flag : Text → Rule
flag name = record (new_rule name) { long = Some name; action = Some SetTrue }

-- the same, which counts how often it stands there
abbrev pub counted_flag : Text → Rule
counted_flag name = record (new_rule name) { long = Some name; action = Some Count }

-- the option `--name` with a word behind it
abbrev pub option : Text → Rule
option name = record (new_rule name) { long = Some name; action = Some Set; value_names = 1 }

-- draw [FILE] [--cpus NUMBERS] [--lines NUMBERS] [--time]
abbrev pub drawing : App
drawing =
    with_rule (with_rule (with_rule (of_file (codes "draw")) (option (codes "cpus"))) (option (codes "lines")))
    (flag (codes "time"))

-- --limit SECONDS
abbrev pub limit : Rule
limit = record (option (codes "limit")) { parser = Some (Unsigned 0 4294967295) }

-- --seed NUMBER
abbrev pub seed : Rule
seed = record (option (codes "seed")) { parser = Some (Unsigned 0 18446744073709551615) }

-- --runs NUMBER
abbrev pub runs : Rule
runs = record (option (codes "runs")) { parser = Some (Unsigned 1 1000000000) }

-- run [FILE] [--per-cpu] [--draw] [--limit SECONDS] [--script FILE] [--policy NAME] [--seed NUMBER] [--runs NUMBER]
abbrev pub run : App
run =
    with_rule
    (with_rule
    (with_rule
    (with_rule
    (with_rule
    (with_rule (with_rule (of_file (codes "run")) (counted_flag (codes "per-cpu"))) (flag (codes "draw")))
    limit)
    (option (codes "script")))
    (option (codes "policy")))
    seed)
    runs

-- session [FILE] [--explain]
abbrev pub session : App
session = with_rule (of_file (codes "session")) (flag (codes "explain"))

-- lab [FILE] [--variants FILE] [--per-cpu] [--csv] [--picture] [--script NAME]
abbrev pub lab : App
lab =
    with_rule
    (with_rule
    (with_rule
    (with_rule (with_rule (of_file (codes "lab")) (option (codes "variants"))) (flag (codes "per-cpu")))
    (flag (codes "csv")))
    (flag (codes "picture")))
    (option (codes "script"))

-- the program without a command, which has a version, wants a command, and has no command `help`
abbrev pub program : App
program =
    on_top (λ s. record s { has_version = true; subcommand_required = true; disable_help_subcommand = true })
    (new_app (codes "pc-sim"))

-- the program with all commands
abbrev pub pc_sim : App
pc_sim =
    with_subcommand
    (with_subcommand
    (with_subcommand
    (with_subcommand
    (with_subcommand
    (with_subcommand program (of_file (codes "replay")).top)
    (of_file (codes "explain")).top)
    drawing.top)
    run.top)
    session.top)
    lab.top

-- the program with this command alone
abbrev pub only : App → App
only command = with_subcommand program command.top

-- the file that the word after a command names: none where there is no word, or `-`
abbrev pub IsInput : Option Text → Option Text → Type 0
IsInput None named = named ≡ None
IsInput (Some word) None = word ≡ codes "-"
IsInput (Some word) (Some name) = (name ≡ word) × (word ≢ codes "-")

-- the command of this name, with this word after it
abbrev pub IsOf : Text → Option Text → Text × List Row → Type 0
IsOf name file met = (met.0 ≡ name) × IsInput (first_of (codes "FILE") met.1) file

-- the flag of this name stands there
abbrev pub IsSet : Text → List Row → Type 0
IsSet name rows = first_of name rows ≡ Some (codes "true")

-- how a report is asked for: as a picture, or else by its totals alone, with a line for each CPU, or with refusals by
-- name too, as `--per-cpu` stands there never, once, or more often
abbrev pub IsReportForm : ReportForm → List Row → Type 0
IsReportForm Picture rows = IsSet (codes "draw") rows
IsReportForm Totals rows = (IsSet (codes "draw") rows → ⊥) × (count_of (codes "per-cpu") rows ≡ 0)
IsReportForm EachCpu rows = (IsSet (codes "draw") rows → ⊥) × (count_of (codes "per-cpu") rows ≡ 1)
IsReportForm EachRefusal rows = (IsSet (codes "draw") rows → ⊥) × (1 < count_of (codes "per-cpu") rows)

-- the number of at most so many bits that an option's word spells, if it spells one
abbrev pub IsNumber : (bits : ℕ) → Option Text → Option ℕ → Type 0
IsNumber bits None given = given ≡ None
IsNumber bits (Some word) (Some number) =
    IsNumeral 10 (without_leading_plus word) × (digits_value 10 (without_leading_plus word) < 2 ^ bits)
    × (number ≡ digits_value 10 (without_leading_plus word))
IsNumber bits (Some word) None =
    IsNumeral 10 (without_leading_plus word) × (digits_value 10 (without_leading_plus word) < 2 ^ bits) → ⊥

-- the number of seconds that an option's word spells, if it spells one
abbrev pub IsLimit : Option Text → Option ℕ → Type 0
IsLimit word seconds = IsNumber 32 word seconds

-- the seed that an option's word spells, if it spells one
abbrev pub IsSeed : Option Text → Option ℕ → Type 0
IsSeed word given = IsNumber 64 word given

-- the number of runs that an option's word spells, if it spells one
abbrev pub IsRuns : Option Text → Option ℕ → Type 0
IsRuns word many = IsNumber 32 word many

-- at least one run, and at most 1,000,000,000, each by a seed of 64 bits
pub record AreSeeds (seeds : Seeds) : Type 0 where
  pub some : 1 ≤ seeds.many
  pub few : seeds.many ≤ 1000000000
  pub numbers : AreNumbers seeds

-- no word asks for a line for each CPU, a picture, or a script of a run
abbrev pub AsksForTotals : List Row → Type 0
AsksForTotals rows =
    (count_of (codes "per-cpu") rows ≡ 0) × (IsSet (codes "draw") rows → ⊥) × (first_of (codes "script") rows ≡ None)

-- these rows ask for runs by these seeds
abbrev pub AreAsked : List Row → Seeds → Type 0
AreAsked rows seeds =
    IsSeed (one_of (codes "seed") rows) (Some seeds.first) × IsRuns (one_of (codes "runs") rows) (Some seeds.many)

-- why these rows, which ask for several runs, are no way to ask for them: they have no seed; or else the last seed is
-- none; or else they ask for more than totals
abbrev pub AreNoRuns : List Row → RunsFault → Type 0
AreNoRuns rows runs_fault.NoSeed =
    (one_of (codes "runs") rows ≢ None) × IsSeed (one_of (codes "seed") rows) None
AreNoRuns rows runs_fault.PastTheLast = (seeds : Seeds) × AreAsked rows seeds × (AreSeeds seeds → ⊥)
AreNoRuns rows runs_fault.MoreThanTotals =
    (seeds : Seeds) × AreAsked rows seeds × AreSeeds seeds × (AsksForTotals rows → ⊥)

-- the numbers that the word behind an option spells: all where there is no word
abbrev pub IsSpelled : Option Text → Option Interval → Type 0
IsSpelled None numbers = numbers ≡ None
IsSpelled (Some word) None = ⊥
IsSpelled (Some word) (Some numbers) = IsWritten word numbers

-- which part of a picture is asked for
abbrev pub IsPart : DrawnPart → List Row → Type 0
IsPart part rows =
    IsSpelled (first_of (codes "cpus") rows) part.cpus × IsSpelled (first_of (codes "lines") rows) part.lines

-- what goes to the right in a picture: ticks where `--time` stands, and else lines
abbrev pub IsAxis : Axis → List Row → Type 0
IsAxis Ticks rows = IsSet (codes "time") rows
IsAxis Lines rows = IsSet (codes "time") rows → ⊥

-- this word stands behind this option, and spells no numbers
abbrev pub IsNoNumbers : (option word : Text) → List Row → Type 0
IsNoNumbers option word rows = (first_of option rows ≡ Some word) × SpellsNone word

-- the policy that the text behind an option names: the usual one where there is no text
abbrev pub IsPolicy : Option Text → PolicyName → Type 0
IsPolicy None policy = is_usual policy ≡ true
IsPolicy (Some text) policy = names.IsPolicy text policy

-- the text behind an option names no policy
abbrev pub NamesNone : Text → Type 0
NamesNone text = (policy : PolicyName) → names.IsPolicy text policy → ⊥

-- what is wrong with the words of a command that clap takes: a part of a picture that is no numbers, a policy of a
-- run that is none, or several runs that cannot be asked for so
abbrev pub IsWrongIn : Option (Text × List Row) → CommandFault → Type 0
IsWrongIn met OutOfMemory = Unit {0}
IsWrongIn met (Clap error) = Unit {0}
IsWrongIn None (BadNumbers option word) = ⊥
IsWrongIn None (BadPolicy word why) = ⊥
IsWrongIn None (BadRuns why) = ⊥
IsWrongIn (Some met) (BadNumbers option word) =
    (met.0 ≡ codes "draw") × ((option.now ≡ codes "cpus") ⊎ (option.now ≡ codes "lines"))
    × IsNoNumbers option.now (string_bytes word) met.1
IsWrongIn (Some met) (BadPolicy word why) =
    (met.0 ≡ codes "run") × (first_of (codes "policy") met.1 ≡ Some (string_bytes word))
    × NamesNone (string_bytes word)
IsWrongIn (Some met) (BadRuns why) = (met.0 ≡ codes "run") × AreNoRuns met.1 why

-- where variants come from by the word behind `--variants`: from the load where there is none, and from the standard
-- input where it is `-`
abbrev pub IsFrom : Option Text → VariantsFrom → Type 0
IsFrom word from.Load = word ≡ None
IsFrom word from.Input = word ≡ Some (codes "-")
IsFrom word (from.File name) = (word ≡ Some (string_bytes name)) × (string_bytes name ≢ codes "-")

-- the command with this name and these values is asked for
abbrev pub IsAsked : Option (Text × List Row) → ProgramCommand → Type 0
IsAsked None command = ⊥
IsAsked (Some met) (Replay given) = IsOf (codes "replay") (option_map string_bytes given) met
IsAsked (Some met) (Explain given) = IsOf (codes "explain") (option_map string_bytes given) met
IsAsked (Some met) (Draw given part axis) =
    IsOf (codes "draw") (option_map string_bytes given) met × IsPart part met.1 × IsAxis axis met.1
IsAsked (Some met) (Run given form seconds policy script drawn_by) =
    IsOf (codes "run") (option_map string_bytes given) met × IsReportForm form met.1
    × IsLimit (one_of (codes "limit") met.1) seconds × IsPolicy (first_of (codes "policy") met.1) policy
    × (option_map string_bytes script ≡ first_of (codes "script") met.1)
    × IsSeed (one_of (codes "seed") met.1) drawn_by × IsRuns (one_of (codes "runs") met.1) None
IsAsked (Some met) (Tally given seconds policy seeds) =
    IsOf (codes "run") (option_map string_bytes given) met × IsLimit (one_of (codes "limit") met.1) seconds
    × IsPolicy (first_of (codes "policy") met.1) policy × IsSeed (one_of (codes "seed") met.1) (Some seeds.first)
    × IsRuns (one_of (codes "runs") met.1) (Some seeds.many) × AreSeeds seeds × AsksForTotals met.1
IsAsked (Some met) (Session given explains) =
    IsOf (codes "session") (option_map string_bytes given) met × (IsTrue explains ↔ IsSet (codes "explain") met.1)
IsAsked (Some met) (Lab given variants each csv picture script) =
    IsOf (codes "lab") (option_map string_bytes given) met × IsFrom (first_of (codes "variants") met.1) variants
    × (IsTrue each ↔ IsSet (codes "per-cpu") met.1) × (IsTrue csv ↔ IsSet (codes "csv") met.1)
    × (IsTrue picture ↔ IsSet (codes "picture") met.1)
    × (option_map string_bytes script ≡ first_of (codes "script") met.1)

-- want of memory, numbers, a policy or seeds that are none where there is no other fault, or one of these kinds, of
-- which help and the version are two
abbrev pub IsRefusal : Kinds → CommandFault → Type 0
IsRefusal kinds OutOfMemory = Unit {0}
IsRefusal kinds (BadNumbers option word) = kinds ≡ []
IsRefusal kinds (BadPolicy word why) = kinds ≡ []
IsRefusal kinds (BadRuns why) = kinds ≡ []
IsRefusal kinds (Clap error) = (kind_of error ≢ kind.OutOfMemory) × IsAmong (kind_of error) kinds

-- one of the commands was met
abbrev pub IsCommandMet : Option (Text × List Row) → Type 0
IsCommandMet None = ⊥
IsCommandMet (Some met) =
    (met.0 ≡ codes "replay") ⊎ (met.0 ≡ codes "explain") ⊎ (met.0 ≡ codes "draw") ⊎ (met.0 ≡ codes "run")
    ⊎ (met.0 ≡ codes "session") ⊎ (met.0 ≡ codes "lab")
