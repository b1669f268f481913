-- The parser that is built for the first word of a command line.
use Rattle.std.specs.Prelude.{List, [], ◌∷◌, Option, Some, None, codes, if◌then◌else◌}
use Rattle.std.specs.Option.{option_map_or}
use Rattle.std.specs.Str.{bytes_eq}
use Rattle.clap.specs.Simple.{App}
use Rattle.clap.specs.Walk.{Text}
use Rattle.pc_program.specs.CommandLine.{drawing, lab, of_file, only, pc_sim, run, session}
use Rattle.pc_program.specs.declared.command_line.parsers.Subcommand.{Subcommand}
use Rattle.pc_program.specs.declared.command_line.parsers.Subcommand.TheVariants as command

-- the first word after the program's name; an empty one where there is none
abbrev pub first_word : List Text → Text
first_word (name ∷ word ∷ words) = word
first_word _ = []

-- the parser of a command
abbrev pub parser_of : Subcommand → App
parser_of command.Replay = of_file (codes "replay")
parser_of command.Explain = of_file (codes "explain")
parser_of command.Draw = drawing
parser_of command.Run = run
parser_of command.Session = session
parser_of command.Lab = lab

-- the parser of the command that a word names, if it names one
abbrev pub named : Text → Option App
named word =
    if bytes_eq word (codes "replay") then Some (of_file (codes "replay"))
    else (if bytes_eq word (codes "explain") then Some (of_file (codes "explain"))
    else (if bytes_eq word (codes "draw") then Some drawing
    else (if bytes_eq word (codes "run") then Some run
    else (if bytes_eq word (codes "session") then Some session
    else (if bytes_eq word (codes "lab") then Some lab else None)))))

-- the program with the command alone that a word names, or with all where it names none
abbrev pub program_for : Text → App
program_for word = option_map_or only (named word) pc_sim
