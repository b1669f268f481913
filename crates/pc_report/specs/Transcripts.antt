-- The commands that make the calls of a book.
use Rattle.std.specs.Prelude.{◌≡◌, ℕ, Bool, true, false, not, List, [], ◌∷◌, ◌++◌, Option, filter}
use Rattle.std.specs.Prelude.{flat_map, map}
use Rattle.std.specs.Io.KnownBytes.{Appends}
use Rattle.pc_calls.specs.declared.call.Call.{Call}
use Rattle.pc_calls.specs.declared.call.Call.TheVariants.{Env, Agent, Consume}
use Rattle.pc_calls.specs.declared.event.Event.TheVariants as event
use Rattle.pc_script.specs.Grammar.{command_text}
use Rattle.pc_script.specs.declared.command.Command.{Command}
use Rattle.pc_script.specs.declared.command.Command.TheVariants as command
use Rattle.pc_threads.specs.Pages.{Pages, calls_of}

-- the command of a script that makes a call; how much is removed is what was published of the queue
abbrev pub command_of : Call → Command
command_of (Env call) = command.Event (event.Env call)
command_of (Agent call) = command.Event (event.Agent call)
command_of (Consume cpu count) = command.Event (event.Consume cpu)

-- it is a publish
abbrev pub is_publish : Command → Bool
is_publish (command.Event (event.Publish cpu fails)) = true
is_publish other = false

-- commands without the publishes
abbrev pub calls_in : List Command → List Command
calls_in commands = filter (λ given. not (is_publish given)) commands

-- the start of a kernel with the book's limits, and then the calls of the book, in its order
abbrev pub script_of : Pages → List Command
script_of book = command.Enclave book.kernel.limits ∷ map command_of (calls_of book.calls)

-- commands, each on a line
abbrev pub lines_text : List Command → List ℕ
lines_text commands = flat_map (λ given. command_text given ++ 10 ∷ []) commands

-- commands that are these, but for publishes, were written, each on a line
abbrev pub WritesCalls : List Command → (old new : Option (List ℕ)) → Type 0
WritesCalls given old new =
    (commands : List Command) × (calls_in commands ≡ given) × Appends old new (lines_text commands)
