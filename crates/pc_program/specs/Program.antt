-- The whole theorem on one page: what the program promises, and the definitions that this rests on, in the order in
-- which one reads them. Each is named here once, beside where it stands; nothing new is defined. Whoever wants to know
-- what is proved of `pc-sim` begins with this page, and goes from each name to its own.
use Rattle.std.specs.Prelude.{ℕ, List, Option, Result}
use Rattle.toml.specs.Data.{Members}
use Rattle.pc_messages.specs.Run.{Run}
use Rattle.pc_messages.specs.State.{state_of}
use Rattle.pc_messages.specs.declared.kind.Kind.{Kind}
use Rattle.pc_messages.specs.declared.reported.Reported.{Reported}
use Rattle.pc_calls.specs.declared.call.Answer.{Answer}
use Rattle.pc_calls.specs.declared.call.Call.{Call}
use Rattle.pc_calls.specs.declared.event.Event.{Event}
use Rattle.pc_calls.specs.declared.event.Reply.{Reply}
use Rattle.pc_calls.specs.declared.limits.Profile.{Profile}
use Rattle.pc_calls.specs.declared.refusal.Refusal.{Refusal}
use Rattle.pc_kernel.specs.PlainKernel.{PlainKernel}
use Rattle.pc_kernel.specs.PlainKernel as kernel
use Rattle.pc_kernel.specs.Steps as step
use Rattle.pc_view.specs.Views.{IsOfRun}
use Rattle.pc_view.specs.declared.view.View.{View}
use Rattle.pc_agent.specs.PlainAgent.{Set}
use Rattle.pc_script.specs.Grammar as grammar
use Rattle.pc_script.specs.Responses as responses
use Rattle.pc_script.specs.Scripts as script
use Rattle.pc_script.specs.Text as text
use Rattle.pc_script.specs.declared.command.Command.{Command}
use Rattle.pc_script.specs.declared.command.Read.{Read}
use Rattle.pc_script.specs.declared.lists.ShownThread.{ShownThread}
use Rattle.pc_script.specs.declared.outcome.Outcome.{Outcome}
use Rattle.pc_script.specs.declared.response.Response.{Response}
use Rattle.pc_script.specs.declared.version.Version.{Version}
use Rattle.pc_world.specs.PlainWorld.{PlainWorld}
use Rattle.pc_world.specs.RanOut as world
use Rattle.pc_world.specs.Steps as world_step
use Rattle.pc_session.specs.Reads as reads
use Rattle.pc_session.specs.Session as session
use Rattle.pc_session.specs.ShownViews as shown
use Rattle.pc_explain.specs.Comments as comments
use Rattle.pc_draw.specs.Pictures as picture
use Rattle.pc_threads.specs.Pages.{IsReplay, Pages}
use Rattle.pc_report.specs.Transcripts as transcript
use Rattle.pc_threads.specs.Reports as report
use Rattle.pc_threads.specs.declared.report.LoadReport.{LoadReport}
use Rattle.pc_program.specs.Endings as ending
use Rattle.pc_program.specs.Programs as program
use Rattle.pc_program.specs.ReportText as report_text
use Rattle.pc_program.specs.Runs as runs
use Rattle.pc_program.specs.declared.ending.Ending.{Ending}
use Rattle.pc_program.specs.declared.forms.ScriptForm.{ScriptForm}
use Rattle.pc_program.specs.declared.report.ReportForm.{ReportForm}

-- ---- 1. A script's text

-- the lines of a text, cut at line feeds
abbrev pub LinesOf : List ℕ → List (List ℕ)
LinesOf bytes = text.lines bytes

-- the words of a line, cut at spaces
abbrev pub WordsOf : List ℕ → List (List ℕ)
WordsOf line = text.words line

-- words spell a command where they are those of its row in the table of commands, each field in its range
abbrev pub Spells : List (List ℕ) → Command → Type 0
Spells words command = grammar.Spells words command

-- a line without words, or whose first byte is `#`, has no reply
abbrev pub HasNoReply : List ℕ → Type 0
HasNoReply line = grammar.HasNoReply line

-- words ask for a command of a script's version where they spell it: `policy` is one of version 3 alone
abbrev pub AsksFor : Version → List (List ℕ) → Command → Type 0
AsksFor version words command = grammar.AsksFor version words command

-- every other line that asks for no command of the version is a fault, at which a script ends
abbrev pub IsFault : Version → List ℕ → Type 0
IsFault version line = grammar.IsFault version line

-- ---- 2. What is answered, and written

-- the text of each response
abbrev pub TextOf : Response → List ℕ
TextOf response = responses.response_text response

-- a script's output by some run: the texts of the run's responses to the commands that the lines ask for, up to the end
-- or to the first fault
abbrev pub IsOutputBy : (Profile → List Command → List Response → Type 0) → List ℕ → Outcome → List ℕ → Type 0
IsOutputBy IsRun bytes outcome written = script.IsOutput IsRun bytes outcome written

-- ---- 3. A session

-- commands and their responses, one after another: no world before an accepted `enclave`, and one world from then on
abbrev pub IsSession : Profile → List Command → List Response → Type 0
IsSession profile commands told = session.IsSession profile commands told

-- one command of a session
abbrev pub IsSessionStep : Profile → session.Session → Command → Response → session.Session → Type 0
IsSessionStep profile old command told new = session.IsStep profile old command told new

-- a read of the world changes nothing, and is answered so
abbrev pub IsRead : PlainWorld → Read → Response → Type 0
IsRead w read told = reads.IsRead w read told

-- what `show` tells of a set of messages in a run
abbrev pub IsShown : Run → Set → List ShownThread → Type 0
IsShown run set rows = shown.IsShown run set rows

-- ---- 4. The plain world, and its step

-- an event is a call of the kernel, or what an agent does with its set of messages, its run list and its queue
abbrev pub IsWorldStep : PlainWorld → Event → Reply → PlainWorld → Type 0
IsWorldStep w event told new = world_step.Step w event told new

-- what is left of an event that finds no memory
abbrev pub RanOutInWorld : PlainWorld → Event → PlainWorld → Type 0
RanOutInWorld w event new = world.RanOut w event new

-- ---- 5. The plain kernel, and its step

-- what a call answers: the first refusal that holds, or else its answer
abbrev pub KernelReply : PlainKernel → Call → Result Answer Refusal
KernelReply k call = step.reply k call

-- the kernel after it: as it was where it refused
abbrev pub KernelAfter : PlainKernel → Call → PlainKernel
KernelAfter k call = step.after k call

-- the kinds of a thread's messages, which the kernel's posts tell
abbrev pub KindsOf : PlainKernel → ℕ → List Kind
KindsOf k thread = kernel.kinds k thread

-- the state that a thread's messages report
abbrev pub StateOf : List Kind → Option Reported
StateOf kinds = state_of kinds

-- a view is of a run: all that it tells is what the run's messages give
abbrev pub IsViewOfRun : Run → View → Type 0
IsViewOfRun run view = IsOfRun run view

-- ---- 6. A script, explained and drawn

-- an explanation without its comments, which is a script's output
abbrev pub WithoutComments : List ℕ → List ℕ
WithoutComments written = comments.without_comments written

-- the picture of a script: whole elements, and a title that counts the commands and refusals of a run of it, and tells
-- the policy
abbrev pub IsPicture : List ℕ → Outcome → List ℕ → Type 0
IsPicture bytes outcome written = picture.IsPictureOf session.IsSession bytes outcome written

-- ---- 7. A run of agents in threads

-- the kernel of a book is the replay of the calls in it
abbrev pub IsBookReplay : Pages → Type 0
IsBookReplay book = IsReplay book

-- a report tells its book: its numbers are those of the book's calls, and its view is that of all messages
abbrev pub TellsItsBook : LoadReport → Type 0
TellsItsBook told = report.TellsItsBook told

-- what the agents counted adds up to the calls in the book
abbrev pub AddsUp : LoadReport → Type 0
AddsUp told = report.AddsUp told

-- all was done that the settings ask for that the text spells
abbrev pub DoesWhatIsSpelled : Option Members → LoadReport → Type 0
DoesWhatIsSpelled settings told = runs.DoesWhatIsSpelled settings told

-- the commands that make the calls of a book, in its order, were written, with publishes between
abbrev pub WritesScriptOf : Pages → Option (List ℕ) → Option (List ℕ) → Type 0
WritesScriptOf book old new = transcript.WritesCalls (transcript.script_of book) old new

-- the report was written: its totals, with a line for each CPU, or as a picture
abbrev pub IsReport : ReportForm → LoadReport → Option (List ℕ) → Option (List ℕ) → Type 0
IsReport form told old new = report_text.IsReport form told old new

-- ---- 8. How the program ends

-- its exit status
abbrev pub StatusOf : Ending → ℕ
StatusOf end' = ending.status_of end'

-- what it says on standard error
abbrev pub MessageOf : Ending → Option (List ℕ)
MessageOf end' = ending.message_of end'

-- ---- The theorem

-- `pc-sim replay`, `explain` and `draw`, by how they ended: what the writer has now, behind the program's buffer where
-- there is one, is what it had, and behind that the output of the script by a session; or that with comments between;
-- or the script's picture; or, where memory ran out, nothing, or the replies to the lines before one, whole, and of a
-- picture nothing. After a read or a write that failed nothing is said
abbrev pub AfterScript : ScriptForm → List ℕ → Option (List ℕ) → Option (List ℕ) → Ending → Type 0
AfterScript form bytes old new end' = program.IsMade form bytes old new end'

-- `pc-sim run`, by how it ended: behind what the writer had stands the report of a run that did what the settings ask
-- for, or nothing; after a read or a write that failed nothing is said
abbrev pub AfterRun : Option Members → ReportForm → Option (List ℕ) → Option (List ℕ) → Ending → Type 0
AfterRun settings form old new end' = program.IsReported settings form old new end'

-- `pc-sim run --script`, by how it ended: what the file had and has now, what the standard output had and has. In the
-- end the file has the calls of that run's book as commands, in their order; or, for want of memory, nothing
abbrev pub AfterScriptedRun : Option Members → ReportForm → (script_old script_new old new : Option (List ℕ)) → Ending
    → Type 0
AfterScriptedRun settings form script_old script_new old new end' =
    program.IsScripted settings form script_old script_new old new end'
