-- The words of commands. A line of a script asks for a command where its words are the command's.
use Rattle.std.specs.Prelude.{◌≡◌, ℕ, ◌^◌, ◌<◌, ◌⊎◌, Bool, true, false, List, [], ◌∷◌, ◌++◌, slice_get, codes, decimal}
use Rattle.std.specs.Prelude.{Option, Some, None, IfSome}
use Rattle.pc_messages.specs.State.{phase_word}
use Rattle.pc_messages.specs.declared.reported.Phase.TheVariants as phase
use Rattle.pc_calls.specs.declared.call.AgentCall.{AgentCall}
use Rattle.pc_calls.specs.declared.call.AgentCall.TheVariants as agent_call
use Rattle.pc_calls.specs.declared.call.EnvCall.{EnvCall}
use Rattle.pc_calls.specs.declared.call.EnvCall.TheVariants as env
use Rattle.pc_calls.specs.declared.event.Event.{Event}
use Rattle.pc_calls.specs.declared.event.Event.TheVariants as event
use Rattle.pc_script.specs.Text.{words}
use Rattle.pc_script.specs.declared.command.Command.{Command}
use Rattle.pc_script.specs.declared.command.Command.TheVariants as command
use Rattle.pc_policy.specs.Names.{IsPolicy, IsReadAgain, policy_text}
use Rattle.pc_policy.specs.declared.named.PolicyName.{PolicyName}
use Rattle.pc_script.specs.declared.command.Read.{Read}
use Rattle.pc_script.specs.declared.command.Read.TheVariants as read
use Rattle.pc_script.specs.declared.line.Wish.{Wish}
use Rattle.pc_script.specs.declared.line.Wish.TheVariants as wish
use Rattle.pc_script.specs.declared.version.Version.{Version}
use Rattle.pc_script.specs.declared.version.Version.TheVariants as version

-- ---- fields

-- An argument of a command, and its value: how many CPUs there are, a CPU, a queue, a level, a count (of ticks, of
-- posts, or a number up to which something is counted), a mask, the index of a delta, a thread, how a new thread
-- starts, whom a queue wakes, whether a send fails, and what agents go by
pub data Field : Type 0 where
  Processors : ℕ → Field
  Processor : ℕ → Field
  Queue : ℕ → Field
  Level : ℕ → Field
  Count : ℕ → Field
  Mask : ℕ → Field
  Index : ℕ → Field
  Thread : ℕ → Field
  State : Bool → Field
  Target : Option ℕ → Field
  Failure : Bool → Field
  Policy : PolicyName → Field

-- a thread is `t`, and its number
abbrev pub thread_name : ℕ → List ℕ
thread_name thread = 116 ∷ decimal thread

-- how a new thread starts
abbrev pub state_word : Bool → List ℕ
state_word true = phase_word phase.Ready
state_word false = phase_word phase.Blocked

-- whom a queue wakes: the agent of a CPU, or none
abbrev pub target_word : Option ℕ → List ℕ
target_word None = codes "-"
target_word (Some cpu) = decimal cpu

-- a send that fails is asked for by a further word
abbrev pub failure_words : Bool → List (List ℕ)
failure_words true = codes "fail" ∷ []
failure_words false = []

-- the words of a field; a number is written in decimal, with neither a sign nor a zero in front
abbrev pub field_words : Field → List (List ℕ)
field_words (Processors number) = decimal number ∷ []
field_words (Processor cpu) = decimal cpu ∷ []
field_words (Queue queue) = decimal queue ∷ []
field_words (Level level) = decimal level ∷ []
field_words (Count number) = decimal number ∷ []
field_words (Mask mask) = decimal mask ∷ []
field_words (Index index) = decimal index ∷ []
field_words (Thread thread) = thread_name thread ∷ []
field_words (State is_ready) = state_word is_ready ∷ []
field_words (Target cpu) = target_word cpu ∷ []
field_words (Failure fails) = failure_words fails
field_words (Policy named) = words (policy_text named)

-- the range of a field's value
abbrev pub IsInRange : Field → Type 0
IsInRange (Processors number) = number < 2 ^ 8
IsInRange (Processor cpu) = cpu < 2 ^ 8
IsInRange (Queue queue) = queue < 2 ^ 8
IsInRange (Level level) = level < 2 ^ 8
IsInRange (Count number) = number < 2 ^ 32
IsInRange (Mask mask) = mask < 2 ^ 64
IsInRange (Index index) = index < 2 ^ 64
IsInRange (Thread thread) = thread < 2 ^ 32
IsInRange (State is_ready) = Unit {0}
IsInRange (Target cpu) = IfSome cpu (λ c. c < 2 ^ 8)
IsInRange (Failure fails) = Unit {0}
IsInRange (Policy named) = IsReadAgain named.order

-- the words of fields, one after another
abbrev pub words_of : List Field → List (List ℕ)
words_of [] = []
words_of (field ∷ fields) = field_words field ++ words_of fields

-- each field is in its range
abbrev pub AreInRange : List Field → Type 0
AreInRange [] = Unit {0}
AreInRange (field ∷ fields) = IsInRange field × AreInRange fields

-- ---- the table

-- A command's name and its fields
pub record Row : Type 0 where
  pub name : List ℕ
  pub fields : List Field

-- a row of this name and these fields
abbrev pub row : List ℕ → List Field → Row
row name fields = record { name = name; fields = fields }

-- calls of the environment
abbrev pub call_row : EnvCall → Row
call_row (env.Create queue ready mask) = row (codes "create") (Queue queue ∷ Mask mask ∷ State ready ∷ [])
call_row (env.Wake thread) = row (codes "wake") (Thread thread ∷ [])
call_row (env.Block cpu ran) = row (codes "block") (Processor cpu ∷ Count ran ∷ [])
call_row (env.YieldNow cpu ran) = row (codes "yield") (Processor cpu ∷ Count ran ∷ [])
call_row (env.Preempt cpu ran) = row (codes "preempt") (Processor cpu ∷ Count ran ∷ [])
call_row (env.Die cpu ran) = row (codes "die") (Processor cpu ∷ Count ran ∷ [])
call_row (env.SetAffinity thread mask) = row (codes "affinity") (Thread thread ∷ Mask mask ∷ [])
call_row (env.SetPriority thread level) = row (codes "priority") (Thread thread ∷ Level level ∷ [])
call_row (env.Tick cpu) = row (codes "tick") (Processor cpu ∷ [])

-- calls of agents
abbrev pub agent_row : AgentCall → Row
agent_row (agent_call.Associate thread queue number) =
    row (codes "associate") (Thread thread ∷ Queue queue ∷ Count number ∷ [])
agent_row (agent_call.Commit cpu thread aseq) = row (codes "commit") (Processor cpu ∷ Thread thread ∷ Count aseq ∷ [])
agent_row (agent_call.Sleep cpu aseq) = row (codes "sleep") (Processor cpu ∷ Count aseq ∷ [])
agent_row (agent_call.Rouse cpu) = row (codes "rouse") (Processor cpu ∷ [])
agent_row (agent_call.Config queue target) = row (codes "config") (Queue queue ∷ Target target ∷ [])

-- events
abbrev pub event_row : Event → Row
event_row (event.Env call) = call_row call
event_row (event.Agent call) = agent_row call
event_row (event.Publish cpu fails) = row (codes "publish") (Processor cpu ∷ Failure fails ∷ [])
event_row (event.Consume cpu) = row (codes "consume") (Processor cpu ∷ [])
event_row (event.Deliver cpu delta) = row (codes "deliver") (Processor cpu ∷ Index delta ∷ [])
event_row (event.Answer cpu asker) = row (codes "answer") (Processor cpu ∷ Processor asker ∷ [])
event_row (event.Pick cpu aseq) = row (codes "pick") (Processor cpu ∷ Count aseq ∷ [])
event_row (event.Steal cpu) = row (codes "steal") (Processor cpu ∷ [])
event_row (event.Crash cpu) = row (codes "crash") (Processor cpu ∷ [])

-- questions
abbrev pub read_row : Read → Row
read_row (read.Status thread) = row (codes "status") (Thread thread ∷ [])
read_row (read.Asleep cpu) = row (codes "asleep") (Processor cpu ∷ [])
read_row (read.Show cpu) = row (codes "show") (Processor cpu ∷ [])
read_row (read.Same cpu other) = row (codes "same") (Processor cpu ∷ Processor other ∷ [])
read_row (read.Complete cpu thread) = row (codes "complete") (Processor cpu ∷ Thread thread ∷ [])

-- a command's row
abbrev pub row_of : Command → Row
row_of (command.Enclave limits) =
    row (codes "enclave")
    (Processors limits.cpus ∷ Count limits.threads ∷ Count limits.numbers ∷ Count limits.room ∷ Count limits.posts ∷ [])
row_of (command.Event event) = event_row event
row_of (command.Read question) = read_row question
row_of (command.Policy named) = row (codes "policy") (Policy named ∷ [])
row_of (command.Mend cpu) = row (codes "mend") (Processor cpu ∷ [])

-- words with a space between each two
abbrev pub spaced : List (List ℕ) → List ℕ
spaced [] = []
spaced (word ∷ []) = word
spaced (word ∷ next ∷ more) = word ++ 32 ∷ spaced (next ∷ more)

-- a row's name and its fields' words, with a space between each two
abbrev pub row_text : Row → List ℕ
row_text given = spaced (given.name ∷ words_of given.fields)

-- the line of a script that asks for a command
abbrev pub command_text : Command → List ℕ
command_text command = row_text (row_of command)

-- ---- lines

-- These words are the command's: its row's, and of a policy, with a space between each two, any text of it behind the
-- command's name
abbrev pub Spells : List (List ℕ) → Command → Type 0
Spells spelled (command.Policy named) =
    (text : List (List ℕ)) × (spelled ≡ codes "policy" ∷ text) × IsPolicy (spaced text) named
Spells spelled command =
    AreInRange (row_of command).fields × (spelled ≡ (row_of command).name ∷ words_of (row_of command).fields)

-- the version has words of its own
abbrev pub HasOwnWords : Version → Type 0
HasOwnWords version.One = ⊥
HasOwnWords version.Two = ⊥
HasOwnWords version.Three = Unit {0}

-- the commands of a version: `policy` and `mend` are words of version 3, and all others are of each version
abbrev pub IsOf : Version → Command → Type 0
IsOf given (command.Enclave limits) = Unit {0}
IsOf given (command.Event event) = Unit {0}
IsOf given (command.Read question) = Unit {0}
IsOf given (command.Policy named) = HasOwnWords given
IsOf given (command.Mend cpu) = HasOwnWords given

-- in a script of this version these words ask for the command
abbrev pub AsksFor : Version → List (List ℕ) → Command → Type 0
AsksFor given spelled command = IsOf given command × Spells spelled command

-- a line without words, or whose first byte is `#`
abbrev pub HasNoReply : List ℕ → Type 0
HasNoReply line = (words line ≡ []) ⊎ (slice_get line 0 ≡ Some 35)

-- the line should have a reply, but its words ask for no command of the version
abbrev pub IsFault : Version → List ℕ → Type 0
IsFault given line = (HasNoReply line → ⊥) × ((command : Command) → AsksFor given (words line) command → ⊥)

-- what a line of a script of this version asks for
abbrev pub IsAsked : Version → List ℕ → Wish → Type 0
IsAsked given line wish.Nothing = HasNoReply line
IsAsked given line (wish.Answer command) = (HasNoReply line → ⊥) × AsksFor given (words line) command
IsAsked given line wish.Stop = IsFault given line
