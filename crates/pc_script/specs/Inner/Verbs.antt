-- The first words of commands, and the fields after each.
use Rattle.std.specs.Prelude.{◌≡◌, ℕ, Bool, false, List, [], ◌∷◌, Option, None, zero, suc}
use Rattle.pc_calls.specs.declared.call.AgentCall.TheVariants as agent_call
use Rattle.pc_calls.specs.declared.call.EnvCall.TheVariants as env
use Rattle.pc_calls.specs.declared.event.Event.TheVariants as event
use Rattle.pc_script.specs.Grammar.{Field, Processors, Processor, Queue, Level, Count, Mask, Index, Thread, State}
use Rattle.pc_script.specs.Grammar.{Target, Failure, Policy, AreInRange, row_of, spaced, words_of}
use Rattle.pc_script.specs.Inner.Readings.{Kind, kinds_of}
use Rattle.pc_script.specs.declared.command.Command.{Command}
use Rattle.pc_script.specs.declared.command.Command.TheVariants as command
use Rattle.pc_policy.specs.Names.{IsPolicy}
use Rattle.pc_policy.specs.declared.named.OrderName.TheVariants.{Levels}
use Rattle.pc_policy.specs.declared.named.PolicyName.{PolicyName}
use Rattle.pc_script.specs.declared.command.Read.TheVariants as read
use Rattle.pc_script.specs.declared.grammar.Verb.{Verb}
use Rattle.pc_script.specs.declared.grammar.Verb.TheVariants as verb

-- a field's number, how a thread starts, whom a queue wakes, whether a send fails, what agents go by; of another field
-- anything
abbrev pub number_in : Field → ℕ
number_in (Processors number) = number
number_in (Processor cpu) = cpu
number_in (Queue queue) = queue
number_in (Level level) = level
number_in (Count number) = number
number_in (Mask mask) = mask
number_in (Index index) = index
number_in (Thread thread) = thread
number_in (State is_ready) = 0
number_in (Target cpu) = 0
number_in (Failure fails) = 0
number_in (Policy named) = 0

abbrev pub state_in : Field → Bool
state_in (State is_ready) = is_ready
state_in _ = false

abbrev pub target_in : Field → Option ℕ
target_in (Target cpu) = cpu
target_in _ = None

abbrev pub failure_in : Field → Bool
failure_in (Failure fails) = fails
failure_in _ = false

abbrev pub policy_in : Field → PolicyName
policy_in (Policy named) = named
policy_in _ = record { order = Levels; exact = false }

-- the field at a place, and what it holds
abbrev pub field_at : ℕ → List Field → Field
field_at place [] = Count 0
field_at zero (field ∷ fields) = field
field_at (suc place) (field ∷ fields) = field_at place fields

abbrev pub number_at : ℕ → List Field → ℕ
number_at place fields = number_in (field_at place fields)

-- the command with this first word and these fields
abbrev pub back : Verb → List Field → Command
back verb.Enclave f = command.Enclave (record {
  cpus = number_at 0 f;
  threads = number_at 1 f;
  numbers = number_at 2 f;
  room = number_at 3 f;
  posts = number_at 4 f;
})
back verb.Create f = command.Event (event.Env (env.Create (number_at 0 f) (state_in (field_at 2 f)) (number_at 1 f)))
back verb.Wake f = command.Event (event.Env (env.Wake (number_at 0 f)))
back verb.Block f = command.Event (event.Env (env.Block (number_at 0 f) (number_at 1 f)))
back verb.Yield f = command.Event (event.Env (env.YieldNow (number_at 0 f) (number_at 1 f)))
back verb.Preempt f = command.Event (event.Env (env.Preempt (number_at 0 f) (number_at 1 f)))
back verb.Die f = command.Event (event.Env (env.Die (number_at 0 f) (number_at 1 f)))
back verb.Affinity f = command.Event (event.Env (env.SetAffinity (number_at 0 f) (number_at 1 f)))
back verb.Priority f = command.Event (event.Env (env.SetPriority (number_at 0 f) (number_at 1 f)))
back verb.Tick f = command.Event (event.Env (env.Tick (number_at 0 f)))
back verb.Associate f =
    command.Event (event.Agent (agent_call.Associate (number_at 0 f) (number_at 1 f) (number_at 2 f)))
back verb.Commit f = command.Event (event.Agent (agent_call.Commit (number_at 0 f) (number_at 1 f) (number_at 2 f)))
back verb.Sleep f = command.Event (event.Agent (agent_call.Sleep (number_at 0 f) (number_at 1 f)))
back verb.Rouse f = command.Event (event.Agent (agent_call.Rouse (number_at 0 f)))
back verb.Config f = command.Event (event.Agent (agent_call.Config (number_at 0 f) (target_in (field_at 1 f))))
back verb.Publish f = command.Event (event.Publish (number_at 0 f) (failure_in (field_at 1 f)))
back verb.Consume f = command.Event (event.Consume (number_at 0 f))
back verb.Deliver f = command.Event (event.Deliver (number_at 0 f) (number_at 1 f))
back verb.Answer f = command.Event (event.Answer (number_at 0 f) (number_at 1 f))
back verb.Pick f = command.Event (event.Pick (number_at 0 f) (number_at 1 f))
back verb.Steal f = command.Event (event.Steal (number_at 0 f))
back verb.Crash f = command.Event (event.Crash (number_at 0 f))
back verb.Status f = command.Read (read.Status (number_at 0 f))
back verb.Asleep f = command.Read (read.Asleep (number_at 0 f))
back verb.Show f = command.Read (read.Show (number_at 0 f))
back verb.Same f = command.Read (read.Same (number_at 0 f) (number_at 1 f))
back verb.Complete f = command.Read (read.Complete (number_at 0 f) (number_at 1 f))
back verb.Policy f = command.Policy (policy_in (field_at 0 f))
back verb.Mend f = command.Mend (number_at 0 f)

-- a verb's word, and the kinds of the fields after it, as the table has them
abbrev pub name_of : Verb → List ℕ
name_of verb = (row_of (back verb [])).name

abbrev pub kinds : Verb → List Kind
kinds verb = kinds_of (row_of (back verb [])).fields

-- behind the verb no words of a command of it are left
abbrev pub SpellsNone : Verb → List (List ℕ) → Type 0
SpellsNone verb.Policy left = (any : PolicyName) → IsPolicy (spaced left) any → ⊥
SpellsNone verb left = (any : List Field) → kinds_of any ≡ kinds verb → AreInRange any → left ≡ words_of any → ⊥
