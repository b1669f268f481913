-- One agent in plain words: what it has taken in, its run list, and how much of its queue it has sent.
use Rattle.std.specs.Prelude.{ℕ, ◌==◌, not, ◌&&◌, Bool, true, false, List, [], ◌∷◌, ◌++◌, Option, Some, None}
use Rattle.std.specs.Prelude.{is_some, is_none}
use Rattle.std.specs.Prelude.{if◌then◌else◌}
use Rattle.std.specs.List.{filter_map}
use Rattle.pc_messages.specs.Items.{thread_in, pairs_in}
use Rattle.pc_messages.specs.Run.{Run}
use Rattle.pc_messages.specs.declared.message.Item.{Item}
use Rattle.pc_messages.specs.declared.reported.Reported.{Reported}
use Rattle.pc_calls.specs.AgentCalls.{commits}
use Rattle.pc_calls.specs.Conditions.{first_of}
use Rattle.pc_calls.specs.declared.refusal.Refusal.{Refusal}
use Rattle.pc_calls.specs.declared.refusal.Refusal.TheVariants as refusal
use Rattle.pc_kernel.specs.Reads.{Reads, is_known, number_read, place, aseq_read, on}
use Rattle.pc_kernel.specs.Steps.{refused}
use Rattle.pc_view.specs.declared.view.View.{View}
use Rattle.pc_view.specs.Prefixes.{reported_in, reports, upto, upto_of}
use Rattle.pc_policy.specs.Rules.{Rules}
use Rattle.pc_run_queue.specs.Names.{has_name}
use Rattle.pc_run_queue.specs.Runs.{may_run, rank_told, refreshed_as}

-- a finite set of pairs of a thread's name and a number
abbrev pub Set : Type 0
Set = List (ℕ × ℕ)

-- one agent in plain words
pub record PlainAgent : Type 0 where
  pub known : Set  -- what it has taken in
  pub list : List ℕ  -- its run list, the first name first
  pub sent_items : ℕ  -- how many items at the front of its queue it has sent
  pub rules : Rules  -- what it goes by

-- an agent of these rules that starts, or starts again
abbrev pub fresh : Rules → PlainAgent
fresh rules = record { known = []; list = []; sent_items = 0; rules = rules }

-- the view of the set in the run reports the thread ready and allowed on the CPU
abbrev pub runs_here : Run → Set → ℕ → ℕ → Bool
runs_here run set cpu t = may_run (reports run set t) cpu

-- the threads of items, in order
abbrev pub threads_in : List Item → List ℕ
threads_in items = filter_map thread_in items

-- the agent takes a set in
abbrev pub taking_in : Set → PlainAgent → PlainAgent
taking_in set p = record p { known = p.known ++ set }

-- the agent of a CPU takes items in, and refreshes its run list, in which their threads are touched
abbrev pub copied : Run → ℕ → List Item → PlainAgent → PlainAgent
copied run cpu items p =
    let set = p.known ++ pairs_in items in
    record p { known = set; list = refreshed_as p.rules.ranks (reports run set) cpu p.list (threads_in items) }

-- the names from the first one on that passes the test
abbrev pub from_first : (ℕ → Bool) → List ℕ → List ℕ
from_first test [] = []
from_first test (t ∷ ts) = if test t then t ∷ ts else from_first test ts

-- the names of a run list from the first one on that the kernel would commit
abbrev pub ready_list : Reads → ℕ → ℕ → List ℕ → List ℕ
ready_list r cpu n names = from_first (λ t. is_none (refused r (commits cpu t n))) names

-- no name is in the list
abbrev pub is_empty_list : List ℕ → Bool
is_empty_list [] = true
is_empty_list (t ∷ ts) = false

-- why a pick is refused, in order
abbrev pub pick_refused : Reads → ℕ → ℕ → List ℕ → Option Refusal
pick_refused r cpu n names =
    first_of (
    (not (n == aseq_read r cpu), refusal.Stale (aseq_read r cpu))
    ∷ (is_some (on r cpu), refusal.Busy)
    ∷ (is_empty_list (ready_list r cpu n names), refusal.NothingReady)
    ∷ [])

-- the kernel knows the thread, and has it on no CPU
abbrev pub is_idle : Reads → ℕ → Bool
is_idle r t = is_known r t && is_none (place r t)

-- a thread that an agent would have, whatever the kernel says: it may run here, and is not in the run list
abbrev pub is_wanted : (ℕ → Bool) → List ℕ → ℕ → Bool
is_wanted runs list t = runs t && not (has_name list t)

-- a thread that an agent may take over: it is wanted, and runs nowhere
abbrev pub may_take : Reads → (ℕ → Bool) → List ℕ → ℕ → Bool
may_take r runs list t = is_wanted runs list t && is_idle r t

-- what is known of each thread: how many messages from the first on, and the state that they report
pub record Knowledge : Type 0 where
  pub upto : ℕ → ℕ
  pub reported : ℕ → Option Reported

-- by a set of messages of a run
abbrev pub known_by : Run → Set → Knowledge
known_by run set = record { upto = upto set; reported = reports run set }

-- by what a view tells
abbrev pub known_in : View → Knowledge
known_in view = record { upto = upto_of view; reported = reported_in view }

-- where a thread stands among those that an agent may take over, the least first: all alike; or, where steals are
-- exact, by its rank on the CPU, and nowhere while a message of it is not known, or where it has no rank
abbrev pub standing : Rules → Reads → Knowledge → ℕ → ℕ → Option ℕ
standing rules r known cpu t =
    if rules.exact then
    (if known.upto t == number_read r t then rank_told rules.ranks cpu t (known.reported t) else None)
    else Some 0

-- the same of every thread: nowhere, where the agent may not take it over
abbrev pub candidates : Rules → Reads → Knowledge → ℕ → List ℕ → ℕ → Option ℕ
candidates rules r known cpu list t =
    if may_take r (λ other. may_run (known.reported other) cpu) list t then standing rules r known cpu t else None

-- by what the agent's set in the run tells
abbrev pub stealing : Reads → Run → ℕ → PlainAgent → ℕ → Option ℕ
stealing r run cpu p = candidates p.rules r (known_by run p.known) cpu p.list
