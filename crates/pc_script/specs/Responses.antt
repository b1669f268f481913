-- The texts of responses.
use Rattle.std.specs.Prelude.{ℕ, Bool, true, false, List, [], ◌∷◌, ◌++◌, Option, Some, None, flat_map, codes, decimal}
use Rattle.std.specs.Prelude.{◌==◌, if◌then◌else◌}
use Rattle.pc_messages.specs.declared.reported.Phase.{Phase}
use Rattle.pc_messages.specs.State.{phase_word}
use Rattle.pc_messages.specs.declared.reported.Reported.{Reported}
use Rattle.pc_calls.specs.declared.call.Posted.{Posted}
use Rattle.pc_calls.specs.declared.call.Status.{Status}
use Rattle.pc_calls.specs.declared.event.Reply.{Reply}
use Rattle.pc_calls.specs.declared.event.Reply.TheVariants as reply
use Rattle.pc_calls.specs.declared.limits.LimitField.{LimitField}
use Rattle.pc_calls.specs.declared.limits.LimitField.TheVariants as limit
use Rattle.pc_calls.specs.declared.refusal.Refusal.{Refusal}
use Rattle.pc_calls.specs.declared.refusal.Refusal.TheVariants as refusal
use Rattle.pc_script.specs.Grammar.{thread_name}
use Rattle.pc_script.specs.declared.lists.ShownThread.{ShownThread}
use Rattle.pc_script.specs.declared.response.Response.{Response}
use Rattle.pc_script.specs.declared.response.Response.TheVariants as response

-- a text, and a line feed
abbrev pub text_line : List ℕ → List ℕ
text_line text = text ++ 10 ∷ []

-- a number, or `-`
abbrev pub number_or_dash : Option ℕ → List ℕ
number_or_dash None = codes "-"
number_or_dash (Some number) = decimal number

-- the names of limits
abbrev pub limit_text : LimitField → List ℕ
limit_text limit.Cpus = codes "cpus"
limit_text limit.Threads = codes "threads"
limit_text limit.Numbers = codes "numbers"
limit_text limit.Room = codes "room"
limit_text limit.Posts = codes "posts"

-- the names of refusals, and the argument of those that have one
abbrev pub refusal_text : Refusal → List ℕ
refusal_text refusal.BadCpu = codes "BadCpu"
refusal_text refusal.EmptyMask = codes "EmptyMask"
refusal_text refusal.MaskTooWide = codes "MaskTooWide"
refusal_text refusal.BadLevel = codes "BadLevel"
refusal_text refusal.NamesSpent = codes "NamesSpent"
refusal_text refusal.NumbersSpent = codes "NumbersSpent"
refusal_text refusal.QueueFull = codes "QueueFull"
refusal_text refusal.PostsSpent = codes "PostsSpent"
refusal_text refusal.UnknownThread = codes "UnknownThread"
refusal_text refusal.Dead = codes "Dead"
refusal_text refusal.NotBlocked = codes "NotBlocked"
refusal_text refusal.NotReady = codes "NotReady"
refusal_text refusal.IdleCpu = codes "IdleCpu"
refusal_text refusal.OnForbiddenCpu = codes "OnForbiddenCpu"
refusal_text refusal.TooMany = codes "TooMany"
refusal_text (refusal.Stale now) = codes "Stale " ++ decimal now
refusal_text refusal.Pending = codes "Pending"
refusal_text (refusal.Running cpu) = codes "Running " ++ decimal cpu
refusal_text (refusal.NotYours queue) = codes "NotYours " ++ decimal queue
refusal_text refusal.Forbidden = codes "Forbidden"
refusal_text refusal.Busy = codes "Busy"
refusal_text refusal.NoDelta = codes "NoDelta"
refusal_text refusal.NothingReady = codes "NothingReady"
refusal_text refusal.NothingToSteal = codes "NothingToSteal"
refusal_text refusal.WireFault = codes "WireFault"
refusal_text refusal.TooLate = codes "TooLate"

-- whose item was posted, and its number: `tN nN`, or `-` for a tick, which has neither (no item has one of the two)
abbrev pub subject_text : Option ℕ → Option ℕ → List ℕ
subject_text (Some thread) (Some number) = thread_name thread ++ (codes " n" ++ decimal number)
subject_text (Some thread) None = codes "-"
subject_text None number = codes "-"

-- `T nN qQ aA wake W`
abbrev pub posted_text : Posted → List ℕ
posted_text posted =
    subject_text posted.thread posted.number
    ++ (codes " q" ++ (decimal posted.queue
    ++ (codes " a" ++ (decimal posted.aseq ++ (codes " wake " ++ number_or_dash posted.woken)))))

-- where a thread runs: ` cC`, or nothing
abbrev pub running_text : Option ℕ → List ℕ
running_text None = []
running_text (Some cpu) = codes " c" ++ decimal cpu

-- `T nN PHASE`, and where the thread runs
abbrev pub status_text : ℕ → Status → Phase → List ℕ
status_text thread status phase =
    thread_name thread
    ++ (codes " n" ++ (decimal status.number
    ++ (codes " " ++ (phase_word phase ++ running_text status.running_on))))

-- `yes` or `no`
abbrev pub truth_text : Bool → List ℕ
truth_text true = codes "yes"
truth_text false = codes "no"

-- `equal` or `differ`
abbrev pub sameness_text : Bool → List ℕ
sameness_text true = codes "equal"
sameness_text false = codes "differ"

-- ` level L`, or nothing for the lowest level
abbrev pub level_text : ℕ → List ℕ
level_text level = if level == 0 then [] else codes " level " ++ decimal level

-- `PHASE mask M ran R`, and the level; `-` where the first message isn't known
abbrev pub reported_text : Option Reported → List ℕ
reported_text None = codes "-"
reported_text (Some reported) =
    phase_word reported.phase
    ++ (codes " mask "
    ++ (decimal reported.mask ++ (codes " ran " ++ (decimal reported.ran ++ level_text reported.level))))

-- numbers with a space between them, or `-`
abbrev pub numbers_text : List ℕ → List ℕ
numbers_text [] = codes "-"
numbers_text (first ∷ others) = decimal first ++ flat_map (λ number. 32 ∷ decimal number) others

-- `T upto P REPORTED early NUMBERS`
abbrev pub shown_text : ShownThread → List ℕ
shown_text shown =
    thread_name shown.thread
    ++ (codes " upto " ++ (decimal shown.upto ++ (codes " "
    ++ (reported_text shown.reported ++ (codes " early " ++ numbers_text shown.early)))))

-- a line for each thread
abbrev pub shown_lines : List ShownThread → List ℕ
shown_lines threads = flat_map (λ shown. text_line (shown_text shown)) threads

-- what an event is replied
abbrev pub reply_text : Reply → List ℕ
reply_text reply.Done = codes "ok"
reply_text (reply.Posted posted) = codes "ok " ++ posted_text posted
reply_text (reply.Associated queue thread) = codes "ok " ++ (thread_name thread ++ (codes " q" ++ decimal queue))
reply_text (reply.Committed cpu thread) = codes "ok " ++ (thread_name thread ++ (codes " c" ++ decimal cpu))
reply_text (reply.Published delta items) = codes "ok d" ++ (decimal delta ++ (codes " items " ++ decimal items))
reply_text (reply.Consumed items) = codes "ok " ++ decimal items
reply_text (reply.Answered delta) = codes "ok d" ++ decimal delta
reply_text (reply.Refused refusal) = codes "refused " ++ refusal_text refusal

-- the text of a response, without the line feed at its end
abbrev pub response_text : Response → List ℕ
response_text response.Opened = codes "ok"
response_text response.NoEnclave = codes "refused NoEnclave"
response_text response.HaveEnclave = codes "refused HaveEnclave"
response_text (response.BadLimits limit) = codes "refused BadLimits " ++ limit_text limit
response_text (response.Event reply) = reply_text reply
response_text (response.Status phase thread status) = status_text thread status phase
response_text (response.Truth truth) = truth_text truth
response_text (response.Sameness equal) = sameness_text equal
response_text (response.View threads) = shown_lines threads ++ codes "end"
response_text (response.Refused refusal) = codes "refused " ++ refusal_text refusal
response_text (response.Ruled policy) = codes "ok"
