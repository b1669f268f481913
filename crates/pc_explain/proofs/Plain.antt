-- What is answered is lines, none of which is a comment.
use Rattle.std.proofs.Common.{◌≡◌, ℕ, List, [], ◌∷◌, ◌++◌, Bool, true, false, eqb, if◌then◌else◌, refl, ◌∙◌, Option, Some, None, codes, decimal, flat_map, arith, append_assoc}
use Rattle.pc_calls.specs.declared.call.Posted.{Posted}
use Rattle.pc_calls.specs.declared.call.Status.{Status}
use Rattle.pc_calls.specs.declared.event.Reply.{Reply}
use Rattle.pc_calls.specs.declared.event.Reply.TheVariants as reply
use Rattle.pc_calls.specs.declared.limits.LimitField.{LimitField}
use Rattle.pc_calls.specs.declared.limits.LimitField.TheVariants as limit
use Rattle.pc_calls.specs.declared.refusal.Refusal.{Refusal}
use Rattle.pc_calls.specs.declared.refusal.Refusal.TheVariants as refusal
use Rattle.pc_messages.specs.declared.reported.Phase.{Phase}
use Rattle.pc_messages.specs.declared.reported.Phase.TheVariants as phase
use Rattle.pc_messages.specs.declared.reported.Reported.{Reported}
use Rattle.pc_pen.proofs.Decimals.{decimal_without as without_byte}
use Rattle.pc_messages.specs.State.{phase_word}
use Rattle.pc_script.specs.Responses.{text_line, limit_text, refusal_text, number_or_dash, subject_text, posted_text, running_text, status_text, level_text, reported_text, numbers_text, shown_text, shown_lines, reply_text, response_text}
use Rattle.pc_script.specs.Scripts.{outcome_text}
use Rattle.pc_script.specs.Versions.{opening_text}
use Rattle.pc_script.specs.declared.version.Version.{Version}
use Rattle.pc_script.specs.declared.version.Version.TheVariants as version
use Rattle.pc_script.specs.declared.lists.ShownThread.{ShownThread}
use Rattle.pc_script.specs.declared.outcome.Outcome.TheVariants.{FaultLine}
use Rattle.pc_script.specs.declared.response.Response.{Response}
use Rattle.pc_script.specs.declared.response.Response.TheVariants as response
use Rattle.pc_explain.specs.Comments.{is_comment}
use Rattle.pc_explain.specs.Inner.Annotated.{HasNoLineFeed, IsAnnotated, at_end, told}
use Rattle.pc_explain.proofs.Annotations.{without-append}

-- ---- numbers

pub decimal_without : (n : ℕ) → HasNoLineFeed (decimal n)
decimal_without n = without_byte 10 (omega arith) n

either_without : (b : Bool) (one other : List ℕ) → HasNoLineFeed one → HasNoLineFeed other → HasNoLineFeed (if b then one else other)
either_without true one other h k = h
either_without false one other h k = k

then_more : (n : ℕ) (rest : List ℕ) → HasNoLineFeed rest → HasNoLineFeed (decimal n ++ rest)
then_more n rest h = without-append (decimal n) rest (decimal_without n) h

-- ---- parts of answers

limit_without : (l : LimitField) → HasNoLineFeed (limit_text l)
limit_without limit.Cpus = refl
limit_without limit.Threads = refl
limit_without limit.Numbers = refl
limit_without limit.Room = refl
limit_without limit.Posts = refl

refusal_without : (r : Refusal) → HasNoLineFeed (refusal_text r)
refusal_without (refusal.Stale now) = decimal_without now
refusal_without (refusal.Running cpu) = decimal_without cpu
refusal_without (refusal.NotYours queue) = decimal_without queue
refusal_without _ = refl

subject_without : (thread number : Option ℕ) → HasNoLineFeed (subject_text thread number)
subject_without (Some thread) (Some number) = then_more thread (codes " n" ++ decimal number) (decimal_without number)
subject_without (Some thread) None = refl
subject_without None number = refl

dash_without : (number : Option ℕ) → HasNoLineFeed (number_or_dash number)
dash_without None = refl
dash_without (Some number) = decimal_without number

posted_without : (posted : Posted) → HasNoLineFeed (posted_text posted)
posted_without posted =
    let woken = codes " wake " ++ number_or_dash posted.woken in
    let aseq = codes " a" ++ (decimal posted.aseq ++ woken) in
    let queue = codes " q" ++ (decimal posted.queue ++ aseq) in
    without-append (subject_text posted.thread posted.number) queue (subject_without posted.thread posted.number)
    (then_more posted.queue aseq (then_more posted.aseq woken (dash_without posted.woken)))

phase_then : (p : Phase) (rest : List ℕ) → HasNoLineFeed rest → HasNoLineFeed (phase_word p ++ rest)
phase_then phase.Ready rest h = h
phase_then phase.Blocked rest h = h
phase_then phase.Dead rest h = h

running_without : (cpu : Option ℕ) → HasNoLineFeed (running_text cpu)
running_without None = refl
running_without (Some cpu) = decimal_without cpu

status_without : (thread : ℕ) (status : Status) (p : Phase) → HasNoLineFeed (status_text thread status p)
status_without thread status p =
    let last = phase_word p ++ running_text status.running_on in
    let middle = decimal status.number ++ (codes " " ++ last) in
    then_more thread (codes " n" ++ middle)
    (then_more status.number (codes " " ++ last) (phase_then p (running_text status.running_on) (running_without status.running_on)))

level_without : (level : ℕ) → HasNoLineFeed (level_text level)
level_without level = either_without (eqb level 0) [] (codes " level " ++ decimal level) refl (decimal_without level)

reported_without : (reported : Option Reported) → HasNoLineFeed (reported_text reported)
reported_without None = refl
reported_without (Some reported) =
    let ran = codes " ran " ++ (decimal reported.ran ++ level_text reported.level) in
    phase_then reported.phase (codes " mask " ++ (decimal reported.mask ++ ran))
    (then_more reported.mask ran (then_more reported.ran (level_text reported.level) (level_without reported.level)))

others_without : (numbers : List ℕ) → HasNoLineFeed (flat_map (λ number. 32 ∷ decimal number) numbers)
others_without [] = refl
others_without (number ∷ numbers) = then_more number (flat_map (λ n. 32 ∷ decimal n) numbers) (others_without numbers)

numbers_without : (numbers : List ℕ) → HasNoLineFeed (numbers_text numbers)
numbers_without [] = refl
numbers_without (first ∷ others) = then_more first (flat_map (λ n. 32 ∷ decimal n) others) (others_without others)

shown_without : (shown : ShownThread) → HasNoLineFeed (shown_text shown)
shown_without shown =
    let early = codes " early " ++ numbers_text shown.early in
    let reported = codes " " ++ (reported_text shown.reported ++ early) in
    then_more shown.thread (codes " upto " ++ (decimal shown.upto ++ reported))
    (then_more shown.upto reported
    (without-append (reported_text shown.reported) early (reported_without shown.reported) (numbers_without shown.early)))

-- ---- answers

-- one line that is no comment
one_line : (line : List ℕ) → HasNoLineFeed line → is_comment line ≡ false → IsAnnotated (text_line line) (text_line line)
one_line line none other = told line none other at_end

shown_annotated : (threads : List ShownThread) (rest : List ℕ) → IsAnnotated rest rest
    → IsAnnotated (shown_lines threads ++ rest) (shown_lines threads ++ rest)
shown_annotated [] rest h = h
shown_annotated (shown ∷ threads) rest h =
    let line = shown_text shown in
    let grouped : shown_lines (shown ∷ threads) ++ rest ≡ line ++ 10 ∷ (shown_lines threads ++ rest) =
    append_assoc (text_line line) (shown_lines threads) rest ∙ append_assoc line (10 ∷ []) (shown_lines threads ++ rest) in
    rw grouped (told line (shown_without shown) refl (shown_annotated threads rest h))

reply_annotated : (r : Reply) → IsAnnotated (text_line (reply_text r)) (text_line (reply_text r))
reply_annotated reply.Done = one_line (codes "ok") refl refl
reply_annotated (reply.Posted posted) = one_line (codes "ok " ++ posted_text posted) (posted_without posted) refl
reply_annotated (reply.Associated queue thread) =
    one_line (reply_text (reply.Associated queue thread)) (then_more thread (codes " q" ++ decimal queue) (decimal_without queue)) refl
reply_annotated (reply.Committed cpu thread) =
    one_line (reply_text (reply.Committed cpu thread)) (then_more thread (codes " c" ++ decimal cpu) (decimal_without cpu)) refl
reply_annotated (reply.Published delta items) =
    one_line (reply_text (reply.Published delta items)) (then_more delta (codes " items " ++ decimal items) (decimal_without items)) refl
reply_annotated (reply.Consumed items) = one_line (reply_text (reply.Consumed items)) (decimal_without items) refl
reply_annotated (reply.Answered delta) = one_line (reply_text (reply.Answered delta)) (decimal_without delta) refl
reply_annotated (reply.Refused refusal) = one_line (reply_text (reply.Refused refusal)) (refusal_without refusal) refl

pub response_annotated : (r : Response) → IsAnnotated (text_line (response_text r)) (text_line (response_text r))
response_annotated response.Opened = one_line (codes "ok") refl refl
response_annotated response.NoEnclave = one_line (codes "refused NoEnclave") refl refl
response_annotated response.HaveEnclave = one_line (codes "refused HaveEnclave") refl refl
response_annotated (response.BadLimits limit) = one_line (response_text (response.BadLimits limit)) (limit_without limit) refl
response_annotated (response.Event reply) = reply_annotated reply
response_annotated (response.Status phase thread status) =
    one_line (status_text thread status phase) (status_without thread status phase) refl
response_annotated (response.Truth true) = one_line (codes "yes") refl refl
response_annotated (response.Truth false) = one_line (codes "no") refl refl
response_annotated (response.Sameness true) = one_line (codes "equal") refl refl
response_annotated (response.Sameness false) = one_line (codes "differ") refl refl
response_annotated (response.View threads) =
    rw (append_assoc (shown_lines threads) (codes "end") (10 ∷ [])) (shown_annotated threads (codes "end" ++ 10 ∷ []) (one_line (codes "end") refl refl))
response_annotated (response.Refused refusal) = one_line (response_text (response.Refused refusal)) (refusal_without refusal) refl
response_annotated (response.Ruled policy) = one_line (codes "ok") refl refl

-- the answer to the version line
pub opening_annotated : (v : Version) → IsAnnotated (opening_text v) (opening_text v)
opening_annotated version.One = at_end
opening_annotated version.Two = one_line (codes "ok") refl refl
opening_annotated version.Three = one_line (codes "ok") refl refl

-- what is written at a fault
pub fault_annotated : (number : ℕ) → IsAnnotated (outcome_text (FaultLine number)) (outcome_text (FaultLine number))
fault_annotated number = one_line (codes "fault line " ++ decimal number) (decimal_without number) refl
