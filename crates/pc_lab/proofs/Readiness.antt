-- Waits, as moments go on.
use Rattle.std.proofs.Common.{◌≡◌, ◌<◌, ◌≤◌, ◌⊎◌, inl, inr, ◌∙◌, ℕ, zero, suc, List, [], ◌∷◌, ◌++◌, Bool, true, false, if◌then◌else◌, Some, nat_abs, unwrap_or, option_map, get_or, length, map, slice_get, OnErr, OnOk, Result, Ok, Err, refl, sym, ap, subst, arith}
use Rattle.std.specs.Option.{option_map_or}
use Rattle.std.proofs.lemmas.Bool.{cases_lt}
use Rattle.std.proofs.lemmas.List.{append_assoc, append-nil, length-append}
use Rattle.std.proofs.lemmas.Option.{slice_get-map, slice_get_read}
use Rattle.pc_calls.specs.declared.event.Reply.{Reply}
use Rattle.pc_calls.specs.declared.event.Reply.TheVariants as reply
use Rattle.pc_kernel.specs.Reads.{Reads, is_waiting}
use Rattle.pc_load.specs.Loads.{Demand, need_of}
use Rattle.pc_load.specs.declared.load.ThreadLoad.{ThreadLoad}
use Rattle.pc_lab.specs.declared.fault.LabFault.{LabFault}
use Rattle.pc_lab.specs.declared.waits.Wait.{Wait}
use Rattle.pc_lab.specs.declared.waits.Waiter.{Waiter}
use Rattle.pc_lab.specs.Moments.{Moment}
use Rattle.pc_lab.specs.Waiters.{AreBehind, AreNext, level_in, since_in, since_of, wait_in}
use Rattle.pc_lab.specs.Waiting.{Since, at_start, ended_after, ended_by, ended_waits, level_of, ready_after, ready_in, ready_since, unended_waits, wait_behind, waited, waits_below}

-- one moment more is the last that may have made the thread ready
pub ready_one_more : (t : ℕ) (before : Since) (moments : List Moment) (moment : Moment)
    → ready_after t before (moments ++ moment ∷ []) ≡ unwrap_or (ready_in t moment) (ready_after t before moments)
ready_one_more t before [] moment = refl
ready_one_more t before (first ∷ moments) moment = ready_one_more t (unwrap_or (ready_in t first) before) moments moment

-- one moment more may end a wait
ended_one_more : (load : Demand) (before moments : List Moment) (moment : Moment)
    → ended_after load before (moments ++ moment ∷ []) ≡ ended_after load before moments ++ ended_by (wait_behind load (before ++ moments) moment.tick) moment.reply
ended_one_more load before [] moment =
    append-nil (ended_by (wait_behind load before moment.tick) moment.reply)
    ∙ ap (λ those. ended_by (wait_behind load those moment.tick) moment.reply) (sym (append-nil before))
ended_one_more load before (first ∷ moments) moment =
    let now = ended_by (wait_behind load before first.tick) first.reply in
    let later = ended_after load (before ++ first ∷ []) moments in
    ap (λ rest. now ++ rest) (ended_one_more load (before ++ first ∷ []) moments moment)
    ∙ ap (λ those. now ++ (later ++ ended_by (wait_behind load those moment.tick) moment.reply)) (append_assoc before (first ∷ []) moments)
    ∙ sym (append_assoc now later (ended_by (wait_behind load (before ++ first ∷ moments) moment.tick) moment.reply))

-- a wait by what is kept of a thread is that by the moments
pub same_wait : (load : Demand) (moments : List Moment) (waiters : List Waiter) (tick t : ℕ) → AreBehind load moments waiters → t < length waiters
    → wait_in waiters tick t ≡ wait_behind load moments tick t
same_wait load moments waiters tick t behind low =
    ap (λ since. waited since (level_in waiters t) tick) (behind.since t) ∙ ap (λ level. waited (ready_since moments t) level tick) (behind.levels t low)

same_ended : (f g : ℕ → Wait) (told : Reply) → ((cpu thread : ℕ) → told ≡ reply.Committed cpu thread → f thread ≡ g thread) → ended_by f told ≡ ended_by g told
same_ended f g reply.Done same = refl
same_ended f g (reply.Posted posted) same = refl
same_ended f g (reply.Associated queue thread) same = refl
same_ended f g (reply.Committed cpu thread) same = ap (λ wait. wait ∷ []) (same cpu thread refl)
same_ended f g (reply.Published delta items) same = refl
same_ended f g (reply.Consumed items) same = refl
same_ended f g (reply.Answered delta) same = refl
same_ended f g (reply.Refused refusal) same = refl

-- the waits that ended are those of one moment more
pub told_more : (load : Demand) (moments : List Moment) (moment : Moment) (waiters : List Waiter) (waits waits' : List Wait) → AreBehind load moments waiters
    → waits ≡ ended_waits load moments → waits' ≡ waits ++ ended_by (wait_in waiters moment.tick) moment.reply
    → ((cpu thread : ℕ) → moment.reply ≡ reply.Committed cpu thread → thread < length waiters) → waits' ≡ ended_waits load (moments ++ moment ∷ [])
told_more load moments moment waiters waits waits' behind told more known =
    let same : ended_by (wait_in waiters moment.tick) moment.reply ≡ ended_by (wait_behind load moments moment.tick) moment.reply =
    same_ended (wait_in waiters moment.tick) (wait_behind load moments moment.tick) moment.reply
    (λ cpu thread is. same_wait load moments waiters moment.tick thread behind (known cpu thread is)) in
    more ∙ ap (λ those. those ++ ended_by (wait_in waiters moment.tick) moment.reply) told ∙ ap (λ now. ended_waits load moments ++ now) same
    ∙ sym (ended_one_more load [] moments moment)

-- what is kept goes on by one moment
pub behind_more : (load : Demand) (moments : List Moment) (moment : Moment) (old new : List Waiter) → AreBehind load moments old
    → AreNext (λ t. unwrap_or (ready_in t moment) (since_in old t)) old new → AreBehind load (moments ++ moment ∷ []) new
behind_more load moments moment old new behind next =
    record {
      since = λ t. next.since t ∙ ap (λ since. unwrap_or (ready_in t moment) since) (behind.since t) ∙ sym (ready_one_more t at_start moments moment);
      levels = λ t low. next.levels t ∙ behind.levels t (subst (λ n. t < n) next.many low);
    }

-- at the start there is nobody
pub behind_none : (load : Demand) → AreBehind load [] []
behind_none load = record { since = λ t. refl; levels = λ t low. absurd (omega (arith, low)) }

since_pushed : (waiters : List Waiter) (one : Waiter) (t : ℕ) → since_of one ≡ at_start → since_in (waiters ++ one ∷ []) t ≡ since_in waiters t
since_pushed [] one zero is = is
since_pushed [] one (suc t) is = refl
since_pushed (first ∷ waiters) one zero is = refl
since_pushed (first ∷ waiters) one (suc t) is = since_pushed waiters one t is

level_pushed : (waiters : List Waiter) (one : Waiter) (t : ℕ) → t < length waiters → level_in (waiters ++ one ∷ []) t ≡ level_in waiters t
level_pushed [] one t low = absurd (omega (arith, low))
level_pushed (first ∷ waiters) one zero low = refl
level_pushed (first ∷ waiters) one (suc t) low = level_pushed waiters one t (omega (arith, low))

level_last : (waiters : List Waiter) (one : Waiter) → level_in (waiters ++ one ∷ []) (length waiters) ≡ one.level
level_last [] one = refl
level_last (first ∷ waiters) one = level_last waiters one

-- the level of the thread at a place of a load
level_there : (load : Demand) (threads : List ThreadLoad) (place : ℕ) (thread : ThreadLoad) → map need_of threads ≡ load.threads → place < length threads
    → thread ≡ get_or threads place thread → thread.level ≡ level_of load place
level_there load threads place thread same low there =
    let at : slice_get load.threads place ≡ Some (need_of thread) =
    ap (λ needs. slice_get needs place) (sym same) ∙ slice_get-map need_of threads place
    ∙ ap (option_map need_of) (slice_get_read threads (length threads) place thread refl low there) in
    ap (λ found. option_map_or (λ need. nat_abs need.level) found 0) (sym at)

-- one thread more is kept, which nothing has made ready yet
pub behind_pushed : (load : Demand) (moments : List Moment) (threads : List ThreadLoad) (waiters : List Waiter) (thread : ThreadLoad) (one : Waiter)
    → AreBehind load moments waiters → map need_of threads ≡ load.threads → length waiters < length threads → thread ≡ get_or threads (length waiters) thread
    → since_of one ≡ at_start → one.level ≡ thread.level → AreBehind load moments (waiters ++ one ∷ [])
behind_pushed load moments threads waiters thread one behind same low there new level =
    record {
      since = λ t. since_pushed waiters one t new ∙ behind.since t;
      levels = λ t below. at t (cases_lt t (length waiters)) (omega (arith, below, length-append waiters (one ∷ [])));
    }
  where
    at : (t : ℕ) → (t < length waiters) ⊎ (length waiters ≤ t) → t ≤ length waiters → level_in (waiters ++ one ∷ []) t ≡ level_of load t
    at t (inl low) most = level_pushed waiters one t low ∙ behind.levels t low
    at t (inr high) most =
        let last : length waiters ≡ t = omega (arith, high, most) in
        ap (level_in (waiters ++ one ∷ [])) (sym last) ∙ level_last waiters one ∙ level
        ∙ level_there load threads (length waiters) thread same low there ∙ ap (level_of load) last

-- a thread was added, or not
added : (result : Result Unit LabFault) (old new : List Waiter) (one : Waiter) → OnOk result (new ≡ old ++ one ∷ []) → OnErr result (new ≡ old)
    → (new ≡ old ++ one ∷ []) ⊎ (new ≡ old)
added (Ok done) old new one more same = inl more
added (Err fault) old new one more same = inr same

-- and what is kept is that of the same moments
pub behind_added : (load : Demand) (threads : List ThreadLoad) (thread : ThreadLoad) (one : Waiter) (result : Result Unit LabFault) (old new : List Waiter)
    → map need_of threads ≡ load.threads → length old < length threads → thread ≡ get_or threads (length old) thread
    → since_of one ≡ at_start → one.level ≡ thread.level → OnOk result (new ≡ old ++ one ∷ []) → OnErr result (new ≡ old)
    → (moments : List Moment) → AreBehind load moments old → AreBehind load moments new
behind_added load threads thread one result old new same low there fresh level more none moments behind = by (added result old new one more none)
  where
    by : (new ≡ old ++ one ∷ []) ⊎ (new ≡ old) → AreBehind load moments new
    by (inl is) = subst (λ waiters. AreBehind load moments waiters) (sym is) (behind_pushed load moments threads old thread one behind same low there fresh level)
    by (inr is) = subst (λ waiters. AreBehind load moments waiters) (sym is) behind

-- the waits of threads below a name are the same by two readings that agree on those that wait
if_same : (is : Bool) (one other : Wait) → (is ≡ true → one ≡ other) → (if is then one ∷ [] else []) ≡ (if is then other ∷ [] else [])
if_same true one other same = ap (λ wait. wait ∷ []) (same refl)
if_same false one other same = refl

pub same_below : (f g : ℕ → Wait) (kernel : Reads) (n : ℕ) → ((t : ℕ) → t < n → is_waiting kernel t ≡ true → f t ≡ g t) → waits_below f kernel n ≡ waits_below g kernel n
same_below f g kernel zero same = refl
same_below f g kernel (suc n) same =
    let low : n < suc n = omega arith in
    ap (λ before. before ++ (if is_waiting kernel n then f n ∷ [] else []))
    (same_below f g kernel n (λ t below waits. same t (omega (arith, below)) waits))
    ∙ ap (λ last. waits_below g kernel n ++ last) (if_same (is_waiting kernel n) (f n) (g n) (same n low))

-- the waits that have not ended are those by the moments
pub unended_told : (load : Demand) (moments : List Moment) (waiters : List Waiter) (kernel : Reads) (tick : ℕ) → AreBehind load moments waiters
    → ((t : ℕ) → t < kernel.threads → is_waiting kernel t ≡ true → t < length waiters)
    → waits_below (wait_in waiters tick) kernel kernel.threads ≡ unended_waits load moments kernel tick
unended_told load moments waiters kernel tick behind known =
    same_below (wait_in waiters tick) (wait_behind load moments tick) kernel kernel.threads
    (λ t low waits. same_wait load moments waiters tick t behind (known t low waits))
