-- What the agents of a world have counted behind events.
use Rattle.std.proofs.Common.{◌≡◌, ℕ, zero, suc, ◌+◌, ◌<◌, ◌≤◌, false, List, [], ◌∷◌, ◌++◌, length, take, Option, Some, None, Result, Ok, Err, OnOk, OnErr, IfSome, MatchOption, slice_get, get_or, drop, set, refl, sym, ◌∙◌, ap, append_assoc, subst, inl, inr, arith, if◌then◌else◌}
use Rattle.std.specs.Option.{option_map}
use Rattle.std.proofs.lemmas.Bool.{ltb-false}
use Rattle.std.proofs.lemmas.Bool.Decides.{eqb_tells}
use Rattle.std.proofs.lemmas.Option.{slice_get_past}
use Rattle.pc_calls.specs.declared.event.Event.{Event}
use Rattle.pc_calls.specs.declared.event.Event.TheVariants as event
use Rattle.pc_calls.specs.declared.event.Reply.{Reply}
use Rattle.pc_join.specs.declared.join.OutOfMemory.{OutOfMemory as NoMemory}
use Rattle.pc_kernel.specs.PlainKernel.{is_named}
use Rattle.pc_kernel.specs.Reads.{seen, is_cpu}
use Rattle.pc_delta.proofs.Lists.{left_item, taken_item}
use Rattle.pc_agent.specs.declared.agent.Agent.{Agent}
use Rattle.pc_agent.specs.declared.counts.Counts.{Counts}
use Rattle.pc_agent.specs.Shows.{counts_of, cpu_of}
use Rattle.pc_world.specs.declared.parts.Parts.{Parts}
use Rattle.pc_world.specs.Counting.{AreCounted, AreOfMending, CountsEvent, CountsEvents, CountsInPart, CountsMending, CountsMendingInPart, CountsNothing, IsCountedAmong, IsCountedMending, counted_at, counting_cpu, counts_at}
use Rattle.pc_world.specs.Mending.{AWaitingThreadCanBeRun, clearing, hearing, learning, mending, mending_by_steal}
use Rattle.pc_world.specs.Mends.{IsCommit, TellsWhatRuns}
use Rattle.pc_world.specs.PlainWorld.{PlainWorld}
use Rattle.pc_world.specs.RanOut.{RanOutAtFirst}
use Rattle.pc_world.specs.Shows.{Does, IsReached, LeavesWhenRanOut, RunsThrough, ShowsWorld}
use Rattle.pc_world.specs.Steps.{Runs, Step}
use Rattle.pc_world.specs.Inner.Handling.{CountsOrLeaves, CountsOutcome, outcome_of}
use Rattle.pc_world.specs.Inner.Laws.{KernelLaws}
use Rattle.pc_world.specs.Inner.Mends.{CountsAll, CountsAmong, CountsPicks, DoesAll, PicksOrSteals, RunsCounted}
use Rattle.pc_world.specs.Inner.Places.{IsPlace}
use Rattle.pc_world.proofs.Chaining.{cut_first, cut_then, grows_on}
use Rattle.pc_world.proofs.Clearing.{runs_append}
use Rattle.pc_world.proofs.Mends.{Begun, answer_tells}
use Rattle.pc_world.proofs.Places.{agent_at, get_set_other}
use Rattle.pc_world.proofs.Running.{runs_next, taken_then_left}

-- the counts of the agent at a place
abbrev pub counts_in : List Agent → ℕ → Option Counts
counts_in xs c = option_map counts_of (slice_get xs c)

-- the agent that was put at a place stands there
got_put : (xs : List Agent) (i : ℕ) (y a : Agent) → slice_get xs i ≡ Some a → slice_get (set xs i y) i ≡ Some y
got_put [] i y a e = cc
got_put (x ∷ xs) zero y a e = refl
got_put (x ∷ xs) (suc i) y a e = got_put xs i y a e

-- an agent that has counted more is put at its place
put_counts : (xs : List Agent) (i : ℕ) (agent more : Agent) (f : Counts → Counts) → slice_get xs i ≡ Some agent → counts_of more ≡ f (counts_of agent) → (d : ℕ)
    → counts_in (set xs i more) d ≡ (if is_named (Some i) d then option_map f (counts_in xs d) else counts_in xs d)
put_counts xs i agent more f there e d = elim (eqb_tells i d) [
  | inl h ↦ rw h.0
      (subst (λ k. counts_in (set xs i more) k ≡ option_map f (counts_in xs k)) h.1
      (ap (option_map counts_of) (got_put xs i more agent there) ∙ ap Some e ∙ sym (ap (λ o. option_map f (option_map counts_of o)) there)))
  | inr h ↦ rw h.0 (ap (option_map counts_of) (get_set_other xs i d more (λ s. h.1 (sym s))))
]

-- one that has counted nothing is
put_same : (xs : List Agent) (i : ℕ) (agent more : Agent) → slice_get xs i ≡ Some agent → counts_of more ≡ counts_of agent → (d : ℕ) → counts_in (set xs i more) d ≡ counts_in xs d
put_same xs i agent more there e d = elim (eqb_tells i d) [
  | inl h ↦ subst (λ k. counts_in (set xs i more) k ≡ counts_in xs k) h.1
      (ap (option_map counts_of) (got_put xs i more agent there) ∙ ap Some e ∙ sym (ap (option_map counts_of) there))
  | inr h ↦ ap (option_map counts_of) (get_set_other xs i d more (λ s. h.1 (sym s)))
]

-- in a world where the agent of a CPU is another
module _ (old : Parts) (c place : ℕ) (agent more : Agent) (where_is : IsPlace old c place) (read : agent ≡ get_or old.agents.items place agent) where
  there : slice_get old.agents.items c ≡ Some agent
  there = agent_at old c place agent agent where_is read

  put_there : (d : ℕ) → counts_in (set old.agents.items place more) d ≡ counts_in (set old.agents.items c more) d
  put_there d = ap (λ p. counts_in (set old.agents.items p more) d) where_is.is

  -- it has counted more
  pub counts_more : (f : Counts → Counts) → counts_of more ≡ f (counts_of agent) → (d : ℕ)
      → counts_in (set old.agents.items place more) d ≡ (if is_named (Some c) d then option_map f (counts_at old d) else counts_at old d)
  counts_more f e d = put_there d ∙ put_counts old.agents.items c agent more f there e d

  -- it has counted nothing
  pub counts_none : counts_of more ≡ counts_of agent → (d : ℕ) → counts_in (set old.agents.items place more) d ≡ counts_at old d
  counts_none e d = put_there d ∙ put_same old.agents.items c agent more there e d

-- where no place was found, the CPU is not there
pub nowhere : (world : Parts) (c : ℕ) (o : Option ℕ) → MatchOption o (is_cpu (seen world.kernel) c ≡ false) (IsPlace world c) → ((n : ℕ) → o ≡ Some n → ⊥) → is_cpu (seen world.kernel) c ≡ false
nowhere world c None h none = h
nowhere world c (Some n) h none = absurd (none n refl)

-- of a CPU that is not there nothing is counted
pub counts_nowhere : (old : Parts) (c : ℕ) (f : Counts → Counts) → is_cpu (seen old.kernel) c ≡ false → (d : ℕ)
    → counts_at old d ≡ (if is_named (Some c) d then option_map f (counts_at old d) else counts_at old d)
counts_nowhere old c f away d = elim (eqb_tells c d) [
  | inl h ↦ rw h.0 (none d (sym h.1) ∙ sym (ap (option_map f) (none d (sym h.1))))
  | inr h ↦ rw h.0 refl
]
  where
    past : length old.agents.items ≤ c
    past = subst (λ n. n ≤ c) (sym old.as_many) (ltb-false c old.kernel.limits.cpus away)

    none : (d : ℕ) → d ≡ c → counts_at old d ≡ None
    none d e = ap (counts_at old) e ∙ ap (option_map counts_of) (slice_get_past old.agents.items c past)

-- an event of which no agent counts anything
pub counts_of_none : (event : Event) → counting_cpu event ≡ None → (result : Result (Unit {0}) NoMemory) (told : Reply) (old new : Parts) → CountsNothing old new → CountsOutcome event (outcome_of result told) old new
counts_of_none event none (Ok done) told old new same = λ d. rw none (same d)
counts_of_none event none (Err fault) told old new same = same

-- an event that was done
pub counts_done : (event : Event) (result : Result (Unit {0}) NoMemory) (told : Reply) (old new : Parts) → CountsOutcome event (outcome_of result told) old new → OnOk result (CountsEvent event old new told)
counts_done event (Ok done) told old new counts = counts
counts_done event (Err fault) told old new counts = tt

-- an event that found no memory
pub counts_left : (event : Event) (result : Result (Unit {0}) NoMemory) (told : Reply) (old new : Parts) → CountsOutcome event (outcome_of result told) old new → OnErr result (CountsNothing old new)
counts_left event (Ok done) told old new counts = tt
counts_left event (Err fault) told old new counts = counts

-- the agent of a CPU is its own, and has its counts
pub agent_counts : (world : Parts) (c : ℕ) (o : Option Agent) → o ≡ slice_get world.agents.items c → option_map counts_of o ≡ counts_at world c
agent_counts world c o e = ap (option_map counts_of) e

pub agent_own : (world : Parts) (c : ℕ) (o : Option Agent) → o ≡ slice_get world.agents.items c → IfSome o (λ agent. cpu_of agent ≡ c)
agent_own world c None e = tt
agent_own world c (Some agent) e = world.own c agent (sym e)

-- lists of events, one after another
joined : (c : ℕ) (a : List Event) (r : List Reply) (b : List Event) (s : List Reply) (first mid last : Option Counts) → AreCounted c a r first mid → AreCounted c b s mid last → AreCounted c (a ++ b) (r ++ s) first last
joined c [] [] b s first mid last e then' = subst (λ v. AreCounted c b s v last) e then'
joined c [] (t ∷ r) b s first mid last e then' = absurd e
joined c (x ∷ a) [] b s first mid last e then' = absurd e
joined c (x ∷ a) (t ∷ r) b s first mid last e then' = joined c a r b s (counted_at c x t first) mid last e then'

pub counts_then : (a : List Event) (r : List Reply) (b : List Event) (s : List Reply) (old mid new : Parts) → CountsEvents a r old mid → CountsEvents b s mid new → CountsEvents (a ++ b) (r ++ s) old new
counts_then a r b s old mid new first then' c = joined c a r b s (counts_at old c) (counts_at mid c) (counts_at new c) (first c) (then' c)

-- one event more
pub counts_next : (events : List Event) (i : ℕ) (event : Event) (at : event ≡ get_or events i event) (low : i < length events) (replies : List Reply) (told : Reply) (old before after : Parts)
    → CountsEvents (take i events) replies old before → CountsEvent event before after told → CountsEvents (take (i + 1) events) (replies ++ told ∷ []) old after
counts_next events i event at low replies told old before after first then' =
    subst (λ l. CountsEvents l (replies ++ told ∷ []) old after) (sym (taken_item events i event at low)) (counts_then (take i events) replies (event ∷ []) (told ∷ []) old before after first then')

-- events that were counted, and one that was not
pub counts_still : (events : List Event) (replies : List Reply) (old mid new : Parts) → CountsEvents events replies old mid → CountsNothing mid new → CountsEvents events replies old new
counts_still events replies old mid new first none c = subst (λ v. AreCounted c events replies (counts_at old c) v) (sym (none c)) (first c)

-- some first events, of which the last had no place for its reply, or the next one found no memory
pub counted_in_part : (events : List Event) (i : ℕ) (event : Event) (at : event ≡ get_or events i event) (low : i < length events) (replies : List Reply) (old before after : Parts)
    → RunsThrough (take i events) replies old before → CountsEvents (take i events) replies old before → CountsOrLeaves event before after → CountsInPart events old after
counted_in_part events i event at low replies old before after ran counted (inl did) w h =
    let now = runs_next events i event at low replies old before ran did.0 after did.1 w h in
    record {
      after = now.0;
      cut = record { done = take (i + 1) events; rest = drop (i + 1) events; replies = replies ++ did.0 ∷ []; reached = now.0; order = taken_then_left events (i + 1); ran = now.1; next = inl refl };
      shows = now.2;
      counts = counts_next events i event at low replies did.0 old before after counted did.2;
    }
counted_in_part events i event at low replies old before after ran counted (inr left) w h =
    let reached = ran w h in
    let now = left.0 reached.0 reached.2 in
    record {
      after = now.0;
      cut = record {
        done = take i events;
        rest = drop i events;
        replies = replies;
        reached = reached.0;
        order = taken_then_left events i;
        ran = reached.1;
        next = inr (subst (λ l. RanOutAtFirst reached.0 l now.0) (sym (left_item events i event at low)) now.1);
      };
      shows = now.2;
      counts = counts_still (take i events) replies old before after counted left.1;
    }

-- an event that was done and counted
pub one_counted : (event : Event) (told : Reply) (old new : Parts) → Does (λ w. Step w event) old new told → CountsEvent event old new told → RunsCounted (event ∷ []) (told ∷ []) old new
one_counted event told old new does counts = record { runs = λ w h. let did = does w h in (did.0, (did.0, did.1, refl), did.2); counts = counts }

-- lists of events that were done and counted, one after another
pub counted_then : (a : List Event) (r : List Reply) (b : List Event) (s : List Reply) (old mid new : Parts) → RunsCounted a r old mid → RunsCounted b s mid new → RunsCounted (a ++ b) (r ++ s) old new
counted_then a r b s old mid new first then' = record {
  runs = λ w h.
      let did = first.runs w h in
      let next = then'.runs did.0 did.2 in
      (next.0, runs_append w did.0 next.0 a b r s did.1 next.1, next.2);
  counts = counts_then a r b s old mid new first.counts then'.counts;
}

-- lists of events, by some replies
pub all_counted_none : (world : Parts) → CountsAll [] world world
all_counted_none world = ([], record { runs = λ w h. (w, refl, h); counts = λ c. refl })

pub all_counted_one : (event : Event) (told : Reply) (old new : Parts) → Does (λ w. Step w event) old new told → CountsEvent event old new told → CountsAll (event ∷ []) old new
all_counted_one event told old new does counts = (told ∷ [], one_counted event told old new does counts)

pub all_counted_then : (a b : List Event) (old mid new : Parts) → CountsAll a old mid → CountsAll b mid new → CountsAll (a ++ b) old new
all_counted_then a b old mid new first then' = (first.0 ++ then'.0, counted_then a first.0 b then'.0 old mid new first.1 then'.1)

-- one more of lists that grow at their end
pub all_counted_next : (f g : ℕ → List Event) → ((n : ℕ) → f (suc n) ≡ f n ++ g n) → (i : ℕ) (old mid new : Parts) → CountsAll (f i) old mid → CountsAll (g i) mid new → CountsAll (f (i + 1)) old new
all_counted_next f g grows i old mid new first then' =
    let next : i + 1 ≡ suc i = omega arith in
    subst (λ l. CountsAll l old new) (sym (ap f next ∙ grows i)) (all_counted_then (f i) (g i) old mid new first then')

-- lists of which some first events were counted: the first of a list, what would follow it, and what was done before it
pub among_one : (event : Event) (old new : Parts) → LeavesWhenRanOut event old new → CountsNothing old new → CountsAmong (event ∷ []) old new
among_one event old new leaves none w h =
    let left = leaves w h in
    record {
      after = left.0;
      among = record { done = []; next = event; rest = []; replies = []; reached = w; order = refl; ran = refl; found_none = left.1 };
      shows = left.2;
      counts = none;
    }

pub among_first : (a b : List Event) (old new : Parts) → CountsAmong a old new → CountsAmong (a ++ b) old new
among_first a b old new part w h =
    let did = part w h in
    record { after = did.after; among = cut_first a b w did.after did.among; shows = did.shows; counts = did.counts }

pub among_then : (a b : List Event) (old mid new : Parts) → CountsAll a old mid → CountsAmong b mid new → CountsAmong (a ++ b) old new
among_then a b old mid new first part w h =
    let did = first.1.runs w h in
    let next = part did.0 did.2 in
    record {
      after = next.after;
      among = cut_then a b w did.0 next.after first.0 did.1 next.among;
      shows = next.shows;
      counts = counts_then a first.0 next.among.done next.among.replies old mid new first.1.counts next.counts;
    }

pub among_next : (f g : ℕ → List Event) → ((n : ℕ) → f (suc n) ≡ f n ++ g n) → (i n : ℕ) → i < n → (old mid new : Parts) → CountsAll (f i) old mid → CountsAmong (g i) mid new → CountsAmong (f n) old new
among_next f g grows i n low old mid new first part =
    let on = grows_on f g grows i n low in
    subst (λ l. CountsAmong l old new) (sym on.1) (among_first (f i ++ g i) on.0 old new (among_then (f i) (g i) old mid new first part))

-- a pick that commits a thread
pub picked_counted : (c n : ℕ) (told : Reply) (old new : Parts) → IsCommit told → Does (λ w. Step w (event.Pick c n)) old new told → CountsEvent (event.Pick c n) old new told → CountsPicks c n old new told
picked_counted c n told old new commit does counts = inl (commit, one_counted (event.Pick c n) told old new does counts)

-- a list of one event has one reply
one_reply : (e : Event) (r : List Reply) (old new : Parts) → CountsEvents (e ∷ []) r old new → (told : Reply) × (r ≡ told ∷ [])
one_reply e [] old new counts = absurd (counts 0)
one_reply e (t ∷ []) old new counts = (t, refl)
one_reply e (t ∷ u ∷ r) old new counts = absurd (counts 0)

-- a pick that commits nothing, a steal, and a pick
pub picked_late_counted : (c n : ℕ) (first told : Reply) (old mid later new : Parts) → (IsCommit first → ⊥) → RunsCounted (event.Pick c n ∷ []) (first ∷ []) old mid → CountsAll (event.Steal c ∷ []) mid later
    → RunsCounted (event.Pick c n ∷ []) (told ∷ []) later new → CountsPicks c n old new told
picked_late_counted c n first told old mid later new fails picks steals again =
    let one = one_reply (event.Steal c) steals.0 mid later steals.1.counts in
    let stolen : RunsCounted (event.Steal c ∷ []) (one.0 ∷ []) mid later = subst (λ r. RunsCounted (event.Steal c ∷ []) r mid later) one.1 steals.1 in
    inr record {
      first = first;
      fails = fails;
      second = one.0;
      done = counted_then (event.Pick c n ∷ []) (first ∷ []) (event.Steal c ∷ event.Pick c n ∷ []) (one.0 ∷ told ∷ []) old mid new picks
          (counted_then (event.Steal c ∷ []) (one.0 ∷ []) (event.Pick c n ∷ []) (told ∷ []) mid later new stolen again);
    }

-- what was counted was done
abbrev does_all : (events : List Event) (old new : Parts) → CountsAll events old new → DoesAll events old new
does_all events old new all w h = let did = all.1.runs w h in (did.0, all.0, did.1, did.2)

abbrev does_picks : (c n : ℕ) (old new : Parts) (told : Reply) → CountsPicks c n old new told → Does (PicksOrSteals c n) old new told
does_picks c n old new told (inl once) w h =
    let did = once.1.runs w h in
    (did.0, inl (once.0, subst (λ v. Step w (event.Pick c n) told v) (sym did.1.2) did.1.1), did.2)
does_picks c n old new told (inr late) w h =
    let did = late.done.runs w h in
    let steals = did.1.2 in
    let again = steals.2 in (
      did.0,
      inr record {
        first = late.first;
        fails = late.fails;
        second = late.second;
        between = did.1.0;
        stolen = steals.0;
        picks = did.1.1;
        steals = steals.1;
        again = subst (λ v. Step steals.0 (event.Pick c n) told v) (sym again.2) again.1;
      },
      did.2,
    )

module _ (old : Parts) (c cpus n deltas : ℕ) (begun : Begun old c cpus n deltas) where
  abbrev learns : List Event
  learns = clearing cpus ++ hearing c deltas

  -- what was learnt, and then picked
  module _ (laws : KernelLaws) (law : AWaitingThreadCanBeRun) (mid new : Parts) (told : Reply) (learnt : CountsAll learns old mid) where
    module _ (w : PlainWorld) (h : ShowsWorld old w) where
      abbrev known : (u : PlainWorld) × Runs w learns learnt.0 u × ShowsWorld mid u
      known = learnt.1.runs w h

      -- these events, the last of which are these, with these replies, the last but one of which are these
      by_last : (last events : List Event) (s : List Reply) → learns ++ last ≡ events → AreOfMending w c told events → (done : RunsCounted last (s ++ told ∷ []) mid new)
          → TellsWhatRuns w c told (done.runs known.0 known.2).0 → IsCountedMending w c old new told
      by_last last events s are_all are done tells =
          let ends = done.runs known.0 known.2 in
          let all = append_assoc learnt.0 s (told ∷ []) in
          record {
            events = events;
            are = are;
            replies = learnt.0 ++ s;
            after = ends.0;
            runs = subst (λ r. Runs w events r ends.0) (sym all)
                (subst (λ l. Runs w l (learnt.0 ++ (s ++ told ∷ [])) ends.0) are_all (runs_append w known.0 ends.0 learns last learnt.0 (s ++ told ∷ []) known.1 ends.1));
            tells = tells;
            shows = ends.2;
            counts = subst (λ r. CountsEvents events r old new) (sym all)
                (subst (λ l. CountsEvents l (learnt.0 ++ (s ++ told ∷ [])) old new) are_all (counts_then learns learnt.0 last (s ++ told ∷ []) old mid new learnt.1.counts done.counts));
          }

    pub counts_mended : CountsPicks c n mid new told → IsReached old → CountsMending c old new told
    counts_mended picks reached w h = inl (by_picks picks)
      where
        tells : (p : CountsPicks c n mid new told) → TellsWhatRuns w c told (does_picks c n mid new told p (known w h).0 (known w h).2).0
        tells p = answer_tells laws law old c cpus n deltas begun mid new told (does_all learns old mid learnt) (does_picks c n mid new told p) reached w h

        by_picks : CountsPicks c n mid new told → IsCountedMending w c old new told
        by_picks (inl once) =
            by_last w h (event.Pick c n ∷ []) (mending w c) []
            (ap (λ l. l ++ event.Pick c n ∷ []) (begun.learns w h) ∙ ap (λ m. learning w c ++ event.Pick c m ∷ []) (begun.posts w h)) (inl (refl, once.0)) once.1 (tells (inl once))
        by_picks (inr late) =
            by_last w h (event.Pick c n ∷ event.Steal c ∷ event.Pick c n ∷ []) (mending_by_steal w c) (late.first ∷ late.second ∷ [])
            (ap (λ l. l ++ event.Pick c n ∷ event.Steal c ∷ event.Pick c n ∷ []) (begun.learns w h) ∙ ap (λ m. learning w c ++ event.Pick c m ∷ event.Steal c ∷ event.Pick c m ∷ []) (begun.posts w h)) (inr refl) late.done (tells (inr late))

  -- what was learnt or picked in part
  pub counts_mended_in_part : (new : Parts) → CountsAmong (learns ++ event.Pick c n ∷ event.Steal c ∷ event.Pick c n ∷ []) old new → CountsMendingInPart c old new
  counts_mended_in_part new part w h =
      subst (λ l. IsCountedAmong w l old new)
      (ap (λ l. l ++ event.Pick c n ∷ event.Steal c ∷ event.Pick c n ∷ []) (begun.learns w h) ∙ ap (λ m. learning w c ++ event.Pick c m ∷ event.Steal c ∷ event.Pick c m ∷ []) (begun.posts w h)) (part w h)
