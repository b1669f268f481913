-- A machine does steps of the protocol.
use Rattle.std.proofs.Common.{◌≡◌, ◌⊎◌, ℕ, zero, suc, ◌<◌, ◌≤◌, nat_lt, Bool, true, false, List, [], ◌∷◌, ◌++◌, length, Option, Some, None, slice_get, get_or, ◌+◌, if◌then◌else◌, ◌||◌, refl, sym, ◌∙◌, ap, subst, inl, inr, arith}
use Rattle.std.proofs.lemmas.Bool.Decides.{eqb_tells, nat_tests}
use Rattle.std.proofs.lemmas.Option.{slice_get_within}
use Rattle.std.specs.Global.{Vec}
use Rattle.pc_calls.specs.declared.call.AgentCall.TheVariants as agent_call
use Rattle.pc_calls.specs.declared.call.Call.{Call}
use Rattle.pc_calls.specs.declared.call.Call.TheVariants as call
use Rattle.pc_calls.specs.declared.call.EnvCall.{EnvCall}
use Rattle.pc_calls.specs.declared.call.EnvCall.TheVariants as env
use Rattle.pc_calls.specs.declared.event.Event.TheVariants as event
use Rattle.pc_calls.specs.declared.event.Reply.{Reply}
use Rattle.pc_calls.specs.declared.event.Reply.TheVariants as reply
use Rattle.pc_calls.specs.declared.limits.Limits.{Limits}
use Rattle.pc_join.specs.Sets.{IsSameSet, Members, as_members}
use Rattle.pc_view.specs.declared.view.View.{View}
use Rattle.pc_view.specs.Views.{pairs_of}
use Rattle.std.proofs.lemmas.Bool.{MatchBool-at_true, false≢true}
use Rattle.pc_agent.specs.PlainAgent.{Set}
use Rattle.pc_messages.specs.Items.{pairs_in}
use Rattle.pc_kernel.specs.PlainKernel.{PlainKernel, aseq, content, start}
use Rattle.pc_kernel.specs.Reads.{Reads, is_cpu, shown}
use Rattle.pc_kernel.specs.Answers.{Shows as AnswersShows}
use Rattle.pc_kernel.specs.Rows.{KernelRows}
use Rattle.pc_kernel.specs.Steps.{after, after_of, at, changed, refused, replay}
use Rattle.pc_world.specs.PlainWorld.{PlainWorld, sending}
use Rattle.pc_messages.proofs.Bools.{both}
use Rattle.pc_world.specs.Reached.{IsSentLate, Reached}
use Rattle.pc_world.specs.Shows.{AnswersDigest, Does as DoesEvent, IsReached, IsViewAt, ShowsWorld, World}
use Rattle.pc_world.specs.Steps.{IsAnsweredTo, IsBadCpu, Step}
use Rattle.pc_world.specs.Inner.Laws.{KernelLaws}
use Rattle.pc_world.proofs.Reaching.{reached_good}
use Rattle.pc_protocol.specs.declared.seats.Due.{Due}
use Rattle.pc_protocol.specs.declared.seats.Due.TheVariants as due
use Rattle.pc_protocol.specs.declared.seats.Note.{Note as KeptNote}
use Rattle.pc_protocol.specs.declared.seats.Note.TheVariants as kept
use Rattle.pc_protocol.specs.declared.seats.Seat.{Seat}
use Rattle.pc_protocol.specs.declared.seats.Stage.{Stage as KeptStage}
use Rattle.pc_protocol.specs.declared.seats.Stage.TheVariants as kept_stage
use Rattle.pc_protocol.specs.declared.turns.Look.{Look}
use Rattle.pc_protocol.specs.Following.{AnswersAsker, AsksByWorld, Follows, SleepsUnder, TellsUnless}
use Rattle.pc_protocol.specs.Machine.{CallsByEnv, Does, HasBegun, HasChoices, HasMail, Machine, Restarts, Rests, Shows}
use Rattle.pc_protocol.specs.Resting.{IsWaiting}
use Rattle.pc_delta.specs.Digests.{set_of_digest}
use Rattle.std.proofs.Math.Logic.{∥∥₁_elim}
use Rattle.std.proofs.Math.Nat.{ℕ_set}
use Rattle.pc_protocol.specs.Listing.{IsListed}
use Rattle.pc_protocol.specs.Manning.{IsManned}
use Rattle.pc_protocol.specs.Protocol.{IsUrgent, Note, Protocol, TakesIn, Stage, Takes, answer, answers, asks, begins, behind_sleep, cpus_of, learns, news, others, puts, roused, rousing, summoned, telling, telling_others, tells_none, waits, wake, woken_in}
use Rattle.pc_protocol.specs.Seats.{AreNotes, AreSeats, EmptiesMail, HasNote, IsDue, IsDueAt, LeavesMail, PutsNext, SetsStage, ShowsNote, ShowsSeat, ShowsStage, TakesNote, Tells, TellsWoken, AsksOthers, by_stage, choices_at, choices_of, is_begin, woken_by}
use Rattle.pc_protocol.specs.Turning.{ActsOn, IsQuiet, LooksAt, TakesInAll}
use Rattle.pc_protocol.proofs.Reaching.{Leads_to, acts_lead, one_leads, reach_more, takes_in_lead}
use Rattle.pc_protocol.proofs.Stepping.{begins_not_puts, begins_not_waits}
use Rattle.pc_protocol.proofs.Seated.{seat_at, shows_begins, shows_puts, shows_waits}

seat_there : (seats : List Seat) (c : ℕ) → c < length seats → (seat : Seat) × (slice_get seats c ≡ Some seat)
seat_there [] c low = absurd (omega arith)
seat_there (s ∷ seats) zero low = (s, refl)
seat_there (s ∷ seats) (suc c) low = seat_there seats c (omega arith)

-- no call changes the limits
env_keeps : (P : PlainKernel) (made : EnvCall) → (changed P (call.Env made)).limits ≡ P.limits
env_keeps P made = elim made as (λ it. (changed P (call.Env it)).limits ≡ P.limits) [
  | env.Create queue ready mask ↦ refl
  | env.Wake t ↦ refl
  | env.Block cpu ran ↦ refl
  | env.YieldNow cpu ran ↦ refl
  | env.Preempt cpu ran ↦ refl
  | env.Die cpu ran ↦ refl
  | env.SetAffinity t mask ↦ refl
  | env.SetPriority t level ↦ refl
  | env.Tick cpu ↦ refl
]

call_keeps : (P : PlainKernel) (made : Call) → (changed P made).limits ≡ P.limits
call_keeps P (call.Env made) = env_keeps P made
call_keeps P (call.Consume cpu count) = refl
call_keeps P (call.Agent (agent_call.Config queue None)) = refl
call_keeps P (call.Agent (agent_call.Config queue (Some cpu))) = refl
call_keeps P (call.Agent (agent_call.Associate t queue n)) = refl
call_keeps P (call.Agent (agent_call.Commit cpu t n)) = refl
call_keeps P (call.Agent (agent_call.Sleep cpu n)) = refl
call_keeps P (call.Agent (agent_call.Rouse cpu)) = refl

replay_keeps : (calls : List Call) (P : PlainKernel) → (replay P calls).limits ≡ P.limits
replay_keeps [] P = refl
replay_keeps (made ∷ calls) P =
    replay_keeps calls (after P made) ∙ elim (refused (shown P) made) as (λ why. (after_of why (changed P made) P).limits ≡ P.limits) [ Some why ↦ refl | None ↦ call_keeps P made ]

-- two plain worlds that one world shows have the same limits
same_limits : (world : World) (w v : PlainWorld) → ShowsWorld world w → ShowsWorld world v → w.kernel.limits ≡ v.kernel.limits
same_limits world w v h g = ap (λ (r : Reads). r.limits) (sym h.kernel.reads ∙ g.kernel.reads)

module _ (laws : KernelLaws) where
  reached_limits : (limits : Limits) (w : PlainWorld) → Reached limits w → w.kernel.limits ≡ limits
  reached_limits limits w h = let good = reached_good laws limits w h in ap (λ (P : PlainKernel). P.limits) good.replayed ∙ replay_keeps good.calls (start limits)

  -- where events lead from one world to another, each CPU still has a seat
  pub manned_on : (old new : World) (seats seats' : List Seat) (h : IsReached old) → IsManned old seats → length seats' ≡ length seats → (v : PlainWorld) → Leads_to h.plain v → ShowsWorld new v → IsManned new seats'
  manned_on old new seats seats' h manned same v leads shows w shown =
      let limits = old.kernel.limits in
      let first = reached_limits limits h.plain h.reached in
      let last = reached_limits limits v (reach_more limits h.plain v h.reached leads) in
      same ∙ manned h.plain h.shows ∙ ap (λ (l : Limits). l.cpus) (first ∙ sym last ∙ same_limits new v w shows shown)

-- which agent is due is there
pub due_there : (world : World) (seats : List Seat) (c : ℕ) (next : Due) (w : PlainWorld) → IsManned world seats → IsDueAt seats c next → ShowsWorld world w → is_cpu (shown w.kernel) c ≡ true
due_there world seats c next w manned h shows =
    let low = slice_get_within seats c h.0 h.1 in
    let many = manned w shows in
    let inside : c < w.kernel.limits.cpus = omega arith in
    grind (arith, nat_tests)

pub due_low : (seats : List Seat) (c : ℕ) (next : Due) → IsDueAt seats c next → c < length seats
due_low seats c next h = slice_get_within seats c h.0 h.1

due_begins : (stage : KeptStage) → IsDue stage due.Look → stage ≡ kept_stage.Begins
due_begins kept_stage.Begins h = refl
due_begins (kept_stage.Puts aseq delta left) h = absurd h
due_begins kept_stage.Waits h = absurd h

due_waits : (stage : KeptStage) → IsDue stage due.Take → stage ≡ kept_stage.Waits
due_waits kept_stage.Begins h = absurd h
due_waits (kept_stage.Puts aseq delta left) h = absurd h
due_waits kept_stage.Waits h = refl

-- an agent that acts has put all
record HasPutAll (n : ℕ) (stage : KeptStage) : Type 0 where
  pub delta : ℕ
  pub left : Vec ℕ
  pub is : stage ≡ kept_stage.Puts n delta left
  pub none : left.items ≡ []

due_acts : (n : ℕ) (stage : KeptStage) → IsDue stage (due.Act n) → HasPutAll n stage
due_acts n kept_stage.Begins h = absurd h
due_acts n (kept_stage.Puts aseq delta left) h = record { delta = delta; left = left; is = ap (λ m. kept_stage.Puts m delta left) h.0; none = h.1 }
due_acts n kept_stage.Waits h = absurd h

-- a note that is kept for an agent is under way to it
noted_there : (seats : List Seat) (to : ℕ) (stages : ℕ → Stage) (mails : ℕ → List ℕ) (boxes : ℕ → List Note) → AreSeats seats stages mails boxes → HasNote seats to true → boxes to ≡ [] → ⊥
noted_there seats to stages mails boxes h has none =
    let one = has refl in
    some_note one.0.notes.items one.2 (subst (AreNotes one.0.notes.items) none (h to one.0 one.1).notes)
  where
    some_note : (keeps : List KeptNote) → 0 < length keeps → AreNotes keeps [] → ⊥
    some_note [] low notes = omega arith
    some_note (k ∷ keeps) low notes = notes

-- nothing is urgent where no note is told
none_urgent : (c k to : ℕ) (world : World) (seats : List Seat) (has quiet : Bool) (stages : ℕ → Stage) (mails : ℕ → List ℕ) (boxes : ℕ → List Note) → AreSeats seats stages mails boxes → HasNote seats to has
    → IsQuiet c k to world quiet → (has || quiet) ≡ true → boxes to ≡ [] → (w : PlainWorld) → ShowsWorld world w → IsUrgent w c k to → ⊥
none_urgent c k to world seats true quiet stages mails boxes h noted urgent e none w shows is = noted_there seats to stages mails boxes h noted none
none_urgent c k to world seats false quiet stages mails boxes h noted urgent e none w shows is = urgent e w shows is

-- what an agent does with a note
pub record Followed (c : ℕ) (note : Note) (w : PlainWorld) (boxes : ℕ → List Note) (stages : ℕ → Stage) (mails : ℕ → List ℕ) (new : World) (seats : List Seat) : Type 0 where
  pub behind : PlainWorld
  pub out : ℕ → List Note
  pub takes : Takes w c boxes note behind out
  pub shows : ShowsWorld new behind
  pub are : AreSeats seats stages mails out

pub followed : (c : ℕ) (keep : KeptNote) (note : Note) (old new : World) (seats seats' : List Seat) → ShowsNote keep note → Follows c keep old new seats seats' → (w : PlainWorld) → ShowsWorld old w
    → is_cpu (shown w.kernel) c ≡ true → (stages : ℕ → Stage) (mails : ℕ → List ℕ) (boxes : ℕ → List Note) → AreSeats seats stages mails boxes → Followed c note w boxes stages mails new seats'
followed c kept.Wake wake old new seats seats' is so w h there stages mails boxes are =
    record { behind = w; out = boxes; takes = roused; shows = subst (λ u. ShowsWorld u w) (sym so.0) h; are = subst (λ l. AreSeats l stages mails boxes) (sym so.1) are }
followed c kept.Wake news old new seats seats' is so w h there stages mails boxes are = absurd is
followed c kept.Wake (asks a set) old new seats seats' is so w h there stages mails boxes are = absurd is
followed c kept.Wake (answer k) old new seats seats' is so w h there stages mails boxes are = absurd is
followed c kept.News news old new seats seats' is so w h there stages mails boxes are =
    record { behind = w; out = boxes; takes = summoned; shows = subst (λ u. ShowsWorld u w) (sym so.0) h; are = subst (λ l. AreSeats l stages mails boxes) (sym so.1) are }
followed c kept.News wake old new seats seats' is so w h there stages mails boxes are = absurd is
followed c kept.News (asks a set) old new seats seats' is so w h there stages mails boxes are = absurd is
followed c kept.News (answer k) old new seats seats' is so w h there stages mails boxes are = absurd is
followed c (kept.Answer sender j) (answer k) old new seats seats' is so w h there stages mails boxes are =
    let x = so.0 w h in
    record { behind = x.0; out = boxes; takes = learns k x.1.0 (subst (λ i. Step w (event.Deliver c i) x.1.0 x.0) is x.1.1); shows = x.2; are = subst (λ l. AreSeats l stages mails boxes) (sym so.1) are }
followed c (kept.Answer sender j) wake old new seats seats' is so w h there stages mails boxes are = absurd is
followed c (kept.Answer sender j) news old new seats seats' is so w h there stages mails boxes are = absurd is
followed c (kept.Answer sender j) (asks a set) old new seats seats' is so w h there stages mails boxes are = absurd is
followed c (kept.Asks asker question) (asks a set) old new seats seats' is so w h there stages mails boxes are =
    let x = so set is.1 w h there in
    let sent = x.1 in record {
      behind = sending w sent.set;
      out = telling a (answer (length w.sent)) boxes;
      takes = answers a set sent.set sent.answers;
      shows = subst (ShowsWorld new) sent.after x.2;
      are = subst (λ b. AreSeats seats' stages mails (telling b (answer (length w.sent)) boxes)) is.0 (sent.tells stages mails boxes are);
    }
followed c (kept.Asks asker question) wake old new seats seats' is so w h there stages mails boxes are = absurd is
followed c (kept.Asks asker question) news old new seats seats' is so w h there stages mails boxes are = absurd is
followed c (kept.Asks asker question) (answer k) old new seats seats' is so w h there stages mails boxes are = absurd is

-- a note leads to a world that is shown behind it
pub record LeadsBehind (old new : World) (h : IsReached old) : Type 0 where
  pub behind : PlainWorld
  pub leads : Leads_to h.plain behind
  pub shows : ShowsWorld new behind

-- what a question knows is listed
abbrev pub HasList : KeptNote → Type 0
HasList (kept.Asks asker question) = IsListed (set_of_digest question.digest)
HasList keep = Unit {0}

pub follow_leads : (c : ℕ) (keep : KeptNote) (old new : World) (seats seats' : List Seat) → HasList keep → (h : IsReached old) → is_cpu (shown h.plain.kernel) c ≡ true → Follows c keep old new seats seats' → LeadsBehind old new h
follow_leads c kept.Wake old new seats seats' listed h there so = record { behind = h.plain; leads = ([], refl); shows = subst (λ u. ShowsWorld u h.plain) (sym so.0) h.shows }
follow_leads c kept.News old new seats seats' listed h there so = record { behind = h.plain; leads = ([], refl); shows = subst (λ u. ShowsWorld u h.plain) (sym so.0) h.shows }
follow_leads c (kept.Answer sender k) old new seats seats' listed h there so =
    let x = so.0 h.plain h.shows in record { behind = x.0; leads = one_leads h.plain x.0 (event.Deliver c k) x.1.0 x.1.1; shows = x.2 }
follow_leads c (kept.Asks asker question) old new seats seats' listed h there so =
    let x = so listed.0 listed.1 h.plain h.shows there in
    let late : IsSentLate h.plain c x.0 = record { set = x.1.set; within = x.1.answers.within; after = x.1.after } in
    record { behind = x.0; leads = (event.Answer c c ∷ [], (x.0, inr (inl (both (is_cpu (shown h.plain.kernel) c) (is_cpu (shown h.plain.kernel) c) there there, late)), refl)); shows = x.2 }

module _ (old new : Machine) (c : ℕ) where
  -- the stage of the agent that is due
  at_stage : (stage : Stage) (kept : KeptStage) (next : Due) (h : IsDueAt old.seats.items c next) → h.0.stage ≡ kept → ((s : Stage) → ShowsStage kept s → s ≡ stage) → (p : Protocol) → Shows old p → p.stages c ≡ stage
  at_stage stage kept next h is only p shows = only (p.stages c) (subst (λ k. ShowsStage k (p.stages c)) is (shows.seats c h.0 h.1).stage)

  pub does_look : (look : Look) (left : Vec ℕ) → IsManned old.world old.seats.items → IsDueAt old.seats.items c due.Look → LooksAt c old.world new.world (Some look)
      → ((w : PlainWorld) → ShowsWorld old.world w → left.items ≡ (if look.is_void then [] else others c w.kernel.limits.cpus))
      → SetsStage c (kept_stage.Puts look.aseq look.delta left) old.seats.items new.seats.items → Does c old new
  does_look look left manned next looks all sets p h =
      let x = looks p.world h.world in
      let n = aseq p.world.kernel c in
      let k = length p.world.sent in
      let l = if tells_none (pairs_in (content p.world.kernel c)) then [] else others c (cpus_of p) in
      let begin = at_stage begins kept_stage.Begins due.Look next (due_begins next.0.stage next.2) shows_begins p h in (
        record { world = x.0; stages = at p.stages c (puts n k l); mails = p.mails; boxes = p.boxes },
        record { there = x.1.there; step = inl record { at_begin = begin; told = x.1.told; step = x.1.step; stages = refl; mails = refl; boxes = refl } },
        record {
          world = x.2;
          seats = sets (puts n k l) p.stages p.mails p.boxes (x.1.aseq, x.1.delta, all p.world h.world ∙ ap (λ b. if b then [] else others c (cpus_of p)) x.1.void) h.seats;
        },
      )

  pub does_put : (k to : ℕ) (mid left : List Seat) (has quiet : Bool) → IsManned old.world old.seats.items → IsDueAt old.seats.items c due.Put → new.world ≡ old.world → PutsNext c k to old.seats.items mid
      → HasNote mid to has → IsQuiet c k to old.world quiet → LeavesMail to k mid left
      → TellsUnless (has || quiet) to left new.seats.items → Does c old new
  does_put k to mid left has quiet manned next same puts_next noted urgent leaves told p h =
      let put = puts_next p.stages p.mails p.boxes h.seats in
      let stages = at p.stages c (puts put.0.n k (put.0.before ++ put.0.behind)) in
      let mails = at p.mails to (p.mails to ++ k ∷ []) in
      let left_seats = leaves stages p.mails p.boxes put.1 in (
        record { world = p.world; stages = stages; mails = mails; boxes = if has || quiet then p.boxes else telling to news p.boxes },
        record {
          there = due_there old.world old.seats.items c due.Put p.world manned next h.world;
          step = inr (inl record {
            n = put.0.n;
            k = k;
            before = put.0.before;
            to = to;
            behind = put.0.behind;
            at_put = put.0.at_put;
            quiet = has || quiet;
            if_quiet = λ e none. none_urgent c k to old.world mid has quiet stages p.mails p.boxes put.1 noted urgent e none p.world h.world;
            world = refl;
            stages = refl;
            mails = refl;
            boxes = refl;
          });
        },
        record {
          world = subst (λ u. ShowsWorld u p.world) (sym same) h.world;
          seats = told stages mails p.boxes left_seats;
        },
      )

  pub does_act : (n : ℕ) (mid : World) (asking : Bool) (asked : List Seat) (kept : KeptStage) → IsManned mid old.seats.items → IsManned old.world old.seats.items → IsDueAt old.seats.items c (due.Act n)
      → ActsOn c n old.world mid asking → (asking ≡ true → AsksByWorld mid c old.seats.items asked) → (asking ≡ false → asked ≡ old.seats.items) → SleepsUnder c n mid new.world kept
      → SetsStage c kept asked new.seats.items → Does c old new
  does_act n mid asking asked kept manned_mid manned next acts asks_all silent sleeps sets p h =
      let x = acts p.world h.world in
      let y = sleeps x.0 x.2 in
      let put_all = due_acts n next.0.stage next.2 in
      let stood = shows_puts n put_all.delta put_all.left (p.stages c) (subst (λ k. ShowsStage k (p.stages c)) put_all.is (h.seats c next.0 next.1).stage) in
      let note = asks c (x.0.agents c).known in
      let boxes = if asking then telling_others c note p.boxes else p.boxes in (
        record { world = y.0; stages = at p.stages c (behind_sleep y.1.told); mails = p.mails; boxes = boxes },
        record {
          there = due_there old.world old.seats.items c (due.Act n) p.world manned next h.world;
          step = inr (inr (inl record {
            n = n;
            k = put_all.delta;
            has_read = stood ∙ ap (puts n put_all.delta) put_all.none;
            asking = asking;
            acted = x.0;
            acts = x.1;
            told = y.1.told;
            sleeps = y.1.step;
            stages = refl;
            mails = refl;
            boxes = refl;
          }));
        },
        record {
          world = y.2;
          seats = sets (behind_sleep y.1.told) p.stages p.mails boxes y.1.on
              (asked_or_not asking asks_all silent p.stages p.mails p.boxes x.0 x.2 (due_there mid old.seats.items c (due.Act n) x.0 manned_mid next x.2) h.seats);
        },
      )
    where
      asked_or_not : (asking : Bool) → (asking ≡ true → AsksByWorld mid c old.seats.items asked) → (asking ≡ false → asked ≡ old.seats.items) → (stages : ℕ → Stage) (mails : ℕ → List ℕ) (boxes : ℕ → List Note)
          → (v : PlainWorld) → ShowsWorld mid v → is_cpu (shown v.kernel) c ≡ true → AreSeats old.seats.items stages mails boxes
          → AreSeats asked stages mails (if asking then telling_others c (asks c (v.agents c).known) boxes else boxes)
      asked_or_not true asks_all silent stages mails boxes v shows there are = asks_all refl v stages mails boxes shows there are
      asked_or_not false asks_all silent stages mails boxes v shows there are = subst (λ l. AreSeats l stages mails boxes) (sym (silent refl)) are

  pub does_take : (keep : KeptNote) (mail : List ℕ) (mid : World) (out emptied told : List Seat) → IsManned mid old.seats.items → IsManned old.world old.seats.items → IsDueAt old.seats.items c due.Take
      → TakesNote c keep old.seats.items out → EmptiesMail c mail out emptied → TakesInAll c mail old.world mid → Follows c keep mid new.world emptied told
      → SetsStage c kept_stage.Begins told new.seats.items → Does c old new
  does_take keep mail mid out emptied told manned_mid manned next takes_note empties takes_in follows sets p h =
      let taken = takes_note p.stages p.mails p.boxes h.seats in
      let rest = at p.boxes c (taken.0.before ++ taken.0.behind) in
      let empty = empties p.stages p.mails rest taken.1 in
      let mails = at p.mails c [] in
      let x = takes_in p.world h.world in
      let did = followed c keep taken.0.note mid new.world emptied told taken.0.shows follows x.0 x.2 (due_there mid old.seats.items c due.Take x.0 manned_mid next x.2) p.stages mails rest empty.1 in (
        record { world = did.behind; stages = at p.stages c begins; mails = mails; boxes = did.out },
        record {
          there = due_there old.world old.seats.items c due.Take p.world manned next h.world;
          step = inr (inr (inr record {
            waiting = at_stage waits kept_stage.Waits due.Take next (due_waits next.0.stage next.2) shows_waits p h;
            before = taken.0.before;
            note = taken.0.note;
            behind = taken.0.behind;
            in_box = taken.0.in_box;
            read = x.0;
            reads = subst (λ l. TakesIn c p.world l x.0) (sym empty.0) x.1;
            takes = did.takes;
            mails = refl;
            stages = refl;
          }));
        },
        record { world = did.shows; seats = sets begins p.stages mails did.out tt did.are },
      )

-- an agent starts again
pub does_restart : (old new : Machine) (c : ℕ) (told : Reply) → IsManned new.world old.seats.items → HasBegun c old true → DoesEvent (λ w. Step w (event.Crash c)) old.world new.world told
    → AsksByWorld new.world c old.seats.items new.seats.items → Restarts c old new
does_restart old new c told manned begun does asks_all p h =
    let x = does p.world h.world in
    let first = (begun p h).0 refl in
    let boxes = telling_others c (asks c (x.0.agents c).known) p.boxes in (
      record { world = x.0; stages = p.stages; mails = p.mails; boxes = boxes },
      record { at_begin = first.1; told = told; step = x.1; stages = refl; mails = refl; boxes = refl },
      record { world = x.2; seats = asks_all x.0 p.stages p.mails p.boxes x.2 (there x.0 x.2 first.0) h.seats },
    )
  where
    there : (w : PlainWorld) → ShowsWorld new.world w → c < cpus_of p → is_cpu (shown w.kernel) c ≡ true
    there w shows low =
        let many = manned w shows in
        let before = old.manned p.world h.world in
        let inside : c < w.kernel.limits.cpus = omega arith in
        grind (arith, nat_tests)

-- the environment makes a call
pub does_call : (old new : Machine) (made : EnvCall) (told : Reply) → DoesEvent (λ w. Step w (event.Env made)) old.world new.world told → TellsWoken told old.seats.items new.seats.items → CallsByEnv made old told new
does_call old new made told does tells p h =
    let x = does p.world h.world in (
      record { world = x.0; stages = p.stages; mails = p.mails; boxes = woken_in told p.boxes },
      (record { call = made; told = told; step = x.1; stages = refl; mails = refl; boxes = refl }, refl, refl),
      record { world = x.2; seats = tells p.stages p.mails p.boxes h.seats },
    )

-- how many CPUs there are, as a kernel reads
pub cpus_read : (world : World) (k : KernelRows) → ((w : PlainWorld) → ShowsWorld world w → AnswersShows k w.kernel) → (w : PlainWorld) → ShowsWorld world w → k.limits.cpus ≡ w.kernel.limits.cpus
cpus_read world k shows w h = ap (λ (r : Reads). r.limits.cpus) (shows w h).reads

-- a call that woke an agent has it told
pub one_woken : (told : Reply) (cpu : ℕ) (old new : List Seat) → woken_by told ≡ Some cpu → Tells cpu kept.Wake old new → TellsWoken told old new
one_woken (reply.Posted posted) cpu old new e tells stages mails boxes h =
    subst (λ o. AreSeats new stages mails (rousing o boxes)) (sym e) (tells wake stages mails boxes tt h)
one_woken told cpu old new e tells stages mails boxes h = cc

-- one that woke none changes nothing
pub none_woken : (told : Reply) (woken : Option ℕ) (seats : List Seat) → woken ≡ woken_by told → ((cpu : ℕ) → woken ≡ Some cpu → ⊥) → TellsWoken told seats seats
none_woken (reply.Posted posted) None seats e none stages mails boxes h = subst (λ o. AreSeats seats stages mails (rousing o boxes)) e h
none_woken (reply.Posted posted) (Some cpu) seats e none stages mails boxes h = absurd (none cpu refl)
none_woken told woken seats e none stages mails boxes h = h

-- an agent that is there answers a digest
pub answered_so : (c : ℕ) (digest : Members) (old new : World) (told : Reply) (asked : Set) → IsSameSet digest (as_members asked) → (w : PlainWorld) → ShowsWorld old w → is_cpu (shown w.kernel) c ≡ true
    → AnswersDigest digest c old new told → (v : PlainWorld) × IsAnsweredTo asked w c told v × ShowsWorld new v
answered_so c digest old new told asked same w h there said =
    let x = said asked same w h in (x.0, MatchBool-at_true (IsAnsweredTo asked w c told x.0) (IsBadCpu w told x.0) there x.1, x.2)

pub answers_so : (c asker : ℕ) (digest : Members) (old new : World) (seats seats' : List Seat) (told : Reply) (delta : ℕ) → told ≡ reply.Answered delta → AnswersDigest digest c old new told
    → Tells asker (kept.Answer c delta) seats seats' → AnswersAsker c asker digest old new seats seats'
answers_so c asker digest old new seats seats' told delta is said tells asked same w h there =
    let x = answered_so c digest old new told asked same w h there said in
    let index : delta ≡ length w.sent = (let t = x.1.tells in cc) in (
      x.0,
      record {
        set = x.1.set;
        answers = record { lacking = x.1.answers.lacking; within = x.1.answers.within };
        after = x.1.after;
        tells = λ stages mails boxes are. tells (answer (length w.sent)) stages mails boxes index are;
      },
      x.2,
    )

-- every other agent is asked by what a view knows
pub asks_so : (world : World) (c : ℕ) (view : View) (old new : List Seat) → ((w : PlainWorld) → ShowsWorld world w → IsViewAt w c (Some view)) → AsksOthers c (pairs_of view) old new → AsksByWorld world c old new
asks_so world c view old new shows asks_all w stages mails boxes h there are = asks_all (w.agents c).known stages mails boxes (shows w h).1.known are

-- none is asked, where the CPU is not there
pub none_asked : (world : World) (c : ℕ) (seats : List Seat) → ((w : PlainWorld) → ShowsWorld world w → IsViewAt w c None) → AsksByWorld world c seats seats
none_asked world c seats shows w stages mails boxes h there are = absurd (false≢true (sym (shows w h) ∙ there))

-- the agent is told, or not
pub told_so : (quiet : Bool) (cpu : ℕ) (old new : List Seat) → quiet ≡ false → Tells cpu kept.News old new → TellsUnless quiet cpu old new
told_so true cpu old new e tells stages mails boxes h = absurd (false≢true (sym e))
told_so false cpu old new e tells stages mails boxes h = tells news stages mails boxes tt h

pub untold_so : (quiet : Bool) (cpu : ℕ) (seats : List Seat) → quiet ≡ true → TellsUnless quiet cpu seats seats
untold_so true cpu seats e stages mails boxes h = h
untold_so false cpu seats e stages mails boxes h = absurd (false≢true e)

module _ (laws : KernelLaws) where
  -- each CPU has a seat behind what an agent does
  pub manned_act : (c n : ℕ) (old new : World) (seats : List Seat) (asking : Bool) → IsReached old → IsManned old seats → ActsOn c n old new asking → IsManned new seats
  manned_act c n old new seats asking h manned acts = let x = acts h.plain h.shows in manned_on laws old new seats seats h manned refl x.0 (acts_lead h.plain c n asking x.0 x.1) x.2

  pub manned_sleep : (c n : ℕ) (kept : KeptStage) (old new : World) (seats seats' : List Seat) → IsReached old → IsManned old seats → length seats' ≡ length seats → SleepsUnder c n old new kept → IsManned new seats'
  manned_sleep c n kept old new seats seats' h manned same sleeps =
      let x = sleeps h.plain h.shows in manned_on laws old new seats seats' h manned same x.0 (one_leads h.plain x.0 (event.Agent (agent_call.Sleep c n)) x.1.told x.1.step) x.2

  pub manned_take_in : (c : ℕ) (ks : List ℕ) (old new : World) (seats : List Seat) → IsReached old → IsManned old seats → TakesInAll c ks old new → IsManned new seats
  manned_take_in c ks old new seats h manned takes = let x = takes h.plain h.shows in manned_on laws old new seats seats h manned refl x.0 (takes_in_lead h.plain c ks x.0 x.1) x.2

  manned_so : (c : ℕ) (keep : KeptNote) (next : Due) (old new : World) (seats seats' : List Seat) (s s' : List Seat) → IsReached old → IsManned old seats → length seats' ≡ length seats → IsDueAt seats c next
      → Follows c keep old new s s' → HasList keep → IsManned new seats'
  manned_so c keep next old new seats seats' s s' h manned same is follows listed =
      let led = follow_leads c keep old new s s' listed h (due_there old seats c next h.plain manned is h.shows) follows in manned_on laws old new seats seats' h manned same led.behind led.leads led.shows

  pub manned_follow : (c : ℕ) (keep : KeptNote) (next : Due) (old new : World) (seats seats' : List Seat) (s s' : List Seat) → IsReached old → IsManned old seats → length seats' ≡ length seats → IsDueAt seats c next
      → Follows c keep old new s s' → IsManned new seats'
  manned_follow c kept.Wake next old new seats seats' s s' h manned same is follows = manned_so c kept.Wake next old new seats seats' s s' h manned same is follows tt
  manned_follow c kept.News next old new seats seats' s s' h manned same is follows = manned_so c kept.News next old new seats seats' s s' h manned same is follows tt
  manned_follow c (kept.Answer sender k) next old new seats seats' s s' h manned same is follows = manned_so c (kept.Answer sender k) next old new seats seats' s s' h manned same is follows tt
  manned_follow c (kept.Asks asker question) next old new seats seats' s s' h manned same is follows = λ w told.
      ∥∥₁_elim question.listed (ℕ_set (length seats') w.kernel.limits.cpus) (λ listed. manned_so c (kept.Asks asker question) next old new seats seats' s s' h manned same is follows listed w told)

  pub manned_call : (made : EnvCall) (told : Reply) (old new : World) (seats seats' : List Seat) → IsReached old → IsManned old seats → length seats' ≡ length seats → DoesEvent (λ w. Step w (event.Env made)) old new told → IsManned new seats'
  manned_call made told old new seats seats' h manned same does = let x = does h.plain h.shows in manned_on laws old new seats seats' h manned same x.0 (one_leads h.plain x.0 (event.Env made) told x.1) x.2

-- whether an agent has a choice
idle_seat : (seat : Seat) (stage : Stage) (held : List ℕ) (box : List Note) → ShowsSeat seat stage held box → stage ≡ waits → box ≡ [] → choices_at seat ≡ 0
idle_seat seat stage held box shows at_wait none =
    by_stage_kept seat.stage (subst (ShowsStage seat.stage) at_wait shows.stage) seat.notes.items (subst (AreNotes seat.notes.items) none shows.notes)
  where
    no_notes : (keeps : List KeptNote) → AreNotes keeps [] → length keeps ≡ 0
    no_notes [] h = refl
    no_notes (k ∷ keeps) h = absurd h

    by_stage_kept : (stage : KeptStage) → ShowsStage stage waits → (keeps : List KeptNote) → AreNotes keeps [] → by_stage stage (length keeps) ≡ 0
    by_stage_kept kept_stage.Waits h keeps notes = no_notes keeps notes
    by_stage_kept kept_stage.Begins h keeps notes = absurd h
    by_stage_kept (kept_stage.Puts aseq delta left) h keeps notes = absurd h

no_choice : (stage : KeptStage) (keeps : List KeptNote) → by_stage stage (length keeps) ≡ 0 → (stage ≡ kept_stage.Waits) × (keeps ≡ [])
no_choice kept_stage.Begins keeps e = absurd (omega arith)
no_choice (kept_stage.Puts aseq delta left) keeps e = absurd (omega arith)
no_choice kept_stage.Waits [] e = (refl, refl)
no_choice kept_stage.Waits (k ∷ keeps) e = absurd (omega arith)

no_box : (box : List Note) → AreNotes [] box → box ≡ []
no_box [] h = refl
no_box (n ∷ box) h = absurd h

waiting_seat : (seat : Seat) (stage : Stage) (held : List ℕ) (box : List Note) → ShowsSeat seat stage held box → choices_at seat ≡ 0 → (stage ≡ waits) × (box ≡ [])
waiting_seat seat stage held box shows e =
    let none = no_choice seat.stage seat.notes.items e in
    (shows_waits stage (subst (λ k. ShowsStage k stage) none.0 shows.stage), no_box box (subst (λ l. AreNotes l box) none.1 shows.notes))

none_or_some : (n : ℕ) → (n ≡ 0) ⊎ (0 < n)
none_or_some zero = inl refl
none_or_some (suc n) = inr (omega arith)

pub has_choices : (machine : Machine) (c many : ℕ) → IsManned machine.world machine.seats.items → many ≡ choices_of (slice_get machine.seats.items c) → HasChoices c machine many
has_choices machine c many manned e p h = (some, any)
  where
    seats : List Seat
    seats = machine.seats.items

    of_seat : (o : Option Seat) → slice_get seats c ≡ o → 0 < choices_of o → (c < cpus_of p) × (IsWaiting p c → ⊥)
    of_seat None there low = absurd (omega arith)
    of_seat (Some seat) there low =
        let inside = slice_get_within seats c seat there in
        let same = manned p.world h.world in (
          omega arith,
          λ waiting. let none = idle_seat seat (p.stages c) (p.mails c) (p.boxes c) (h.seats c seat there) waiting.waiting waiting.empty in omega arith,
        )

    some : 0 < many → (c < cpus_of p) × (IsWaiting p c → ⊥)
    some low = of_seat (slice_get seats c) refl (subst (λ n. 0 < n) e low)

    any : (c < cpus_of p) × (IsWaiting p c → ⊥) → 0 < many
    any is = elim (none_or_some many) [
      | inr low ↦ low
      | inl none ↦
          let same = manned p.world h.world in
          let low = is.0 in
          let inside : c < length seats = omega arith in
          let there = seat_there seats c inside in
          let zero_here : choices_at there.0 ≡ 0 = sym (ap choices_of there.1) ∙ sym e ∙ none in
          let waits_here = waiting_seat there.0 (p.stages c) (p.mails c) (p.boxes c) (h.seats c there.0 there.1) zero_here in
          absurd (is.1 record { waiting = waits_here.0; empty = waits_here.1 })
    ]

-- a machine at rest
pub rests_so : (machine : Machine) → IsManned machine.world machine.seats.items → ((c : ℕ) (seat : Seat) → slice_get machine.seats.items c ≡ Some seat → choices_at seat ≡ 0) → Rests machine true
rests_so machine manned none p h = (
  λ e. record { waiting = λ c low. (quiet c low).0; empty = λ c low. (quiet c low).1 },
  λ rests. refl,
)
  where
    quiet : (c : ℕ) → c < cpus_of p → (p.stages c ≡ waits) × (p.boxes c ≡ [])
    quiet c low =
        let same = manned p.world h.world in
        let inside : c < length machine.seats.items = omega arith in
        let there = seat_there machine.seats.items c inside in
        waiting_seat there.0 (p.stages c) (p.mails c) (p.boxes c) (h.seats c there.0 there.1) (none c there.0 there.1)

pub goes_on_so : (machine : Machine) (c : ℕ) (seat : Seat) → IsManned machine.world machine.seats.items → slice_get machine.seats.items c ≡ Some seat → (choices_at seat ≡ 0 → ⊥) → Rests machine false
goes_on_so machine c seat manned there some p h = (
  λ e. absurd (false≢true e),
  λ rests.
      let same = manned p.world h.world in
      let inside = slice_get_within machine.seats.items c seat there in
      let low : c < cpus_of p = omega arith in
      absurd (some (idle_seat seat (p.stages c) (p.mails c) (p.boxes c) (h.seats c seat there) (rests.waiting c low) (rests.empty c low))),
)

-- one agent more has no choice
pub none_more : (seats : List Seat) (i : ℕ) (seat : Seat) → i < length seats → seat ≡ get_or seats i seat → choices_at seat ≡ 0 → ((c : ℕ) (it : Seat) → c < i → slice_get seats c ≡ Some it → choices_at it ≡ 0)
    → (c : ℕ) (it : Seat) → c < i + 1 → slice_get seats c ≡ Some it → choices_at it ≡ 0
none_more seats i seat low is none before c it inside there = elim (eqb_tells c i) [
  | inl e ↦
      let here = seat_at seats i seat seat low is in
      let met : slice_get seats i ≡ Some it = ap (slice_get seats) (sym e.1) ∙ there in
      let same : seat ≡ it = cc in
      ap choices_at (sym same) ∙ none
  | inr n ↦ let other = n.1 in before c it (omega arith) there
]

-- the same agent is due, by other words
pub due_as : (seats seats' : List Seat) (place c : ℕ) (next is : Due) → seats ≡ seats' → place ≡ c → next ≡ is → IsDueAt seats place next → IsDueAt seats' c is
due_as seats seats' place c next is same at_place what h = subst (λ n. IsDueAt seats' c n) what (subst (λ d. IsDueAt seats' d next) at_place (subst (λ l. IsDueAt l place next) same h))

pub low_as : (seats seats' : List Seat) (place c choice : ℕ) → seats ≡ seats' → place ≡ c → choice < choices_of (slice_get seats place) → choice < choices_of (slice_get seats' c)
low_as seats seats' place c choice same at_place h = subst (λ d. choice < choices_of (slice_get seats' d)) at_place (subst (λ l. choice < choices_of (slice_get l place)) same h)

-- what a mailbox holds
pub has_mail : (machine : Machine) (c : ℕ) (seat : Seat) → slice_get machine.seats.items c ≡ Some seat → HasMail c machine seat.mail.items
has_mail machine c seat there p h =
    let inside = slice_get_within machine.seats.items c seat there in
    let many = machine.manned p.world h.world in
    let low : nat_lt c (cpus_of p) ≡ true = grind (arith, nat_tests) in
    subst (λ b. seat.mail.items ≡ (if b then p.mails c else [])) (sym low) (h.seats c seat there).mail

pub no_mail : (machine : Machine) (c : ℕ) → IsManned machine.world machine.seats.items → length machine.seats.items ≤ c → HasMail c machine []
no_mail machine c manned high p h =
    let many = manned p.world h.world in
    let past : nat_lt c (cpus_of p) ≡ false = grind (arith, nat_tests) in
    subst (λ b. [] ≡ (if b then p.mails c else [])) (sym past) refl

module _ (laws : KernelLaws) where
  pub manned_crash : (c : ℕ) (told : Reply) (old new : World) (seats seats' : List Seat) → IsReached old → IsManned old seats → length seats' ≡ length seats → DoesEvent (λ w. Step w (event.Crash c)) old new told → IsManned new seats'
  manned_crash c told old new seats seats' h manned same does = let x = does h.plain h.shows in manned_on laws old new seats seats' h manned same x.0 (one_leads h.plain x.0 (event.Crash c) told x.1) x.2

-- whether an agent is at the begin of a turn
begin_so : (keep : KeptStage) (s : Stage) → ShowsStage keep s → (is_begin keep ≡ true → s ≡ begins) × (s ≡ begins → is_begin keep ≡ true)
begin_so kept_stage.Begins begins h = (λ e. refl, λ e. refl)
begin_so kept_stage.Begins (puts n k cpus) h = absurd h
begin_so kept_stage.Begins waits h = absurd h
begin_so (kept_stage.Puts aseq delta left) begins h = absurd h
begin_so (kept_stage.Puts aseq delta left) (puts n k cpus) h = (λ e. absurd (false≢true e), λ e. absurd (begins_not_puts n k cpus (sym e)))
begin_so (kept_stage.Puts aseq delta left) waits h = absurd h
begin_so kept_stage.Waits begins h = absurd h
begin_so kept_stage.Waits (puts n k cpus) h = absurd h
begin_so kept_stage.Waits waits h = (λ e. absurd (false≢true e), λ e. absurd (begins_not_waits (sym e)))

pub has_begun : (machine : Machine) (c : ℕ) (seat : Seat) (begun : Bool) → slice_get machine.seats.items c ≡ Some seat → begun ≡ is_begin seat.stage → HasBegun c machine begun
has_begun machine c seat begun there e p h =
    let is = begin_so seat.stage (p.stages c) (h.seats c seat there).stage in
    let inside = slice_get_within machine.seats.items c seat there in
    let many = machine.manned p.world h.world in
    let low : c < cpus_of p = omega arith in
    (λ yes_begun. (low, is.0 (sym e ∙ yes_begun)), λ begun_there. e ∙ is.1 begun_there.1)

pub none_begun : (machine : Machine) (c : ℕ) → IsManned machine.world machine.seats.items → length machine.seats.items ≤ c → HasBegun c machine false
none_begun machine c manned high p h =
    (λ e. absurd (false≢true e), λ begun_there. absurd (let many = manned p.world h.world in let low = begun_there.0 in let none : ⊥ = omega arith in none))
