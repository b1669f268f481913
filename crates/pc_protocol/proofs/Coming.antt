-- From every state steps of the agents alone can lead to one at rest: each agent is brought to wait, then each takes all
-- its notes, which leaves no question, then again, which leaves no note.
use Rattle.std.proofs.Common.{◌≡◌, ◌⊎◌, ◌-◌, ◌<◌, ◌≤◌, ◌==◌, ℕ, zero, suc, nat_lt, Bool, true, false, not, List, [], ◌∷◌, ◌++◌, length, drop, Option, Some, None, if◌then◌else◌, refl, sym, ◌∙◌, ap, subst, inl, inr, arith}
use Rattle.std.specs.List.{filter_map}
use Rattle.std.proofs.Math.ListN.{drop_of_length-le}
use Rattle.std.proofs.lemmas.Bool.{cases_eq, false≢true}
use Rattle.std.proofs.lemmas.Bool.Decides.{eqb_tells}
use Rattle.std.proofs.lemmas.List.{length-drop}
use Rattle.pc_messages.specs.declared.message.Item.{Item}
use Rattle.pc_messages.specs.Items.{pairs_in}
use Rattle.pc_calls.specs.declared.call.AgentCall.TheVariants.{Sleep}
use Rattle.pc_calls.specs.declared.call.Answer.TheVariants.{Done}
use Rattle.pc_calls.specs.declared.call.Call.TheVariants as call
use Rattle.pc_calls.specs.declared.event.Event.TheVariants as event
use Rattle.pc_calls.specs.declared.event.Reply.{Reply}
use Rattle.pc_calls.specs.declared.event.Reply.TheVariants as reply
use Rattle.pc_calls.specs.declared.limits.Limits.{Limits}
use Rattle.pc_calls.specs.declared.refusal.Refusal.{Refusal}
use Rattle.pc_calls.specs.declared.refusal.Refusal.TheVariants as refusal
use Rattle.pc_calls.specs.Conditions.{first_of}
use Rattle.pc_calls.specs.Events.{told_of}
use Rattle.pc_join.specs.Sets.{has}
use Rattle.pc_kernel.specs.PlainKernel.{PlainKernel, Post, aseq, content, item_to, items_to, kind_in, kinds}
use Rattle.pc_kernel.specs.Reads.{shown, is_cpu}
use Rattle.pc_kernel.specs.Reads as reads
use Rattle.pc_kernel.specs.Steps.{at, refused, reply_of}
use Rattle.pc_agent.specs.PlainAgent.{Set}
use Rattle.pc_policy.specs.Rules.{Rules}
use Rattle.pc_world.specs.Facts.{EveryEventHasAStep, IsInRun}
use Rattle.pc_world.specs.Mending.{AllAreEmpty}
use Rattle.pc_world.specs.PlainWorld.{PlainWorld, published}
use Rattle.pc_world.specs.Reached.{Reached}
use Rattle.pc_world.specs.Inner.Laws.{KernelLaws}
use Rattle.pc_world.proofs.Good.{IsGood, passed}
use Rattle.pc_world.proofs.Mended.{below_test, equal}
use Rattle.pc_world.proofs.Places.{at_other, at_same}
use Rattle.pc_world.proofs.Reaching.{reached_good}
use Rattle.pc_protocol.specs.Protocol.{Comes, IsAct, IsLook, IsPut, IsTake, Note, OfAgent, Protocol, Stage, Takes, answer, answers, asks, begins, behind_sleep, cpus_of, goes_on, learns, news, others, puts, roused, summoned, telling, telling_others, tells_none, waits, wake}
use Rattle.pc_protocol.specs.Resting.{AgentsLead, IsAtRest, at_once, onward}
use Rattle.pc_protocol.proofs.Among.{IsAmong, among_rest, among_middle, not_empty}
use Rattle.pc_protocol.proofs.Acting.{IsGreatest, acts_busy, acts_settle, never_late}
use Rattle.pc_protocol.proofs.Calm.{Calm, acts_calm, sleep_calm}
use Rattle.pc_protocol.proofs.Going.{can_act, can_read, can_take, stepped}
use Rattle.pc_protocol.proofs.Reaching.{acts_lead, reach_more, reaches, takes_asked, takes_in_lead}
use Rattle.pc_protocol.proofs.Resting.{known_or_mail}
use Rattle.pc_protocol.proofs.Settling.{above_test}
use Rattle.pc_protocol.proofs.Sleeping.{IsKept, act_calm, all_spent, falls_asleep, kept, still_there, take_does}
use Rattle.pc_protocol.proofs.Spreading.{Spread, known_more, spread, takes_learn}
use Rattle.pc_protocol.proofs.Stepping.{Taken, looks}

-- the agent knows each message of the run
abbrev Knows : Protocol → ℕ → Type 0
Knows p c = (t n : ℕ) → IsInRun (kinds p.world.kernel) t n → has (p.world.agents c).known t n ≡ true

abbrev NoAsks : Protocol → ℕ → Type 0
NoAsks p d = (asker : ℕ) (digest : Set) → IsAmong (asks asker digest) (p.boxes d) → ⊥

-- what steps of one agent keep
record Base (p q : Protocol) (c : ℕ) : Type 0 where
  limits : q.world.kernel.limits ≡ p.world.kernel.limits
  stages : (d : ℕ) → (d ≡ c → ⊥) → q.stages d ≡ p.stages d
  contents : (d : ℕ) → content p.world.kernel d ≡ [] → content q.world.kernel d ≡ []

-- and what they keep where all wait, and all queues are empty
record Keep (p q : Protocol) (c : ℕ) : Type 0 where
  base : Base p q c
  asked : (d : ℕ) → NoAsks p d → NoAsks q d
  quiet : NoAsks p c → (d : ℕ) → (d ≡ c → ⊥) → q.boxes d ≡ p.boxes d

there_on : (p q : Protocol) (c d : ℕ) → Base p q c → is_cpu (shown p.world.kernel) d ≡ true → is_cpu (shown q.world.kernel) d ≡ true
there_on p q c d base there = ap (λ (l : Limits). nat_lt d l.cpus) base.limits ∙ there

there_back : (p q : Protocol) (c d : ℕ) → Base p q c → is_cpu (shown q.world.kernel) d ≡ true → is_cpu (shown p.world.kernel) d ≡ true
there_back p q c d base there = sym (ap (λ (l : Limits). nat_lt d l.cpus) base.limits) ∙ there

cpus_same : (p q : Protocol) (c : ℕ) → Base p q c → cpus_of q ≡ cpus_of p
cpus_same p q c base = ap (λ (l : Limits). l.cpus) base.limits

empty_on : (p q : Protocol) (c : ℕ) → Base p q c → AllAreEmpty p.world → AllAreEmpty q.world
empty_on p q c base empty d there = base.contents d (empty d (there_back p q c d base there))

base_then : (p q r : Protocol) (c : ℕ) → Base p q c → Base q r c → Base p r c
base_then p q r c a b = record {
  limits = b.limits ∙ a.limits;
  stages = λ d o. b.stages d o ∙ a.stages d o;
  contents = λ d e. b.contents d (a.contents d e);
}

base_same : (p : Protocol) (c : ℕ) → Base p p c
base_same p c = record { limits = refl; stages = λ d o. refl; contents = λ d e. e }

-- where the kernel stays
base_kernel : (p q : Protocol) (c : ℕ) (s : Stage) → q.world.kernel ≡ p.world.kernel → q.stages ≡ at p.stages c s → Base p q c
base_kernel p q c s kernel stages = record {
  limits = ap (λ (P : PlainKernel). P.limits) kernel;
  stages = λ d o. ap (λ (f : ℕ → Stage). f d) stages ∙ at_other p.stages c d s o;
  contents = λ d e. ap (λ (P : PlainKernel). content P d) kernel ∙ e;
}

keep_then : (p q r : Protocol) (c : ℕ) → Keep p q c → Keep q r c → Keep p r c
keep_then p q r c a b = record {
  base = base_then p q r c a.base b.base;
  asked = λ d none. b.asked d (a.asked d none);
  quiet = λ none d o. b.quiet (a.asked c none) d o ∙ a.quiet none d o;
}

keep_same : (p : Protocol) (c : ℕ) → Keep p p c
keep_same p c = record { base = base_same p c; asked = λ d none. none; quiet = λ none d o. refl }

keep_boxes : (p q : Protocol) (c : ℕ) → Base p q c → q.boxes ≡ p.boxes → Keep p q c
keep_boxes p q c base same = record {
  base = base;
  asked = λ d none asker digest isin. none asker digest (subst (λ (b : ℕ → List Note). IsAmong (asks asker digest) (b d)) same isin);
  quiet = λ none d o. ap (λ (b : ℕ → List Note). b d) same;
}

lead_then : (p q r : Protocol) → AgentsLead p q → AgentsLead q r → AgentsLead p r
lead_then p q r a at_once = a
lead_then p q r a (onward {q = s} c b of) = onward c (lead_then p q s a b) of

all_eaten : (k : ℕ) (items : List Item) → drop k items ≡ [] → length items ≤ k
all_eaten k items e = let size : length (drop k items) ≡ length items - k = length-drop k items in let none : length (drop k items) ≡ 0 = ap length e in omega arith

two_none : (a b : Bool) (x y : Refusal) → a ≡ true → b ≡ true → first_of ((not a, x) ∷ (not b, y) ∷ []) ≡ None
two_none true true x y e f = refl
two_none true false x y e f = cc
two_none false b x y e f = cc

-- how much a box weighs: a question is answered by a note
abbrev weight : List Note → ℕ
weight [] = 0
weight (wake ∷ notes) = suc (weight notes)
weight (news ∷ notes) = suc (weight notes)
weight (asks asker digest ∷ notes) = suc (suc (weight notes))
weight (answer k ∷ notes) = suc (weight notes)

weight_answer : (notes : List Note) (k : ℕ) → weight (notes ++ answer k ∷ []) ≡ suc (weight notes)
weight_answer [] k = refl
weight_answer (wake ∷ notes) k = ap suc (weight_answer notes k)
weight_answer (news ∷ notes) k = ap suc (weight_answer notes k)
weight_answer (asks asker digest ∷ notes) k = ap (λ n. suc (suc n)) (weight_answer notes k)
weight_answer (answer j ∷ notes) k = ap suc (weight_answer notes k)

lighter : (w : PlainWorld) (c : ℕ) (boxes : ℕ → List Note) (note : Note) (v : PlainWorld) (out : ℕ → List Note) → Takes w c boxes note v out → weight (out c) < weight (note ∷ boxes c)
lighter w c boxes note v out roused = omega arith
lighter w c boxes note v out summoned = omega arith
lighter w c boxes note v out (learns k told step) = omega arith
lighter w c boxes note v out (answers asker digest set so) = elim (eqb_tells c asker) [
  | inl e ↦
      let same : weight (telling asker (answer (length w.sent)) boxes c) ≡ suc (weight (boxes asker)) = ap (λ b. weight (if b then boxes asker ++ answer (length w.sent) ∷ [] else boxes c)) e.0 ∙ weight_answer (boxes asker) (length w.sent) in
      let own : weight (boxes asker) ≡ weight (boxes c) = ap (λ d. weight (boxes d)) (sym e.1) in
      omega arith
  | inr o ↦
      let same : weight (telling asker (answer (length w.sent)) boxes c) ≡ weight (boxes c) = ap (λ b. weight (if b then boxes asker ++ answer (length w.sent) ∷ [] else boxes c)) o.0 in
      omega arith
]

takes_quiet : (w : PlainWorld) (c : ℕ) (boxes : ℕ → List Note) (note : Note) (v : PlainWorld) (out : ℕ → List Note) → Takes w c boxes note v out → ((asker : ℕ) (digest : Set) → note ≡ asks asker digest → ⊥) → out ≡ boxes
takes_quiet w c boxes note v out roused other = refl
takes_quiet w c boxes note v out summoned other = refl
takes_quiet w c boxes note v out (learns k told step) other = refl
takes_quiet w c boxes note v out (answers asker digest set so) other = absurd (other asker digest refl)

weighs : (note : Note) (rest : List Note) → 1 ≤ weight (note ∷ rest)
weighs wake rest = omega arith
weighs news rest = omega arith
weighs (asks asker digest) rest = omega arith
weighs (answer k) rest = omega arith

waits_or_begins : (told : Reply) → (behind_sleep told ≡ waits) ⊎ (behind_sleep told ≡ begins)
waits_or_begins reply.Done = inl refl
waits_or_begins other = inr refl

module _ (laws : KernelLaws) (greatest : IsGreatest) (steps : EveryEventHasAStep) (rules : ℕ → Rules) (limits : Limits) where
  abbrev Is : Protocol → Type 0
  Is p = Comes rules limits p

  module _ (p : Protocol) (comes : Is p) (c : ℕ) (there : is_cpu (shown p.world.kernel) c ≡ true) where
    abbrev w : PlainWorld
    w = p.world

    reached : Reached limits w
    reached = reaches laws rules limits p comes

    good : IsGood limits w
    good = reached_good laws limits w reached

    keeps : IsKept p
    keeps = kept laws rules limits p comes

    spreads : Spread p
    spreads = spread laws rules limits p comes

    module _ (new : Protocol) where
      base_act : IsAct p c new → Base p new c
      base_act act =
          let calm = act_calm laws limits p new good keeps c there act in
          record {
            limits = calm.limits;
            stages = λ d o. ap (λ (s : ℕ → Stage). s d) act.stages ∙ at_other p.stages c d (behind_sleep act.told) o;
            contents = λ d e. contents d (cases_eq d c) e;
          }
        where
          contents : (d : ℕ) → (d ≡ c) ⊎ (d ≡ c → ⊥) → content w.kernel d ≡ [] → content new.world.kernel d ≡ []
          contents d (inr o) e =
              let calm = act_calm laws limits p new good keeps c there act in
              ap (λ k. drop k (items_to new.world.kernel d)) (calm.eaten d o) ∙ ap (λ posts. drop (w.kernel.eaten d) (filter_map (item_to d) posts)) calm.posts ∙ e
          contents d (inl own) e =
              let calm = act_calm laws limits p new good keeps c there act in
              let none : (new.world.agents c).sent_items ≡ 0 = (sleep_calm c act.n act.acted new.world act.told act.sleeps).spent (all_spent laws limits p new good keeps c there act) in
              let none' : (new.world.agents d).sent_items ≡ 0 = ap (λ m. (new.world.agents m).sent_items) own ∙ none in
              let same : passed new.world d ≡ passed w d = calm.passes d in
              let size : aseq new.world.kernel d ≡ aseq w.kernel d = ap (λ posts. length (filter_map (item_to d) posts)) calm.posts in
              let before = all_eaten (w.kernel.eaten d) (items_to w.kernel d) e in
              drop_of_length-le (items_to new.world.kernel d) (omega arith)

      -- under the count of its posts
      module _ (act : IsAct p c new) (count : act.n ≡ aseq w.kernel c) where
        abbrev x : PlainWorld
        x = act.acted

        x_calm : Calm c w x
        x_calm = acts_calm laws w c act.n act.asking x act.acts

        x_there : is_cpu (shown x.kernel) c ≡ true
        x_there = still_there laws limits p new good keeps c there act

        x_count : act.n ≡ aseq x.kernel c
        x_count = count ∙ sym (ap (λ posts. length (filter_map (item_to c) posts)) x_calm.posts)

        sleeps_well : behind_sleep act.told ≡ waits
        sleeps_well =
            let r = shown x.kernel in
            let none : refused r (call.Agent (Sleep c act.n)) ≡ None =
            two_none (is_cpu r c) (act.n == reads.aseq_read r c) refusal.BadCpu (refusal.Stale (reads.aseq_read r c)) x_there (equal act.n (reads.aseq_read r c) (x_count ∙ sym ((laws.reads x.kernel).aseq c x_there))) in
            ap behind_sleep (act.sleeps.tells ∙ ap (λ o. told_of (call.Agent (Sleep c act.n)) (reply_of o Done)) none)

        asks_nobody : AllAreEmpty w → Knows p c → act.asking ≡ false
        asks_nobody empty know = by_on (x.kernel.on c) refl
          where
            x_good : IsGood limits x
            x_good = reached_good laws limits x (reach_more limits w x reached (acts_lead w c act.n act.asking x act.acts))

            x_empty : (q : ℕ) → is_cpu (shown x.kernel) q ≡ true → content x.kernel q ≡ []
            x_empty q cpu =
                let cpu' = sym (ap (λ (l : Limits). nat_lt q l.cpus) x_calm.limits) ∙ cpu in
                let before = all_eaten (w.kernel.eaten q) (items_to w.kernel q) (empty q cpu') in
                let size : aseq x.kernel q ≡ aseq w.kernel q = ap (λ posts. length (filter_map (item_to q) posts)) x_calm.posts in
                drop_of_length-le (items_to x.kernel q) (by_cpu q (cases_eq q c) before size)
              where
                by_cpu : (q : ℕ) → (q ≡ c) ⊎ (q ≡ c → ⊥) → aseq w.kernel q ≤ w.kernel.eaten q → aseq x.kernel q ≡ aseq w.kernel q → aseq x.kernel q ≤ x.kernel.eaten q
                by_cpu q (inr o) low size = let e = x_calm.eaten q o in omega arith
                by_cpu q (inl own) low size =
                    let none : (x.agents c).sent_items ≡ 0 = all_spent laws limits p new good keeps c there act in
                    let none' : (x.agents q).sent_items ≡ 0 = ap (λ m. (x.agents m).sent_items) own ∙ none in
                    let same : passed x q ≡ passed w q = x_calm.passes q in
                    omega arith

            x_knows : (t n : ℕ) → IsInRun (kinds x.kernel) t n → has (x.agents c).known t n ≡ true
            x_knows t n told =
                ap (λ s. has s t n) (x_calm.known c)
                ∙ know t n (told.0, subst (λ ks. n ≤ length ks) (ap (λ posts. filter_map (λ (one : Post). kind_in t one.item) posts) x_calm.posts) told.1)

            by_on : (o : Option ℕ) → x.kernel.on c ≡ o → act.asking ≡ false
            by_on (Some t) e = acts_busy laws greatest limits w good c act.n act.asking x t act.acts x_there e
            by_on None e = elim (acts_settle laws greatest limits w good c act.n act.asking x act.acts x_there x_count e) [
              | inl none ↦ none.0
              | inr late ↦ absurd (never_late laws greatest limits x x_good c x_there x_knows x_empty late.1)
            ]

        boxes_stay : AllAreEmpty w → Knows p c → new.boxes ≡ p.boxes
        boxes_stay empty know = act.boxes ∙ ap (λ b. if b then telling_others c (asks c (x.agents c).known) p.boxes else p.boxes) (asks_nobody empty know)

      -- a note is taken
      module _ (take : IsTake p c new) where
        abbrev rest : List Note
        rest = take.before ++ take.behind

        did : Taken w c (at p.boxes c rest) new.world new.boxes
        did = take_does laws limits p new good keeps c there take

        base_take : Base p new c
        base_take = base_kernel p new c begins did.kernel take.stages

        was_asked : (d asker : ℕ) (digest : Set) → IsAmong (asks asker digest) (new.boxes d) → IsAmong (asks asker digest) (p.boxes d)
        was_asked d asker digest isin =
            by_cpu (cases_eq d c) (takes_asked take.read c (at p.boxes c rest) take.note new.world new.boxes take.takes d asker digest isin)
          where
            by_cpu : (d ≡ c) ⊎ (d ≡ c → ⊥) → IsAmong (asks asker digest) (at p.boxes c rest d) → IsAmong (asks asker digest) (p.boxes d)
            by_cpu (inr o) h = subst (IsAmong (asks asker digest)) (at_other p.boxes c d rest o) h
            by_cpu (inl own) h =
                subst (IsAmong (asks asker digest)) (sym (ap p.boxes own ∙ take.in_box)) (among_rest (asks asker digest) take.note take.before take.behind
                (subst (IsAmong (asks asker digest)) (ap (at p.boxes c rest) own ∙ at_same p.boxes c rest) h))

        keep_take : Keep p new c
        keep_take = record {
          base = base_take;
          asked = λ d none asker digest isin. none asker digest (was_asked d asker digest isin);
          quiet = λ none d o.
              ap (λ (b : ℕ → List Note). b d) (takes_quiet take.read c (at p.boxes c rest) take.note new.world new.boxes take.takes
              (λ asker digest is. none asker digest (subst (IsAmong (asks asker digest)) (sym take.in_box) (subst (λ n. IsAmong n (take.before ++ take.note ∷ take.behind)) is (among_middle take.note take.before take.behind)))))
              ∙ at_other p.boxes c d rest o;
        }

        -- who has taken its mail knows all, where all wait and all queues are empty
        knows_then : ((d : ℕ) → d < cpus_of p → p.stages d ≡ waits) → AllAreEmpty w → Knows new c
        knows_then waiting empty t n told = elim (known_or_mail laws rules limits p comes waiting empty c t n there (subst (λ (P : PlainKernel). IsInRun (kinds P) t n) did.kernel told)) [
          | inl k ↦ did.known c t n k
          | inr mail ↦ takes_learn p new c there take mail.0 t n mail.1 mail.2
        ]

  -- an act under the count that was read
  record ActsAt (p : Protocol) (c n : ℕ) : Type 0 where
    new : Protocol
    act : IsAct p c new
    same : act.n ≡ n

  acts_at : (p : Protocol) (comes : Is p) (c n k : ℕ) → p.stages c ≡ puts n k [] → ActsAt p c n
  acts_at p comes c n k e =
      let h = reaches laws rules limits p comes in
      let a = can_act steps limits p.world c n h in
      let s = stepped steps limits a.new (event.Agent (Sleep c n)) (reach_more limits p.world a.new h (acts_lead p.world c n a.asking a.new a.acts)) in
      let note = asks c (a.new.agents c).known in
      record {
        new = record { world = s.new; stages = at p.stages c (behind_sleep s.told); mails = p.mails; boxes = if a.asking then telling_others c note p.boxes else p.boxes };
        act = record { n = n; k = k; has_read = e; asking = a.asking; acted = a.new; acts = a.acts; told = s.told; sleeps = s.step; stages = refl; mails = refl; boxes = refl };
        same = refl;
      }

  -- all puts that are left
  record PutAll (p : Protocol) (c n k : ℕ) : Type 0 where
    new : Protocol
    leads : AgentsLead p new
    comes : Is new
    world : new.world ≡ p.world
    base : Base p new c
    stage : new.stages c ≡ puts n k []

  puts_all : (n k : ℕ) (left : List ℕ) (p : Protocol) → Is p → (c : ℕ) → is_cpu (shown p.world.kernel) c ≡ true → p.stages c ≡ puts n k left → PutAll p c n k
  puts_all n k [] p comes c there stage = record { new = p; leads = at_once; comes = comes; world = refl; base = base_same p c; stage = stage }
  puts_all n k (to ∷ left) p comes c there stage =
      let q : Protocol = record { world = p.world; stages = at p.stages c (puts n k left); mails = at p.mails to (p.mails to ++ k ∷ []); boxes = telling to news p.boxes } in
      let put : IsPut p c q = record {
        n = n;
        k = k;
        before = [];
        to = to;
        behind = left;
        at_put = stage;
        quiet = false;
        if_quiet = λ bad. absurd (false≢true bad);
        world = refl;
        stages = refl;
        mails = refl;
        boxes = refl;
      } in
      let of : OfAgent p c q = record { there = there; step = inr (inl put) } in
      let more = puts_all n k left q (goes_on comes (inr (inr (c, of)))) c there (at_same p.stages c (puts n k left)) in
      record {
        new = more.new;
        leads = lead_then p q more.new (onward c at_once of) more.leads;
        comes = more.comes;
        world = more.world;
        base = base_then p q more.new c (base_kernel p q c (puts n k left) refl refl) more.base;
        stage = more.stage;
      }

  -- an agent that was brought to wait
  record Brought (p : Protocol) (c : ℕ) : Type 0 where
    new : Protocol
    leads : AgentsLead p new
    comes : Is new
    base : Base p new c
    waiting : new.stages c ≡ waits
    empty : content new.world.kernel c ≡ []

  brought_then : (p q : Protocol) (c : ℕ) → AgentsLead p q → Base p q c → Brought q c → Brought p c
  brought_then p q c leads base b = record {
    new = b.new;
    leads = lead_then p q b.new leads b.leads;
    comes = b.comes;
    base = base_then p q b.new c base b.base;
    waiting = b.waiting;
    empty = b.empty;
  }

  -- an act that was made, and led to sleep
  acted : (p : Protocol) (comes : Is p) (c n : ℕ) (there : is_cpu (shown p.world.kernel) c ≡ true) (a : ActsAt p c n) → behind_sleep a.act.told ≡ waits → Brought p c
  acted p comes c n there a well =
      let of : OfAgent p c a.new = record { there = there; step = inr (inr (inl a.act)) } in
      record {
        new = a.new;
        leads = onward c at_once of;
        comes = goes_on comes (inr (inr (c, of)));
        base = base_act p comes c there a.new a.act;
        waiting = ap (λ (f : ℕ → Stage). f c) a.act.stages ∙ at_same p.stages c (behind_sleep a.act.told) ∙ well;
        empty = (falls_asleep laws limits p a.new (reached_good laws limits p.world (reaches laws rules limits p comes)) (kept laws rules limits p comes) c there a.act well).empty;
      }

  -- a look
  record Looked (p : Protocol) (c : ℕ) : Type 0 where
    new : Protocol
    look : IsLook p c new
    of : OfAgent p c new
    comes : Is new
    base : Base p new c
    is : new.world ≡ published p.world c

  abbrev to_put : PlainWorld → ℕ → List ℕ
  to_put w c = if tells_none (pairs_in (content w.kernel c)) then [] else others c w.kernel.limits.cpus

  look_at : (p : Protocol) (comes : Is p) (c : ℕ) → is_cpu (shown p.world.kernel) c ≡ true → p.stages c ≡ begins → Looked p c
  look_at p comes c there begun =
      let s = stepped steps limits p.world (event.Publish c false) (reaches laws rules limits p comes) in
      let stage = puts (aseq p.world.kernel c) (length p.world.sent) (to_put p.world c) in
      let q : Protocol = record { world = s.new; stages = at p.stages c stage; mails = p.mails; boxes = p.boxes } in
      let look : IsLook p c q = record { at_begin = begun; told = s.told; step = s.step; stages = refl; mails = refl; boxes = refl } in
      let of : OfAgent p c q = record { there = there; step = inl look } in
      let is = looks p.world c s.told s.new there s.step in
      record {
        new = q;
        look = look;
        of = of;
        comes = goes_on comes (inr (inr (c, of)));
        base = base_kernel p q c stage (ap (λ (v : PlainWorld). v.kernel) is) refl;
        is = is;
      }

  -- a turn, from its begin
  turns : (p : Protocol) → Is p → (c : ℕ) → is_cpu (shown p.world.kernel) c ≡ true → p.stages c ≡ begins → Brought p c
  turns p comes c there begun = of_look (look_at p comes c there begun)
    where
      n : ℕ
      n = aseq p.world.kernel c

      k : ℕ
      k = length p.world.sent

      of_act : (q : Protocol) → AgentsLead p q → (comes_q : Is q) → Base p q c → (there_q : is_cpu (shown q.world.kernel) c ≡ true) → n ≡ aseq q.world.kernel c → (a : ActsAt q c n) → Brought p c
      of_act q leads comes_q base there_q count a =
          brought_then p q c leads base (acted q comes_q c n there_q a (sleeps_well q comes_q c there_q a.new a.act (a.same ∙ count)))

      of_put : (q : Protocol) → AgentsLead p q → Base p q c → n ≡ aseq q.world.kernel c → is_cpu (shown q.world.kernel) c ≡ true → PutAll q c n k → Brought p c
      of_put q leads base count there_q all =
          of_act all.new (lead_then p q all.new leads all.leads) all.comes (base_then p q all.new c base all.base) (there_on q all.new c c all.base there_q)
          (count ∙ sym (ap (λ (v : PlainWorld). aseq v.kernel c) all.world)) (acts_at all.new all.comes c n k all.stage)

      of_look : Looked p c → Brought p c
      of_look l =
          let q = l.new in
          let there_q = there_on p q c c l.base there in
          let stage : q.stages c ≡ puts n k (to_put p.world c) = ap (λ (f : ℕ → Stage). f c) l.look.stages ∙ at_same p.stages c (puts n k (to_put p.world c)) in
          of_put q (onward c at_once l.of) l.base (sym (ap (λ (v : PlainWorld). aseq v.kernel c) l.is)) there_q (puts_all n k (to_put p.world c) q l.comes c there_q stage)

  record TakesAt (p : Protocol) (c : ℕ) : Type 0 where
    new : Protocol
    take : IsTake p c new
    begun : new.stages c ≡ begins
    less : weight (new.boxes c) < weight (p.boxes c)

  takes_at : (p : Protocol) (comes : Is p) (c : ℕ) (note : Note) (rest : List Note) → p.stages c ≡ waits → p.boxes c ≡ note ∷ rest → TakesAt p c
  takes_at p comes c note rest waiting e =
      let h = reaches laws rules limits p comes in
      let boxes = at p.boxes c rest in
      let ahead = can_read steps limits p.world c (p.mails c) h in
      let t = can_take steps limits ahead.0 c boxes note (reach_more limits p.world ahead.0 h (takes_in_lead p.world c (p.mails c) ahead.0 ahead.1)) in
      record {
        new = record { world = t.new; stages = at p.stages c begins; mails = at p.mails c []; boxes = t.out };
        take = record { waiting = waiting; before = []; note = note; behind = rest; in_box = e; read = ahead.0; reads = ahead.1; takes = t.takes; mails = refl; stages = refl };
        begun = at_same p.stages c begins;
        less = subst (λ b. weight (t.out c) < weight b) (ap (λ b. note ∷ b) (at_same p.boxes c rest) ∙ sym e) (lighter ahead.0 c boxes note t.new t.out t.takes);
      }

  brings : (p : Protocol) (comes : Is p) (c : ℕ) (there : is_cpu (shown p.world.kernel) c ≡ true) → Brought p c
  brings p comes c there = by_stage (p.stages c) refl
    where
      of_take : TakesAt p c → Brought p c
      of_take t =
          let of : OfAgent p c t.new = record { there = there; step = inr (inr (inr t.take)) } in
          let base = base_take p comes c there t.new t.take in
          brought_then p t.new c (onward c at_once of) base (turns t.new (goes_on comes (inr (inr (c, of)))) c (there_on p t.new c c base there) t.begun)

      by_box : p.stages c ≡ waits → (notes : List Note) → p.boxes c ≡ notes → Brought p c
      by_box waiting [] e = record { new = p; leads = at_once; comes = comes; base = base_same p c; waiting = waiting; empty = ((kept laws rules limits p comes).asleep c waiting e).empty }
      by_box waiting (note ∷ rest) e = of_take (takes_at p comes c note rest waiting e)

      of_act : (q : Protocol) (comes_q : Is q) (there_q : is_cpu (shown q.world.kernel) c ≡ true) (n : ℕ) → ActsAt q c n → Brought q c
      of_act q comes_q there_q n a =
          let of : OfAgent q c a.new = record { there = there_q; step = inr (inr (inl a.act)) } in
          let base = base_act q comes_q c there_q a.new a.act in
          let stage : a.new.stages c ≡ behind_sleep a.act.told = ap (λ (f : ℕ → Stage). f c) a.act.stages ∙ at_same q.stages c (behind_sleep a.act.told) in
          elim (waits_or_begins a.act.told) [
            | inl well ↦ acted q comes_q c n there_q a well
            | inr stale ↦ brought_then q a.new c (onward c at_once of) base (turns a.new (goes_on comes_q (inr (inr (c, of)))) c (there_on q a.new c c base there_q) (stage ∙ stale))
          ]

      of_put : (n k : ℕ) → PutAll p c n k → Brought p c
      of_put n k all =
          brought_then p all.new c all.leads all.base (of_act all.new all.comes (there_on p all.new c c all.base there) n (acts_at all.new all.comes c n k all.stage))

      by_stage : (s : Stage) → p.stages c ≡ s → Brought p c
      by_stage begins e = turns p comes c there e
      by_stage (puts n k left) e = of_put n k (puts_all n k left p comes c there e)
      by_stage waits e = by_box e (p.boxes c) refl

  -- all wait, and all queues are empty
  record Still (p : Protocol) : Type 0 where
    waiting : (d : ℕ) → d < cpus_of p → p.stages d ≡ waits
    empty : AllAreEmpty p.world

  still_on : (p q : Protocol) (c : ℕ) → Base p q c → q.stages c ≡ waits → Still p → Still q
  still_on p q c base waiting h = record {
    waiting = λ d low. elim (cases_eq d c) [
      | inl own ↦ ap q.stages own ∙ waiting
      | inr o ↦ base.stages d o ∙ h.waiting d (subst (λ n. d < n) (cpus_same p q c base) low)
    ];
    empty = empty_on p q c base h.empty;
  }

  -- a turn of an agent that knows all, where all queues are empty: nobody is told anything
  record Turned (p : Protocol) (c : ℕ) : Type 0 where
    new : Protocol
    leads : AgentsLead p new
    comes : Is new
    base : Base p new c
    waiting : new.stages c ≡ waits
    boxes : new.boxes ≡ p.boxes

  module _ (p : Protocol) (comes : Is p) (c : ℕ) (there : is_cpu (shown p.world.kernel) c ≡ true) (empty : AllAreEmpty p.world) (know : Knows p c) where
    hushed_act : (q : Protocol) → (l : OfAgent p c q) → (comes_q : Is q) → Base p q c → q.boxes ≡ p.boxes → (there_q : is_cpu (shown q.world.kernel) c ≡ true) → Knows q c
        → (n : ℕ) → n ≡ aseq q.world.kernel c → ActsAt q c n → Turned p c
    hushed_act q l comes_q base boxes there_q know_q n count a =
        let r = a.new in
        let of : OfAgent q c r = record { there = there_q; step = inr (inr (inl a.act)) } in
        let well = sleeps_well q comes_q c there_q r a.act (a.same ∙ count) in
        record {
          new = r;
          leads = onward c (onward c at_once l) of;
          comes = goes_on comes_q (inr (inr (c, of)));
          base = base_then p q r c base (base_act q comes_q c there_q r a.act);
          waiting = ap (λ (f : ℕ → Stage). f c) a.act.stages ∙ at_same q.stages c (behind_sleep a.act.told) ∙ well;
          boxes = boxes_stay q comes_q c there_q r a.act (a.same ∙ count) (empty_on p q c base empty) know_q ∙ boxes;
        }

    hushed_look : Looked p c → Turned p c
    hushed_look l =
        let q = l.new in
        let n = aseq p.world.kernel c in
        let k = length p.world.sent in
        let there_q = there_on p q c c l.base there in
        let kernel : q.world.kernel ≡ p.world.kernel = ap (λ (v : PlainWorld). v.kernel) l.is in
        let none : to_put p.world c ≡ [] = ap (λ items. if tells_none (pairs_in items) then [] else others c p.world.kernel.limits.cpus) (empty c there) in
        let stage : q.stages c ≡ puts n k [] = ap (λ (f : ℕ → Stage). f c) l.look.stages ∙ at_same p.stages c (puts n k (to_put p.world c)) ∙ ap (puts n k) none in
        hushed_act q l.of l.comes l.base l.look.boxes there_q
        (λ t m told. known_more laws limits p q (reached_good laws limits p.world (reaches laws rules limits p comes)) (spread laws rules limits p comes) c there (kept laws rules limits p comes) l.look c t m (know t m (subst (λ (P : PlainKernel). IsInRun (kinds P) t m) kernel told)))
        n (sym (ap (λ (P : PlainKernel). aseq P c) kernel)) (acts_at q l.comes c n k stage)

    hushed_turn : p.stages c ≡ begins → Turned p c
    hushed_turn begun = hushed_look (look_at p comes c there begun)

  -- an agent takes all notes of its box
  record Drained (p : Protocol) (c : ℕ) : Type 0 where
    new : Protocol
    leads : AgentsLead p new
    comes : Is new
    keep : Keep p new c
    still : Still new
    none : new.boxes c ≡ []

  abbrev Again : ℕ → ℕ → Type 0
  Again c k = (q : Protocol) → Is q → c < cpus_of q → Still q → weight (q.boxes c) ≤ k → Drained q c

  drains : (k : ℕ) (p : Protocol) → Is p → (c : ℕ) → c < cpus_of p → Still p → weight (p.boxes c) ≤ k → Drained p c
  drains zero p comes c low still light = by_box (p.boxes c) refl
    where
      by_box : (notes : List Note) → p.boxes c ≡ notes → Drained p c
      by_box [] e = record { new = p; leads = at_once; comes = comes; keep = keep_same p c; still = still; none = e }
      by_box (note ∷ rest) e = let some = weighs note rest in let same : weight (p.boxes c) ≡ weight (note ∷ rest) = ap weight e in absurd (omega arith)
  drains (suc k) p comes c low still light = by_box (λ q comes low still light. drains k q comes c low still light) (p.boxes c) refl
    where
      of_turn : Again c k → (t : TakesAt p c) → (of : OfAgent p c t.new) → (base : Base p t.new c) → Keep p t.new c → Turned t.new c → Drained p c
      of_turn again t of base keep u =
          let both = keep_then p t.new u.new c keep (keep_boxes t.new u.new c u.base u.boxes) in
          let less = t.less in
          let same : weight (u.new.boxes c) ≡ weight (t.new.boxes c) = ap (λ (b : ℕ → List Note). weight (b c)) u.boxes in
          let rest = again u.new u.comes (subst (λ n. c < n) (sym (cpus_same p u.new c both.base)) low) (still_on p u.new c both.base u.waiting still) (omega arith) in
          record {
            new = rest.new;
            leads = lead_then p u.new rest.new (lead_then p t.new u.new (onward c at_once of) u.leads) rest.leads;
            comes = rest.comes;
            keep = keep_then p u.new rest.new c both rest.keep;
            still = rest.still;
            none = rest.none;
          }

      of_take : Again c k → TakesAt p c → Drained p c
      of_take again t =
          let there = above_test c (cpus_of p) low in
          let of : OfAgent p c t.new = record { there = there; step = inr (inr (inr t.take)) } in
          let base = base_take p comes c there t.new t.take in
          of_turn again t of base (keep_take p comes c there t.new t.take)
          (hushed_turn t.new (goes_on comes (inr (inr (c, of)))) c (there_on p t.new c c base there) (empty_on p t.new c base still.empty) (knows_then p comes c there t.new t.take still.waiting still.empty) t.begun)

      by_box : Again c k → (notes : List Note) → p.boxes c ≡ notes → Drained p c
      by_box again [] e = record { new = p; leads = at_once; comes = comes; keep = keep_same p c; still = still; none = e }
      by_box again (note ∷ rest) e = of_take again (takes_at p comes c note rest (still.waiting c low) e)

  drain : (p : Protocol) → Is p → (c : ℕ) → c < cpus_of p → Still p → Drained p c
  drain p comes c low still = drains (weight (p.boxes c)) p comes c low still (omega arith)

  -- one agent after another
  record After (P : Protocol → Type 0) (p : Protocol) : Type 0 where
    new : Protocol
    leads : AgentsLead p new
    comes : Is new
    size : cpus_of new ≡ cpus_of p
    holds : P new

  rounds : (P : ℕ → Protocol → Type 0) → ((q : Protocol) → Is q → (n : ℕ) → n < cpus_of q → P n q → After (P (suc n)) q) → (p : Protocol) → Is p → P 0 p → (n : ℕ) → n ≤ cpus_of p → After (P n) p
  rounds P step p comes start zero low = record { new = p; leads = at_once; comes = comes; size = refl; holds = start }
  rounds P step p comes start (suc n) low =
      let before = rounds P step p comes start n (omega arith) in
      let same = before.size in
      let next = step before.new before.comes n (omega arith) before.holds in
      record { new = next.new; leads = lead_then p before.new next.new before.leads next.leads; comes = next.comes; size = next.size ∙ before.size; holds = next.holds }

  -- those below a number wait, and nothing is in their queues
  record Waiting (n : ℕ) (p : Protocol) : Type 0 where
    waiting : (d : ℕ) → d < n → p.stages d ≡ waits
    empty : (d : ℕ) → d < n → content p.world.kernel d ≡ []

  first_round : (q : Protocol) → Is q → (n : ℕ) → n < cpus_of q → Waiting n q → After (Waiting (suc n)) q
  first_round q comes n low h =
      let b = brings q comes n (above_test n (cpus_of q) low) in
      record {
        new = b.new;
        leads = b.leads;
        comes = b.comes;
        size = cpus_same q b.new n b.base;
        holds = record {
          waiting = λ d below. elim (cases_eq d n) [ inl own ↦ ap b.new.stages own ∙ b.waiting | inr o ↦ b.base.stages d o ∙ h.waiting d (omega (arith, o)) ];
          empty = λ d below. elim (cases_eq d n) [ inl own ↦ ap (content b.new.world.kernel) own ∙ b.empty | inr o ↦ b.base.contents d (h.empty d (omega (arith, o))) ];
        };
      }

  no_asks : (p : Protocol) (d : ℕ) → p.boxes d ≡ [] → NoAsks p d
  no_asks p d none asker digest isin = not_empty (asks asker digest) (p.boxes d) isin none

  -- all are still, and those below a number are not asked
  record Hushes (n : ℕ) (p : Protocol) : Type 0 where
    still : Still p
    hushed : (d : ℕ) → d < n → NoAsks p d

  second_round : (q : Protocol) → Is q → (n : ℕ) → n < cpus_of q → Hushes n q → After (Hushes (suc n)) q
  second_round q comes n low h =
      let b = drain q comes n low h.still in
      record {
        new = b.new;
        leads = b.leads;
        comes = b.comes;
        size = cpus_same q b.new n b.keep.base;
        holds = record {
          still = b.still;
          hushed = λ d below. elim (cases_eq d n) [
            | inl own ↦ no_asks b.new d (ap b.new.boxes own ∙ b.none)
            | inr o ↦ b.keep.asked d (h.hushed d (omega (arith, o)))
          ];
        };
      }

  -- nobody is asked, and no note is under way to those below a number
  record Rests (n : ℕ) (p : Protocol) : Type 0 where
    still : Still p
    hushed : (d : ℕ) → d < cpus_of p → NoAsks p d
    none : (d : ℕ) → d < n → p.boxes d ≡ []

  last_round : (q : Protocol) → Is q → (n : ℕ) → n < cpus_of q → Rests n q → After (Rests (suc n)) q
  last_round q comes n low h =
      let b = drain q comes n low h.still in
      let size = cpus_same q b.new n b.keep.base in
      record {
        new = b.new;
        leads = b.leads;
        comes = b.comes;
        size = size;
        holds = record {
          still = b.still;
          hushed = λ d below. b.keep.asked d (h.hushed d (omega arith));
          none = λ d below. elim (cases_eq d n) [
            | inl own ↦ ap b.new.boxes own ∙ b.none
            | inr o ↦ b.keep.quiet (h.hushed n low) d o ∙ h.none d (omega (arith, o))
          ];
        };
      }

  abbrev Resting : Protocol → Type 0
  Resting p = (new : Protocol) × AgentsLead p new × IsAtRest new

  rest_then : (p q : Protocol) → AgentsLead p q → Resting q → Resting p
  rest_then p q leads r = (r.0, lead_then p q r.0 leads r.1, r.2)

  from_rests : (n : ℕ) (p : Protocol) → n ≡ cpus_of p → Rests n p → IsAtRest p
  from_rests n p size h = record { waiting = h.still.waiting; empty = λ d low. h.none d (omega arith) }

  from_hushed : (p : Protocol) → Is p → (n : ℕ) → n ≡ cpus_of p → Hushes n p → Resting p
  from_hushed p comes n size h =
      let f = rounds Rests last_round p comes (record { still = h.still; hushed = λ d low. h.hushed d (omega arith); none = λ d low. absurd (omega arith) }) (cpus_of p) (omega arith) in
      (f.new, f.leads, from_rests (cpus_of p) f.new (sym f.size) f.holds)

  from_waiting : (p : Protocol) → Is p → (n : ℕ) → n ≡ cpus_of p → Waiting n p → Resting p
  from_waiting p comes n size h =
      let still : Still p = record { waiting = λ d low. h.waiting d (omega arith); empty = λ q there. let low = below_test q (cpus_of p) there in h.empty q (omega arith) } in
      let f = rounds Hushes second_round p comes (record { still = still; hushed = λ d low. absurd (omega arith) }) (cpus_of p) (omega arith) in
      rest_then p f.new f.leads (from_hushed f.new f.comes (cpus_of p) (sym f.size) f.holds)

  pub rest_comes : (p : Protocol) → Is p → Resting p
  rest_comes p comes =
      let f = rounds Waiting first_round p comes (record { waiting = λ d low. absurd (omega arith); empty = λ d low. absurd (omega arith) }) (cpus_of p) (omega arith) in
      rest_then p f.new f.leads (from_waiting f.new f.comes (cpus_of p) (sym f.size) f.holds)
