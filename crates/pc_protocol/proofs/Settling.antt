-- Whose agent waits, and to whom no note is under way: it has asked, a thread runs there, or it knows of none that it would take.
use Rattle.std.proofs.Common.{◌≡◌, ◌⊎◌, ◌+◌, ◌≤◌, ◌<◌, ℕ, zero, suc, nat_lt, Bool, true, false, List, [], ◌∷◌, ◌++◌, length, Option, Some, None, is_some, unwrap_or, find, if◌then◌else◌, refl, sym, ◌∙◌, ap, subst, inl, inr, arith, length-append}
use Rattle.std.specs.List.{filter_map, cons_option, range_with_len}
use Rattle.std.specs.Option.{option_map_or}
use Rattle.std.proofs.Math.ListN.{drop_of_length-le}
use Rattle.std.proofs.lemmas.Bool.{cases_eq, cases_lt, false≢true}
use Rattle.std.proofs.lemmas.Bool.Decides.{nat_tests}
use Rattle.std.proofs.lemmas.List.{append-nil}
use Rattle.std.proofs.lemmas.Option.{same_Some}
use Rattle.pc_messages.specs.declared.kind.Kind.{Kind}
use Rattle.pc_messages.specs.declared.kind.Kind.TheVariants as kind
use Rattle.pc_messages.specs.declared.message.Item.{Item}
use Rattle.pc_messages.specs.declared.message.Item.TheVariants as item
use Rattle.pc_messages.specs.declared.message.Message.{Message}
use Rattle.pc_messages.specs.Items.{pairs_in}
use Rattle.pc_messages.specs.Mask.{allows}
use Rattle.pc_messages.specs.State.{mask_of, phase_of, state_of}
use Rattle.pc_calls.specs.declared.call.EnvCall.{EnvCall}
use Rattle.pc_calls.specs.declared.call.EnvCall.TheVariants as env
use Rattle.pc_calls.specs.declared.limits.Limits.{Limits}
use Rattle.pc_join.specs.Sets.{has}
use Rattle.pc_kernel.specs.PlainKernel.{PlainKernel, Post, aseq, content, is_known, item_to, items_to, kind_in, kinds, number, place_of}
use Rattle.pc_kernel.specs.Facts.{IsAtHome, IsPlaced}
use Rattle.pc_kernel.specs.Reads.{shown, is_cpu}
use Rattle.pc_kernel.specs.Steps.{at, posting, woken}
use Rattle.pc_kernel.proofs.AlwaysCalls.{no_place, place_has}
use Rattle.pc_kernel.proofs.Posting.{IsQuiet, IsTelling, item_cases, telling_same}
use Rattle.pc_agent.specs.PlainAgent.{PlainAgent, Set}
use Rattle.pc_policy.specs.Rules.{Rules}
use Rattle.pc_run_queue.specs.Runs.{rank_told}
use Rattle.pc_world.specs.Facts.{IsInRun}
use Rattle.pc_world.specs.Mending.{IsStolenBy, WaitsFor}
use Rattle.pc_world.specs.PlainWorld.{PlainWorld, published}
use Rattle.pc_world.specs.Reached.{Reached}
use Rattle.pc_world.specs.Inner.Laws.{KernelLaws}
use Rattle.pc_world.proofs.Good.{IsGood, passed}
use Rattle.pc_world.proofs.GoodSteps.{content_in_run}
use Rattle.pc_world.proofs.Mended.{below_test}
use Rattle.pc_world.proofs.Places.{at_other, at_same}
use Rattle.pc_world.proofs.Reaching.{reached_good}
use Rattle.pc_protocol.specs.Protocol.{Comes, Goes, IsAct, IsCalledByEnv, IsForgotten, IsLook, IsPut, IsTake, Note, Protocol, Stage, Takes, answer, answers, asks, begins, behind_sleep, goes_on, learns, news, opening, others, puts, roused, starts, summoned, telling_others, tells_none, wake, waits}
use Rattle.pc_protocol.specs.Protocol as protocol
use Rattle.pc_protocol.proofs.Among.{IsAmong, among_taken, not_empty, empty_at}
use Rattle.pc_protocol.proofs.Acting.{IsBehind, IsGreatest, IsLate, IsOpen, acts_settle, never_late}
use Rattle.pc_protocol.proofs.Boxes.{Grows, empty_before, grows_same, others_have, rousing_grows, telling_has}
use Rattle.pc_protocol.proofs.Calm.{Calm, waits_there, acts_calm, sleep_calm, has_behind}
use Rattle.pc_protocol.proofs.Forgetting.{forgets_asked, forgets_back}
use Rattle.pc_protocol.proofs.Reaching.{acts_lead, reach_more, reaches}
use Rattle.pc_protocol.proofs.Sleeping.{IsKept, act_calm, act_grows, falls_asleep, kept, own_sleeper, put_grows, stage_of, still_there, take_does, take_grows}
use Rattle.pc_protocol.proofs.Spreading.{Spread, kinds_after, spread, unsent}
use Rattle.pc_protocol.proofs.Stepping.{EnvDoes, IsPost, env_does, is_before, begins_not_waits, looks, puts_not_waits, sleeps}
use Rattle.pc_protocol.proofs.Putting.{IsPutting}
use Rattle.pc_protocol.proofs.Putting as Putting

-- the agent's question is under way to some agent
abbrev pub IsAsked : Protocol → ℕ → Type 0
IsAsked p c = (d : ℕ) × (digest : Set) × (is_cpu (shown p.world.kernel) d ≡ true) × IsAmong (asks c digest) (p.boxes d)

-- some thread runs on the CPU, or the agent knows of none that it would take
abbrev pub IsSettled : PlainWorld → ℕ → Type 0
IsSettled w c = ((t : ℕ) × (w.kernel.on c ≡ Some t)) ⊎ IsOpen w c

abbrev pub Settled : Protocol → Type 0
Settled p = (c : ℕ) → is_cpu (shown p.world.kernel) c ≡ true → p.stages c ≡ waits → p.boxes c ≡ [] → IsAsked p c ⊎ IsSettled p.world c

-- what waits for a CPU waited for it before, where its kinds are the same, and who ran runs
find_below : (p : ℕ → Bool) (a n c : ℕ) → find p (range_with_len a n) ≡ Some c → c < a + n
find_below p a zero c e = cc
find_below p a (suc n) c e = elim (p a) as (λ b. (if b then Some a else find p (range_with_len (a + 1) n)) ≡ Some c → c < a + suc n) [
  | true ↦ λ s. let same : a ≡ c = same_Some a c s in omega arith
  | false ↦ λ s. let low = find_below p (a + 1) n c s in omega arith
] e

place_back : (P Q : PlainKernel) (t : ℕ) → Q.limits ≡ P.limits → ((d : ℕ) → P.on d ≡ Some t → Q.on d ≡ Some t) → place_of Q t ≡ None → place_of P t ≡ None
place_back P Q t limits on none = by_place (place_of P t) refl
  where
    by_place : (o : Option ℕ) → place_of P t ≡ o → place_of P t ≡ None
    by_place None e = e
    by_place (Some d) e =
        let low : d < 0 + P.limits.cpus = find_below _ 0 P.limits.cpus d e in
        let same : Q.limits.cpus ≡ P.limits.cpus = ap (λ (l : Limits). l.cpus) limits in
        absurd (no_place Q t none d (omega arith) (on d (place_has P t d e)))

waits_back : KernelLaws → (P Q : PlainKernel) (c t : ℕ) → kinds Q t ≡ kinds P t → (place_of Q t ≡ None → place_of P t ≡ None) → WaitsFor Q c t → WaitsFor P c t
waits_back laws P Q c t same place h = record {
  ready = ap phase_of (sym same) ∙ h.ready;
  allowed = ap (λ ks. option_map_or (λ mask. allows mask c) (mask_of ks) false) ((laws.reads P).kinds t ∙ sym same ∙ sym ((laws.reads Q).kinds t)) ∙ h.allowed;
  nowhere = place h.nowhere;
}

-- of one thread
module _ (laws : KernelLaws) (w new : PlainWorld) (c t : ℕ) (same : kinds new.kernel t ≡ kinds w.kernel t) (place : place_of new.kernel t ≡ None → place_of w.kernel t ≡ None)
    (rules : (new.agents c).rules ≡ (w.agents c).rules) (known : (new.agents c).known ≡ (w.agents c).known) where
  stolen_back : IsStolenBy (new.agents c).rules new.kernel c t → IsStolenBy (w.agents c).rules w.kernel c t
  stolen_back h =
      subst (λ ks. ((w.agents c).rules.exact ≡ false) ⊎ (is_some (rank_told (w.agents c).rules.ranks c t (state_of ks)) ≡ true)) same
      (subst (λ (r : Rules). IsStolenBy r new.kernel c t) rules h)

  behind_on : IsBehind w c t → IsBehind new c t
  behind_on h = (h.0, (h.1.0, subst (λ ks. h.0 ≤ length ks) (sym same) h.1.1), ap (λ s. has s t h.0) known ∙ h.2)

  open_at : (WaitsFor w.kernel c t → IsStolenBy (w.agents c).rules w.kernel c t → IsBehind w c t) → WaitsFor new.kernel c t → IsStolenBy (new.agents c).rules new.kernel c t → IsBehind new c t
  open_at was waiting stolen = behind_on (was (waits_back laws w.kernel new.kernel c t same place waiting) (stolen_back stolen))

settled_calm : KernelLaws → (a d : ℕ) (w new : PlainWorld) → Calm a w new → IsSettled w d → IsSettled new d
settled_calm laws a d w new calm (inl busy) = inl (busy.0, calm.on d busy.0 busy.1)
settled_calm laws a d w new calm (inr none) = inr (λ t.
    open_at laws w new d t (ap (λ posts. filter_map (λ (one : Post). kind_in t one.item) posts) calm.posts)
    (place_back w.kernel new.kernel t calm.limits (λ e. calm.on e t)) (calm.rules d) (calm.known d) (none t))

-- by the kernel and the agent alone
abbrev SettledBy : PlainKernel → PlainAgent → ℕ → Type 0
SettledBy K a d = ((t : ℕ) × (K.on d ≡ Some t)) ⊎ ((t : ℕ) → WaitsFor K d t → IsStolenBy a.rules K d t → (n : ℕ) × IsInRun (kinds K) t n × (has a.known t n ≡ false))

settled_same : (d : ℕ) (w new : PlainWorld) → new.kernel ≡ w.kernel → new.agents d ≡ w.agents d → IsSettled w d → IsSettled new d
settled_same d w new kernel agent h = subst (λ K. SettledBy K (new.agents d) d) (sym kernel) (subst (λ a. SettledBy w.kernel a d) (sym agent) h)

-- what a call of the environment leaves on a CPU
record Left (P : PlainKernel) (made : EnvCall) (t : ℕ) : Type 0 where
  queue : (posting P made).queue ≡ P.home t
  message : Message
  is : (posting P made).item ≡ item.Thread message
  thread : message.thread ≡ t

abbrev Stays : PlainKernel → EnvCall → ℕ → ℕ → Type 0
Stays P made c t = ((posting P made).before.on c ≡ Some t) ⊎ Left P made t

leaves_off : (P : PlainKernel) (cpu c t : ℕ) → P.on c ≡ Some t → (at P.on cpu None c ≡ Some t) ⊎ (unwrap_or (P.on cpu) 0 ≡ t)
leaves_off P cpu c t e = elim (cases_eq c cpu) [
  | inl same ↦ inr (ap (λ d. unwrap_or (P.on d) 0) (sym same) ∙ ap (λ o. unwrap_or o 0) e)
  | inr o ↦ inl (at_other P.on cpu c None o ∙ e)
]

stays_or_left : (P : PlainKernel) (made : EnvCall) (c t : ℕ) → P.on c ≡ Some t → Stays P made c t
stays_or_left P (env.Create queue ready mask) c t e = inl e
stays_or_left P (env.Wake s) c t e = inl e
stays_or_left P (env.SetAffinity s mask) c t e = inl e
stays_or_left P (env.SetPriority s level) c t e = inl e
stays_or_left P (env.Tick cpu) c t e = inl e
stays_or_left P (env.Block cpu ran) c t e = elim (leaves_off P cpu c t e) [ inl s ↦ inl s | inr s ↦ inr record { queue = ap P.home s; message = record { thread = unwrap_or (P.on cpu) 0; number = number P (unwrap_or (P.on cpu) 0) + 1; kind = kind.Blocked ran }; is = refl; thread = s } ]
stays_or_left P (env.YieldNow cpu ran) c t e = elim (leaves_off P cpu c t e) [ inl s ↦ inl s | inr s ↦ inr record { queue = ap P.home s; message = record { thread = unwrap_or (P.on cpu) 0; number = number P (unwrap_or (P.on cpu) 0) + 1; kind = kind.Yield ran }; is = refl; thread = s } ]
stays_or_left P (env.Preempt cpu ran) c t e = elim (leaves_off P cpu c t e) [ inl s ↦ inl s | inr s ↦ inr record { queue = ap P.home s; message = record { thread = unwrap_or (P.on cpu) 0; number = number P (unwrap_or (P.on cpu) 0) + 1; kind = kind.Preempted ran }; is = refl; thread = s } ]
stays_or_left P (env.Die cpu ran) c t e = elim (leaves_off P cpu c t e) [ inl s ↦ inl s | inr s ↦ inr record { queue = ap P.home s; message = record { thread = unwrap_or (P.on cpu) 0; number = number P (unwrap_or (P.on cpu) 0) + 1; kind = kind.Dead ran }; is = refl; thread = s } ]

not_quiet : (P : PlainKernel) (made : EnvCall) (t : ℕ) → Left P made t → kind_in t (posting P made).item ≡ None → ⊥
not_quiet P made t h quiet =
    let m = h.message in
    let some : kind_in t (posting P made).item ≡ Some m.kind = ap (kind_in t) h.is ∙ ap (λ s. kind_in s (item.Thread m)) (sym h.thread) ∙ (telling_same m).kind in
    no_kind (kind_in t (posting P made).item) m.kind quiet some
  where
    no_kind : (o : Option Kind) (k : Kind) → o ≡ None → o ≡ Some k → ⊥
    no_kind o k e f = cc

pub some_number : (n m : ℕ) → 1 ≤ n → n ≤ m → nat_lt 0 m ≡ true
some_number n m low high = grind (arith, nat_tests)

pub queue_is_there : (laws : KernelLaws) (limits : Limits) (w : PlainWorld) → IsGood limits w → (q t n : ℕ) → has (pairs_in (content w.kernel q)) t n ≡ true → is_cpu (shown w.kernel) q ≡ true
queue_is_there laws limits w good q t n told =
    let run = content_in_run laws limits w good q t n told in
    let cpu : is_known w.kernel t ≡ true → is_cpu (shown w.kernel) (w.kernel.home t) ≡ true =
    subst (λ (P : PlainKernel). is_known P t ≡ true → is_cpu (shown P) (P.home t) ≡ true) (sym good.replayed) (laws.homes limits good.calls t) in
    let home : IsAtHome w.kernel t = subst (λ (P : PlainKernel). IsAtHome P t) (sym good.replayed) (laws.home limits good.calls t) in
    elim (cases_eq q (w.kernel.home t)) [
      | inl e ↦ ap (is_cpu (shown w.kernel)) e ∙ cpu (some_number n (number w.kernel t) run.0 run.1)
      | inr o ↦ absurd (waits_there (content w.kernel q) t n told (home.elsewhere q o))
    ]

-- another CPU, or there is none
other_cpu : (c cpus : ℕ) → c < cpus → ((d : ℕ) × (d < cpus) × (d ≡ c → ⊥)) ⊎ ((q : ℕ) → q < cpus → q ≡ c)
other_cpu (suc c) cpus low = inl (0, omega arith, λ e. omega arith)
other_cpu zero cpus low = elim (cases_lt 1 cpus) [
  | inl two ↦ inl (1, two, λ e. omega arith)
  | inr one ↦ inr (λ q below. omega arith)
]

pub above_test : (a b : ℕ) → a < b → nat_lt a b ≡ true
above_test a b e = grind (arith, nat_tests)

-- one step
module _ (laws : KernelLaws) (greatest : IsGreatest) (limits : Limits) (p new : Protocol) (reached : Reached limits p.world) (keeps : IsKept p) (spreads : Spread p) (putting : IsPutting p) (h : Settled p) where
  abbrev w : PlainWorld
  w = p.world

  abbrev K : PlainKernel
  K = w.kernel

  good : IsGood limits w
  good = reached_good laws limits w reached

  asked_on : (c : ℕ) → new.world.kernel.limits ≡ K.limits → ((d : ℕ) (digest : Set) → IsAmong (asks c digest) (p.boxes d) → IsAmong (asks c digest) (new.boxes d)) → IsAsked p c → IsAsked new c
  asked_on c limits more asked = (asked.0, asked.1, ap (λ (l : Limits). nat_lt asked.0 l.cpus) limits ∙ asked.2, more asked.0 asked.1 asked.3)

  -- the environment
  module _ (made : EnvCall) (stages : new.stages ≡ p.stages) (post : IsPost p made new) where
    abbrev B : PlainKernel
    B = (posting K made).before

    abbrev q : ℕ
    q = (posting K made).queue

    abbrev it : Item
    it = (posting K made).item

    placed : (c t : ℕ) → IsPlaced K c t
    placed c t = subst (λ P. IsPlaced P c t) (sym good.replayed) (laws.placed limits good.calls c t)

    on_posted : (c t : ℕ) → B.on c ≡ Some t → new.world.kernel.on c ≡ Some t
    on_posted c t e = ap (λ (v : PlainWorld). v.kernel.on c) post.world ∙ e

    kinds_quiet : (t : ℕ) → kind_in t it ≡ None → kinds new.world.kernel t ≡ kinds K t
    kinds_quiet t e = ap (λ (v : PlainWorld). kinds v.kernel t) post.world ∙ kinds_after K made t ∙ ap (λ o. kinds K t ++ cons_option o []) e ∙ append-nil (kinds K t)

    limits_same : new.world.kernel.limits ≡ K.limits
    limits_same = ap (λ (v : PlainWorld). v.kernel.limits) post.world ∙ (is_before K made).limits

    boxes_grow : Grows p.boxes new.boxes
    boxes_grow = subst (Grows p.boxes) (sym post.boxes) (rousing_grows (woken B q) p.boxes)

    -- a thread that was told has a message that no agent knows
    behind_told : (c t : ℕ) (m : Message) → IsTelling t it m → IsBehind new.world c t
    behind_told c t m tells =
        let more : kinds new.world.kernel t ≡ kinds K t ++ m.kind ∷ [] =
        ap (λ (v : PlainWorld). kinds v.kernel t) post.world ∙ kinds_after K made t ∙ ap (λ o. kinds K t ++ cons_option o []) tells.kind in
        let size : length (kinds new.world.kernel t) ≡ number K t + 1 = ap length more ∙ length-append (kinds K t) (m.kind ∷ []) in
        (number K t + 1, (omega arith, omega arith), ap (λ (v : PlainWorld). has (v.agents c).known t (number K t + 1)) post.world ∙ unknown (has (w.agents c).known t (number K t + 1)) refl)
      where
        unknown : (b : Bool) → has (w.agents c).known t (number K t + 1) ≡ b → has (w.agents c).known t (number K t + 1) ≡ false
        unknown false e = e
        unknown true e = let told = (good.known c t (number K t + 1) e).1 in absurd (omega arith)

    open_post : (c : ℕ) → IsOpen w c → IsOpen new.world c
    open_post c was t = by_item (item_cases t it)
      where
        on_still : IsQuiet t it → (d : ℕ) → K.on d ≡ Some t → new.world.kernel.on d ≡ Some t
        on_still quiet d e = elim (stays_or_left K made d t e) [
          | inl s ↦ on_posted d t s
          | inr left ↦ absurd (not_quiet K made t left quiet.kind)
        ]

        by_item : IsQuiet t it ⊎ ((m : Message) × IsTelling t it m) → WaitsFor new.world.kernel c t → IsStolenBy (new.world.agents c).rules new.world.kernel c t → IsBehind new.world c t
        by_item (inl quiet) =
            open_at laws w new.world c t (kinds_quiet t quiet.kind) (place_back K new.world.kernel t limits_same (on_still quiet))
            (ap (λ (v : PlainWorld). (v.agents c).rules) post.world) (ap (λ (v : PlainWorld). (v.agents c).known) post.world) (was t)
        by_item (inr tells) = λ waiting stolen. behind_told c t tells.0 tells.1

    settled_post : (c : ℕ) → p.stages c ≡ waits → new.boxes c ≡ [] → IsSettled w c → IsSettled new.world c
    settled_post c waiting empty (inr none) = inr (open_post c none)
    settled_post c waiting empty (inl busy) = elim (stays_or_left K made c busy.0 busy.1) [
      | inl s ↦ inl (busy.0, on_posted c busy.0 s)
      | inr left ↦
          let own : q ≡ c = left.queue ∙ (placed c busy.0).home busy.1 in
          let none : protocol.rousing (woken B q) p.boxes c ≡ [] = sym (ap (λ (b : ℕ → List Note). b c) post.boxes) ∙ empty in
          let before = is_before K made in
          let aims : B.target q ≡ Some q = ap (λ (f : ℕ → Option ℕ). f q) before.target ∙ keeps.target q in
          let asleep : is_some (B.slept c) ≡ true =
          ap (λ (f : ℕ → Option ℕ). is_some (f c)) before.slept ∙ (keeps.asleep c waiting (empty_before p.boxes new.boxes boxes_grow c empty)).slept in
          absurd (own_sleeper B q it p.boxes aims c own none asleep)
    ]

    pub post_settles : Settled new
    post_settles c there waiting empty =
        let was : p.stages c ≡ waits = sym (ap (λ (s : ℕ → Stage). s c) stages) ∙ waiting in
        let there' : is_cpu (shown K) c ≡ true = sym (ap (λ (l : Limits). nat_lt c l.cpus) limits_same) ∙ there in
        elim (h c there' was (empty_before p.boxes new.boxes boxes_grow c empty)) [
          | inl asked ↦ inl (asked_on c limits_same (λ d digest. boxes_grow d (asks c digest)) asked)
          | inr settled ↦ inr (settled_post c was empty settled)
        ]

  settled_env : (called : IsCalledByEnv p new) → EnvDoes p called.call new → Settled new
  settled_env called (inr post) c there waiting empty = post_settles called.call called.stages post c there waiting empty
  settled_env called (inl same) c there waiting empty =
      let is : p ≡ new = λ i. record { world = sym same.0 i; stages = sym called.stages i; mails = sym called.mails i; boxes = sym same.1 i } in
      subst Settled is h c there waiting empty

  -- a note that is forgotten
  settled_forgotten : IsForgotten p new → Settled new
  settled_forgotten f c there waiting empty =
      let limits' : new.world.kernel.limits ≡ K.limits = ap (λ (v : PlainWorld). v.kernel.limits) f.world in
      elim (h c (sym (ap (λ (l : Limits). nat_lt c l.cpus) limits') ∙ there) (sym (ap (λ (s : ℕ → Stage). s c) f.stages) ∙ waiting) (forgets_back p new f c empty)) [
        | inl asked ↦
            let s = forgets_asked p new f asked.0 c asked.1 asked.3 in
            inl (asked.0, s.0, ap (λ (l : Limits). nat_lt asked.0 l.cpus) limits' ∙ asked.2, s.1)
        | inr settled ↦ inr (subst (λ v. IsSettled v c) (sym f.world) settled)
      ]

  module _ (c : ℕ) (there : is_cpu (shown K) c ≡ true) where
    -- an agent that no step of this one is about
    beside : (d : ℕ) → new.world.kernel.limits ≡ K.limits → is_cpu (shown new.world.kernel) d ≡ true → p.stages d ≡ waits → p.boxes d ≡ []
        → (IsAsked p d → IsAsked new d) → (IsSettled w d → IsSettled new.world d) → IsAsked new d ⊎ IsSettled new.world d
    beside d limits stands waiting empty asked settled = elim (h d (sym (ap (λ (l : Limits). nat_lt d l.cpus) limits) ∙ stands) waiting empty) [
      | inl was ↦ inl (asked was)
      | inr was ↦ inr (settled was)
    ]

    -- the look
    settled_look : IsLook p c new → Settled new
    settled_look look d stands waiting empty =
        let is : new.world ≡ published w c = looks w c look.told new.world there look.step in
        let kernel : new.world.kernel ≡ K = ap (λ (v : PlainWorld). v.kernel) is in
        let limits' = ap (λ (P : PlainKernel). P.limits) kernel in
        let left = if tells_none (pairs_in (content K c)) then [] else others c K.limits.cpus in
        elim (stage_of laws limits p new good keeps c there (puts (aseq K c) (length w.sent) left) look.stages d waits waiting) [
          | inl own ↦ absurd (puts_not_waits (aseq K c) (length w.sent) left own.1)
          | inr o ↦ beside d limits' stands o.1 (sym (ap (λ (b : ℕ → List Note). b d) look.boxes) ∙ empty)
              (asked_on d limits' (λ e digest. grows_same p.boxes new.boxes look.boxes e (asks d digest)))
              (settled_same d w new.world kernel (ap (λ (v : PlainWorld). v.agents d) is ∙ at_other w.agents c d _ o.0))
        ]

    -- the put
    settled_put : IsPut p c new → Settled new
    settled_put put d stands waiting empty =
        let kernel : new.world.kernel ≡ K = ap (λ (v : PlainWorld). v.kernel) put.world in
        let limits' = ap (λ (P : PlainKernel). P.limits) kernel in
        let rest = put.before ++ put.behind in
        let grows = put_grows laws limits p new good keeps c there put in
        elim (stage_of laws limits p new good keeps c there (puts put.n put.k rest) put.stages d waits waiting) [
          | inl own ↦ absurd (puts_not_waits put.n put.k rest own.1)
          | inr o ↦ beside d limits' stands o.1 (empty_before p.boxes new.boxes grows d empty)
              (asked_on d limits' (λ e digest. grows e (asks d digest)))
              (settled_same d w new.world kernel (ap (λ (v : PlainWorld). v.agents d) put.world))
        ]

    -- a note
    answered : (w : PlainWorld) (boxes : ℕ → List Note) (note : Note) (v : PlainWorld) (out : ℕ → List Note) (d : ℕ) (digest : Set) → Takes w c boxes note v out → note ≡ asks d digest → out d ≡ [] → ⊥
    answered w boxes note v out d digest roused is empty = not_asked is
      where
        not_asked : wake ≡ asks d digest → ⊥
        not_asked e = cc
    answered w boxes note v out d digest (learns k told step) is empty = not_asked is
      where
        not_asked : answer k ≡ asks d digest → ⊥
        not_asked e = cc
    answered w boxes note v out d digest summoned is empty = not_asked is
      where
        not_asked : news ≡ asks d digest → ⊥
        not_asked e = cc
    answered w boxes note v out d digest (answers asker lacks set so) is empty =
        not_empty (answer (length w.sent)) (out asker) (telling_has asker (answer (length w.sent)) boxes) (ap out (same_asker is) ∙ empty)
      where
        same_asker : asks asker lacks ≡ asks d digest → asker ≡ d
        same_asker e = cc

    settled_take : IsTake p c new → Settled new
    settled_take take d stands waiting empty =
        let did = take_does laws limits p new good keeps c there take in
        let limits' = ap (λ (P : PlainKernel). P.limits) did.kernel in
        elim (stage_of laws limits p new good keeps c there begins take.stages d waits waiting) [
          | inl own ↦ absurd (begins_not_waits own.1)
          | inr o ↦ beside d limits' stands o.1 (empty_at (p.boxes d) (new.boxes d) (take_grows laws limits p new good keeps c there take d o.0) empty)
              (asked_on d limits' (λ e digest. still e digest (cases_eq e c)))
              (settled_same d w new.world did.kernel (did.others d o.0))
        ]
      where
        rest : List Note
        rest = take.before ++ take.behind

        still : (e : ℕ) (digest : Set) → (e ≡ c) ⊎ (e ≡ c → ⊥) → IsAmong (asks d digest) (p.boxes e) → IsAmong (asks d digest) (new.boxes e)
        still e digest (inr o) isin = take_grows laws limits p new good keeps c there take e o (asks d digest) isin
        still e digest (inl own) isin = elim (among_taken (asks d digest) take.note take.before take.behind (subst (IsAmong (asks d digest)) (ap p.boxes own ∙ take.in_box) isin)) [
          | inl this ↦ absurd (answered take.read (at p.boxes c rest) take.note new.world new.boxes d digest take.takes this empty)
          | inr other ↦ (take_does laws limits p new good keeps c there take).grows e (asks d digest) (subst (IsAmong (asks d digest)) (sym (ap (at p.boxes c rest) own ∙ at_same p.boxes c rest)) other)
        ]

    -- the act
    module _ (act : IsAct p c new) where
      abbrev x : PlainWorld
      x = act.acted

      calm : Calm c w new.world
      calm = act_calm laws limits p new good keeps c there act

      acted_calm : Calm c w x
      acted_calm = acts_calm laws w c act.n act.asking x act.acts

      slept_calm : Calm c x new.world
      slept_calm = sleep_calm c act.n x new.world act.told act.sleeps

      grows : Grows p.boxes new.boxes
      grows = act_grows laws limits p new good keeps c there act

      good_acted : IsGood limits x
      good_acted = reached_good laws limits x (reach_more limits w x reached (acts_lead w c act.n act.asking x act.acts))

      stands : is_cpu (shown x.kernel) c ≡ true
      stands = still_there laws limits p new good keeps c there act

      module _ (waiting : behind_sleep act.told ≡ waits) (empty : new.boxes c ≡ []) where
        count : act.n ≡ aseq x.kernel c
        count = (sleeps laws x c act.n act.told new.world stands act.sleeps waiting).count

        -- on one CPU alone the agent knows all, so no steal came late
        module _ (alone : (q : ℕ) → q < K.limits.cpus → q ≡ c) where
          nothing_unsent : unsent w c ≡ []
          nothing_unsent =
              let before : passed w c ≡ act.n = keeps.reading c act.n act.k [] act.has_read in
              let same : aseq x.kernel c ≡ aseq K c = ap (λ posts. length (filter_map (item_to c) posts)) acted_calm.posts in
              let n = count in
              drop_of_length-le (items_to K c) (omega arith)

          knows_all : (t n : ℕ) → IsInRun (kinds x.kernel) t n → has (x.agents c).known t n ≡ true
          knows_all t n told = ap (λ s. has s t n) (acted_calm.known c) ∙ elim (spreads c t n there (told.0, subst (λ ks. n ≤ length ks) (ap (λ posts. filter_map (λ (one : Post). kind_in t one.item) posts) acted_calm.posts) told.1)) [
            | inl k ↦ k
            | inr o ↦ elim o [
              | inl u ↦
                  let held = has_behind (K.eaten u.0) (w.agents u.0).sent_items (items_to K u.0) t n u.1 in
                  let cpu = queue_is_there laws limits w good u.0 t n held in
                  let own = alone u.0 (below_test u.0 K.limits.cpus cpu) in
                  absurd (false≢true (sym (ap (λ q. has (pairs_in (unsent w q)) t n) own ∙ ap (λ is. has (pairs_in is) t n) nothing_unsent) ∙ u.1))
              | inr s ↦ elim s.there [
                | inl put ↦
                    let cpu = putting.there put.sender put.n s.k put.left put.at_put in
                    absurd (putting.other put.sender put.n s.k c put.left put.at_put put.among (sym (alone put.sender (below_test put.sender K.limits.cpus cpu))))
                | inr mail ↦ let m = putting.mail c s.k mail in absurd (m.2 (alone m.0 (below_test m.0 K.limits.cpus m.1)))
              ]
            ]
          ]

          empty_queues : (q : ℕ) → is_cpu (shown x.kernel) q ≡ true → content x.kernel q ≡ []
          empty_queues q cpu =
              let own = alone q (below_test q K.limits.cpus (sym (ap (λ (l : Limits). nat_lt q l.cpus) acted_calm.limits) ∙ cpu)) in
              let is = (sleeps laws x c act.n act.told new.world stands act.sleeps waiting).is in
              ap (content x.kernel) own ∙ sym (ap (λ (v : PlainWorld). content v.kernel c) is) ∙ (falls_asleep laws limits p new good keeps c there act waiting).empty

          not_late : IsLate x c → ⊥
          not_late = never_late laws greatest limits x good_acted c stands knows_all empty_queues

        asks_others : act.asking ≡ true → IsLate x c → IsAsked new c ⊎ IsSettled new.world c
        asks_others asking late = elim (other_cpu c K.limits.cpus (below_test c K.limits.cpus there)) [
          | inl other ↦
              let digest = (x.agents c).known in
              let sent : new.boxes ≡ telling_others c (asks c digest) p.boxes = act.boxes ∙ ap (λ b. if b then telling_others c (asks c digest) p.boxes else p.boxes) asking in
              inl (
                other.0,
                digest,
                ap (λ (l : Limits). nat_lt other.0 l.cpus) calm.limits ∙ above_test other.0 K.limits.cpus other.1,
                subst (λ (b : ℕ → List Note). IsAmong (asks c digest) (b other.0)) (sym sent) (others_have c (asks c digest) p.boxes other.0 other.2),
              )
          | inr alone ↦ absurd (not_late alone late)
        ]

        own_act : IsAsked new c ⊎ IsSettled new.world c
        own_act = by_on (x.kernel.on c) refl
          where
            by_on : (o : Option ℕ) → x.kernel.on c ≡ o → IsAsked new c ⊎ IsSettled new.world c
            by_on (Some t) e = inr (inl (t, slept_calm.on c t e))
            by_on None e = elim (acts_settle laws greatest limits w good c act.n act.asking x act.acts stands count e) [
              | inl none ↦ inr (settled_calm laws c c x new.world slept_calm (inr none.1))
              | inr late ↦ asks_others late.0 late.1
            ]

      settled_act : Settled new
      settled_act d stands' waiting empty = elim (stage_of laws limits p new good keeps c there (behind_sleep act.told) act.stages d waits waiting) [
        | inl own ↦ subst (λ e. IsAsked new e ⊎ IsSettled new.world e) (sym own.0) (own_act own.1 (ap new.boxes (sym own.0) ∙ empty))
        | inr o ↦ beside d calm.limits stands' o.1 (empty_before p.boxes new.boxes grows d empty)
            (asked_on d calm.limits (λ e digest. grows e (asks d digest)))
            (settled_calm laws c d w new.world calm)
      ]

    settled_agent : IsLook p c new ⊎ (IsPut p c new ⊎ (IsAct p c new ⊎ IsTake p c new)) → Settled new
    settled_agent (inl look) = settled_look look
    settled_agent (inr (inl put)) = settled_put put
    settled_agent (inr (inr (inl act))) = settled_act act
    settled_agent (inr (inr (inr take))) = settled_take take

  settled_goes : Goes p new → Settled new
  settled_goes (inl called) = settled_env called (env_does p new called)
  settled_goes (inr (inl f)) = settled_forgotten f
  settled_goes (inr (inr of)) = settled_agent of.0 of.1.there of.1.step

settled_start : (rules : ℕ → Rules) (limits : Limits) → Settled (opening rules limits)
settled_start rules limits c there waiting empty = absurd (begins_not_waits waiting)

pub settled : KernelLaws → IsGreatest → (rules : ℕ → Rules) (limits : Limits) (p : Protocol) → Comes rules limits p → Settled p
settled laws greatest rules limits p starts = settled_start rules limits
settled laws greatest rules limits p (goes_on {p = old} comes goes) =
    settled_goes laws greatest limits old p (reaches laws rules limits old comes) (kept laws rules limits old comes) (spread laws rules limits old comes) (Putting.putting laws rules limits old comes) (settled laws greatest rules limits old comes) goes
