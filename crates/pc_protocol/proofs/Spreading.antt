-- Each message of the run is known to each agent, waits unsent in a queue, or is in news under way to the agent.
use Rattle.std.proofs.Common.{◌≡◌, ◌⊎◌, ◌+◌, ◌≤◌, ◌<◌, ◌==◌, ℕ, zero, suc, nat_lt, Bool, true, false, not, List, [], ◌∷◌, ◌++◌, length, drop, filter, Some, slice_get, unwrap_or, if◌then◌else◌, refl, sym, ◌∙◌, ap, subst, inl, inr, arith, length-append}
use Rattle.std.proofs.lemmas.Bool.Decides.{eqb_tells}
use Rattle.pc_calls.specs.declared.event.Event.TheVariants as event
use Rattle.pc_calls.specs.declared.event.Reply.{Reply}
use Rattle.pc_world.proofs.Mended.{below_test}
use Rattle.std.specs.List.{filter_map, cons_option, range_with_len}
use Rattle.std.proofs.lemmas.Bool.{cases_eq, cases_lt, false≢true}
use Rattle.std.proofs.lemmas.List.{append-nil, drop-append-le}
use Rattle.std.proofs.lemmas.List.Elements.{filter_map-append}
use Rattle.pc_messages.specs.declared.message.Item.{Item}
use Rattle.pc_messages.specs.declared.message.Item.TheVariants as item
use Rattle.pc_messages.specs.declared.message.Message.{Message}
use Rattle.pc_messages.specs.declared.kind.Kind.{Kind}
use Rattle.pc_messages.specs.declared.kind.Kind.TheVariants as kind
use Rattle.pc_messages.specs.Items.{pair_in, pairs_in}
use Rattle.pc_calls.specs.declared.call.Call.TheVariants as call
use Rattle.pc_calls.specs.declared.call.EnvCall.{EnvCall}
use Rattle.pc_calls.specs.declared.call.EnvCall.TheVariants as env
use Rattle.pc_calls.specs.declared.limits.Limits.{Limits}
use Rattle.pc_join.specs.Sets.{has}
use Rattle.pc_kernel.specs.PlainKernel.{PlainKernel, Post, aseq, content, items_to, item_to, kind_in, kinds, number, threads}
use Rattle.pc_kernel.specs.Reads.{shown, is_cpu}
use Rattle.pc_kernel.specs.Steps.{at, changed, posted, posting}
use Rattle.pc_kernel.proofs.Posting.{if_to, if_to_same, item_cases, items_to-posted, kinds-posted}
use Rattle.pc_agent.specs.PlainAgent.{PlainAgent, Set, taking_in}
use Rattle.pc_agent.specs.Publishing.{sent_after}
use Rattle.pc_policy.specs.Rules.{Rules}
use Rattle.pc_world.specs.Facts.{IsInRun}
use Rattle.pc_world.specs.PlainWorld.{PlainWorld, published}
use Rattle.pc_world.specs.Steps.{IsDelivered, Step}
use Rattle.pc_world.specs.Inner.Laws.{KernelLaws}
use Rattle.pc_world.proofs.Good.{IsGood, passed}
use Rattle.pc_world.proofs.Pairs.{has_first}
use Rattle.pc_world.proofs.Places.{at_other, at_same}
use Rattle.pc_world.proofs.Reaching.{reached_good}
use Rattle.pc_protocol.specs.Protocol.{Comes, Goes, IsAct, IsCalledByEnv, IsLook, IsPut, IsTake, Note, Protocol, Stage, TakesIn, begins, behind_sleep, cpus_of, goes_on, opening, others, puts, starts, tells_none}
use Rattle.pc_protocol.proofs.Among.{IsAmong, among_left, among_last, among_taken}
use Rattle.pc_protocol.proofs.Calm.{at_pair, has_behind}
use Rattle.pc_protocol.proofs.Reaching.{reaches}
use Rattle.pc_protocol.proofs.Sleeping.{IsKept, act_calm, kept, take_does}
use Rattle.pc_protocol.proofs.Stepping.{EnvDoes, IsPost, delivered, env_does, is_before, has_added, has_more, begins_not_puts, looks, same_index, same_left, sent_more, taken, taken_in, there_on, waits_not_puts}

-- the items of a queue that its agent has not sent
abbrev pub unsent : PlainWorld → ℕ → List Item
unsent w q = drop (passed w q) (items_to w.kernel q)

-- the message stands in some queue, unsent
abbrev pub IsUnsent : PlainWorld → ℕ → ℕ → Type 0
IsUnsent w t n = (q : ℕ) × (has (pairs_in (unsent w q)) t n ≡ true)

-- those that pass a test, of a range
passes_test : (test : ℕ → Bool) (d : ℕ) → test d ≡ true → (xs : List ℕ) → IsAmong d xs → IsAmong d (filter test xs)
passes_test test d ok [] h = absurd h
passes_test test d ok (x ∷ xs) (inl e) = rw (ap test e ∙ ok) (inl e)
passes_test test d ok (x ∷ xs) (inr h) = elim (test x) as (λ b. IsAmong d (if b then x ∷ filter test xs else filter test xs)) [
  | true ↦ inr (passes_test test d ok xs h)
  | false ↦ passes_test test d ok xs h
]

passed_test : (test : ℕ → Bool) (d : ℕ) (xs : List ℕ) → IsAmong d (filter test xs) → test d ≡ true
passed_test test d [] h = absurd h
passed_test test d (x ∷ xs) h = by_test (test x) refl (passed_test test d xs) h
  where
    by_test : (b : Bool) → test x ≡ b → (IsAmong d (filter test xs) → test d ≡ true) → IsAmong d (if b then x ∷ filter test xs else filter test xs) → test d ≡ true
    by_test true e later (inl same) = ap test (sym same) ∙ e
    by_test true e later (inr g) = later g
    by_test false e later g = later g

in_range : (d a n : ℕ) → a ≤ d → d < a + n → IsAmong d (range_with_len a n)
in_range d a zero low high = absurd (omega arith)
in_range d a (suc n) low high = elim (cases_eq a d) [
  | inl e ↦ inl e
  | inr o ↦ inr (in_range d (a + 1) n (omega arith) (omega arith))
]

not_same : (d c : ℕ) → (d ≡ c → ⊥) → not (d == c) ≡ true
not_same d c o = elim (eqb_tells d c) [
  | inl e ↦ absurd (o e.1)
  | inr e ↦ ap not e.0
]

pub others_all : (c cpus d : ℕ) → nat_lt d cpus ≡ true → (d ≡ c → ⊥) → IsAmong d (others c cpus)
others_all c cpus d low o = let below = below_test d cpus low in passes_test (λ d. not (d == c)) d (not_same d c o) (range_with_len 0 cpus) (in_range d 0 cpus (omega arith) (omega arith))

pub others_not : (c cpus d : ℕ) → IsAmong d (others c cpus) → d ≡ c → ⊥
others_not c cpus d h e =
    let test = passed_test (λ d. not (d == c)) d (range_with_len 0 cpus) h in
    elim (eqb_tells d c) [
      | inl same ↦ let bad : false ≡ true = sym (ap not same.0) ∙ test in false≢true bad
      | inr other ↦ other.1 e
    ]

-- what was sent with this index tells the message
abbrev pub Tells : List Set → ℕ → ℕ → ℕ → Type 0
Tells sent k t n = (set : Set) × (slice_get sent k ≡ Some set) × (has set t n ≡ true)

-- an agent has still to put what it sent with this index to the agent
pub record IsToBePut (p : Protocol) (c k : ℕ) : Type 0 where
  pub sender : ℕ
  pub n : ℕ
  pub left : List ℕ
  pub at_put : p.stages sender ≡ puts n k left
  pub among : IsAmong c left

-- it is told by what is to be put to the agent, or waits in its mailbox
pub record IsOnItsWay (p : Protocol) (c t n : ℕ) : Type 0 where
  pub k : ℕ
  pub tells : Tells p.world.sent k t n
  pub there : IsToBePut p c k ⊎ IsAmong k (p.mails c)

-- the agent knows it, or will
abbrev pub IsSpread : Protocol → ℕ → ℕ → ℕ → Type 0
IsSpread p c t n = (has (p.world.agents c).known t n ≡ true) ⊎ (IsUnsent p.world t n ⊎ IsOnItsWay p c t n)

abbrev pub Spread : Protocol → Type 0
Spread p = (c t n : ℕ) → nat_lt c (cpus_of p) ≡ true → IsInRun (kinds p.world.kernel) t n → IsSpread p c t n

-- notes and items
pub tells_more : (sent more : List Set) → ((k : ℕ) (set : Set) → slice_get sent k ≡ Some set → slice_get more k ≡ Some set) → (k t n : ℕ) → Tells sent k t n → Tells more k t n
tells_more sent more on k t n h = (h.0, on k h.0 h.1, h.2)

pub pairs_append : (xs ys : List Item) → pairs_in (xs ++ ys) ≡ pairs_in xs ++ pairs_in ys
pairs_append xs ys = filter_map-append pair_in xs ys

pub tells_some : (set : Set) (t n : ℕ) → has set t n ≡ true → tells_none set ≡ false
tells_some [] t n e = cc
tells_some (pair ∷ set) t n e = refl

pub get_last : (sets : List Set) (set : Set) → slice_get (sets ++ set ∷ []) (length sets) ≡ Some set
get_last [] set = refl
get_last (s ∷ sets) set = get_last sets set

-- where the run and what is unsent stay, and what is known, sent and under way only grows
spread_on : (p new : Protocol) → ((t : ℕ) → kinds new.world.kernel t ≡ kinds p.world.kernel t) → ((q : ℕ) → unsent new.world q ≡ unsent p.world q)
    → new.world.kernel.limits ≡ p.world.kernel.limits → (c t n : ℕ) → (has (p.world.agents c).known t n ≡ true → has (new.world.agents c).known t n ≡ true)
    → (IsOnItsWay p c t n → IsSpread new c t n) → Spread p → nat_lt c (cpus_of new) ≡ true → IsInRun (kinds new.world.kernel) t n → IsSpread new c t n
spread_on p new run items limits c t n known way h there told = elim (h c t n (sym (ap (λ (l : Limits). nat_lt c l.cpus) limits) ∙ there) (told.0, subst (λ ks. n ≤ length ks) (run t) told.1)) [
  | inl k ↦ inl (known k)
  | inr o ↦ elim o [
    | inl u ↦ inr (inl (u.0, ap (λ is. has (pairs_in is) t n) (items u.0) ∙ u.1))
    | inr s ↦ way s
  ]
]

-- a post
same_message : (m n : Message) → ◌≡◌ {A = Item} (item.Thread m) (item.Thread n) → m ≡ n
same_message m n e = cc

told_next : (P : PlainKernel) (t : ℕ) (kind : Kind) (m : Message) → ◌≡◌ {A = Item} (item.Thread record { thread = t; number = number P t + 1; kind = kind }) (item.Thread m) → m.number ≡ number P m.thread + 1
told_next P t kind m e =
    subst (λ (n : Message). n.number ≡ number P n.thread + 1) (same_message record { thread = t; number = number P t + 1; kind = kind } m e) refl

tick_next : (cpu : ℕ) (m : Message) (n : ℕ) → ◌≡◌ {A = Item} (item.Tick cpu) (item.Thread m) → m.number ≡ n
tick_next cpu m n e = cc

pub number_next : (P : PlainKernel) (made : EnvCall) (m : Message) → (posting P made).item ≡ item.Thread m → m.number ≡ number P m.thread + 1
number_next P (env.Create queue ready mask) m e = told_next P (threads P) (kind.Created ready mask) m e
number_next P (env.Wake t) m e = told_next P t kind.Wakeup m e
number_next P (env.Block cpu ran) m e = told_next P (unwrap_or (P.on cpu) 0) (kind.Blocked ran) m e
number_next P (env.YieldNow cpu ran) m e = told_next P (unwrap_or (P.on cpu) 0) (kind.Yield ran) m e
number_next P (env.Preempt cpu ran) m e = told_next P (unwrap_or (P.on cpu) 0) (kind.Preempted ran) m e
number_next P (env.Die cpu ran) m e = told_next P (unwrap_or (P.on cpu) 0) (kind.Dead ran) m e
number_next P (env.SetAffinity t mask) m e = told_next P t (kind.Affinity mask) m e
number_next P (env.SetPriority t level) m e = told_next P t (kind.Priority level) m e
number_next P (env.Tick cpu) m e = tick_next cpu m (number P m.thread + 1) e

-- the kinds, with those of a post
pub kinds_after : (P : PlainKernel) (made : EnvCall) (t : ℕ) → kinds (changed P (call.Env made)) t ≡ kinds P t ++ cons_option (kind_in t (posting P made).item) []
kinds_after P made t =
    let post = posting P made in
    kinds-posted post.before post.queue post.item t ∙ ap (λ posts. filter_map (λ (one : Post). kind_in t one.item) posts ++ cons_option (kind_in t post.item) []) (is_before P made).posts

pub items_after : (P : PlainKernel) (made : EnvCall) (q : ℕ) → items_to (changed P (call.Env made)) q ≡ items_to P q ++ if_to (posting P made).queue q (posting P made).item
items_after P made q =
    let post = posting P made in
    items_to-posted post.before post.queue post.item q ∙ ap (λ posts. filter_map (item_to q) posts ++ if_to post.queue q post.item) (is_before P made).posts

-- a message of the run behind a post was there before, or is the item that was posted
pub run_post : (P : PlainKernel) (made : EnvCall) (t n : ℕ) → IsInRun (kinds (changed P (call.Env made))) t n → IsInRun (kinds P) t n ⊎ (has (pairs_in ((posting P made).item ∷ [])) t n ≡ true)
run_post P made t n told = elim (item_cases t (posting P made).item) [
  | inl quiet ↦
      let same : kinds (changed P (call.Env made)) t ≡ kinds P t =
      kinds_after P made t ∙ ap (λ o. kinds P t ++ cons_option o []) quiet.kind ∙ append-nil (kinds P t) in
      inl (told.0, subst (λ ks. n ≤ length ks) same told.1)
  | inr tells ↦
      let m = tells.0 in
      let more : kinds (changed P (call.Env made)) t ≡ kinds P t ++ m.kind ∷ [] =
      kinds_after P made t ∙ ap (λ o. kinds P t ++ cons_option o []) tells.1.kind in
      let size : length (kinds (changed P (call.Env made)) t) ≡ length (kinds P t) + 1 = ap length more ∙ length-append (kinds P t) (m.kind ∷ []) in
      let low = told.0 in
      let high = told.1 in
      let next : m.number ≡ number P t + 1 = number_next P made m tells.1.is ∙ ap (λ s. number P s + 1) tells.1.thread in
      elim (cases_lt (length (kinds P t)) n) [
        | inl above ↦
            let last : m.number ≡ n = omega arith in
            inr (ap (λ (it : Item). has (pairs_in (it ∷ [])) t n) tells.1.is ∙ at_pair (λ a b. has ((m.thread, m.number) ∷ []) a b ≡ true) m t n tells.1.thread last (has_first m.thread m.number []))
        | inr below ↦ inl (low, omega arith)
      ]
]

pub put_same : (p new : Protocol) → new.stages ≡ p.stages → (c k : ℕ) → IsToBePut p c k → IsToBePut new c k
put_same p new stages c k put = record { sender = put.sender; n = put.n; left = put.left; at_put = ap (λ (f : ℕ → Stage). f put.sender) stages ∙ put.at_put; among = put.among }

-- where stages, mailboxes and what was sent stay
pub way_same : (p new : Protocol) → new.stages ≡ p.stages → new.mails ≡ p.mails → new.world.sent ≡ p.world.sent → (c t n : ℕ) → IsOnItsWay p c t n → IsOnItsWay new c t n
way_same p new stages mails sent c t n s = record {
  k = s.k;
  tells = subst (λ sent. Tells sent s.k t n) (sym sent) s.tells;
  there = elim s.there [
    | inl put ↦ inl (put_same p new stages c s.k put)
    | inr mail ↦ inr (subst (λ (m : ℕ → List ℕ). IsAmong s.k (m c)) (sym mails) mail)
  ];
}

-- the stage of one agent is another one: what was to be put by it is in what is left, or is no more
pub put_stays : (p new : Protocol) (c n k : ℕ) (left : List ℕ) (s : Stage) → p.stages c ≡ puts n k left → new.stages ≡ at p.stages c s
    → (d j : ℕ) → (k ≡ j → IsAmong d left → IsToBePut new d j) → IsToBePut p d j → IsToBePut new d j
put_stays p new c n k left s was stages d j onward put = elim (cases_eq put.sender c) [
  | inl own ↦
      let same : puts n k left ≡ puts put.n j put.left = sym was ∙ ap p.stages (sym own) ∙ put.at_put in
      onward (same_index n put.n k j left put.left same) (subst (IsAmong d) (sym (same_left n put.n k j left put.left same)) put.among)
  | inr o ↦ record {
    sender = put.sender;
    n = put.n;
    left = put.left;
    at_put = ap (λ (f : ℕ → Stage). f put.sender) stages ∙ at_other p.stages c put.sender s o ∙ put.at_put;
    among = put.among;
  }
]

pub mail_grows : (p new : Protocol) (c : ℕ) (put : IsPut p c new) (d j : ℕ) → IsAmong j (p.mails d) → IsAmong j (new.mails d)
mail_grows p new c put d j mail = subst (λ (m : ℕ → List ℕ). IsAmong j (m d)) (sym put.mails) (elim (eqb_tells d put.to) [
  | inl e ↦ rw e.0 (among_left j (p.mails put.to) (put.k ∷ []) (subst (λ m. IsAmong j (p.mails m)) e.1 mail))
  | inr e ↦ rw e.0 mail
])

-- what was to be put still is, or is what was put now
pub put_now_or_there : (p new : Protocol) (c : ℕ) (put : IsPut p c new) (d j : ℕ) → IsToBePut p d j → IsToBePut new d j ⊎ ((put.to ≡ d) × (put.k ≡ j))
put_now_or_there p new c put d j was = elim (cases_eq was.sender c) [
  | inl own ↦
      let left = put.before ++ put.to ∷ put.behind in
      let rest = put.before ++ put.behind in
      let same : puts put.n put.k left ≡ puts was.n j was.left = sym put.at_put ∙ ap p.stages (sym own) ∙ was.at_put in
      let index : put.k ≡ j = same_index put.n was.n put.k j left was.left same in
      elim (among_taken d put.to put.before put.behind (subst (IsAmong d) (sym (same_left put.n was.n put.k j left was.left same)) was.among)) [
        | inl this ↦ inr (this, index)
        | inr other ↦ inl record {
          sender = c;
          n = put.n;
          left = rest;
          at_put = ap (λ (f : ℕ → Stage). f c) put.stages ∙ at_same p.stages c (puts put.n put.k rest) ∙ ap (λ i. puts put.n i rest) index;
          among = other;
        }
      ]
  | inr o ↦ inl record {
    sender = was.sender;
    n = was.n;
    left = was.left;
    at_put = ap (λ (f : ℕ → Stage). f was.sender) put.stages ∙ at_other p.stages c was.sender (puts put.n put.k (put.before ++ put.behind)) o ∙ was.at_put;
    among = was.among;
  }
]

-- and that lies in the mailbox
put_or_there : (p new : Protocol) (c : ℕ) (put : IsPut p c new) (d j : ℕ) → IsToBePut p d j → IsToBePut new d j ⊎ IsAmong j (new.mails d)
put_or_there p new c put d j was = elim (put_now_or_there p new c put d j was) [
  | inl still ↦ inl still
  | inr now ↦
      let more = p.mails put.to ++ put.k ∷ [] in
      inr (subst (λ (m : ℕ → List ℕ). IsAmong j (m d)) (sym put.mails) (subst (λ e. IsAmong j (at p.mails put.to more e)) now.0 (subst (IsAmong j) (sym (at_same p.mails put.to more)) (subst (λ i. IsAmong i more) now.1 (among_last put.k (p.mails put.to))))))
]

-- the stage of an agent that has nothing to put is another one
pub put_beside : (p new : Protocol) (c : ℕ) (s : Stage) → new.stages ≡ at p.stages c s → ((n k : ℕ) (l : List ℕ) → p.stages c ≡ puts n k l → ⊥) → (d j : ℕ) → IsToBePut p d j → IsToBePut new d j
put_beside p new c s stages none d j put = record {
  sender = put.sender;
  n = put.n;
  left = put.left;
  at_put = ap (λ (f : ℕ → Stage). f put.sender) stages ∙ at_other p.stages c put.sender s (λ own. none put.n j put.left (ap p.stages (sym own) ∙ put.at_put)) ∙ put.at_put;
  among = put.among;
}

pub look_puts : (p new : Protocol) (c : ℕ) → IsLook p c new → (d j : ℕ) → IsToBePut p d j → IsToBePut new d j
look_puts p new c look = put_beside p new c _ look.stages (λ n k l e. begins_not_puts n k l (sym look.at_begin ∙ e))

pub take_puts : (p new : Protocol) (c : ℕ) → IsTake p c new → (d j : ℕ) → IsToBePut p d j → IsToBePut new d j
take_puts p new c take = put_beside p new c begins take.stages (λ n k l e. waits_not_puts n k l (sym take.waiting ∙ e))

look_stays : (p new : Protocol) (c : ℕ) (look : IsLook p c new) (d j : ℕ) → IsToBePut p d j ⊎ IsAmong j (p.mails d) → IsToBePut new d j ⊎ IsAmong j (new.mails d)
look_stays p new c look d j (inr mail) = inr (subst (λ (m : ℕ → List ℕ). IsAmong j (m d)) (sym look.mails) mail)
look_stays p new c look d j (inl put) = inl (look_puts p new c look d j put)

-- all that waited in a mailbox is known
delivered_known : (w : PlainWorld) (c k : ℕ) (told : Reply) (v : PlainWorld) → is_cpu (shown w.kernel) c ≡ true → Step w (event.Deliver c k) told v → (t n : ℕ) → Tells w.sent k t n → has (v.agents c).known t n ≡ true
delivered_known w c k told v there step t n tells =
    let did = subst (λ o. IsDelivered w c o told v) tells.1 (delivered w c k told v there step) in
    ap (λ (x : PlainWorld). has (x.agents c).known t n) did.1
    ∙ ap (λ (a : PlainAgent). has a.known t n) (at_same w.agents c (taking_in tells.0 (w.agents c)))
    ∙ has_added (w.agents c).known tells.0 t n tells.2

no_boxes : ℕ → List Note
no_boxes c = []

pub reads_known : (w : PlainWorld) (c : ℕ) (ks : List ℕ) (v : PlainWorld) → is_cpu (shown w.kernel) c ≡ true → TakesIn c w ks v → (k t n : ℕ) → IsAmong k ks → Tells w.sent k t n → has (v.agents c).known t n ≡ true
reads_known w c [] v there h k t n among tells = absurd among
reads_known w c (j ∷ ks) v there h k t n among tells =
    let first = taken_in w c no_boxes (j ∷ []) h.0 there (h.0, h.1, h.2, refl) in
    let there_v = there_on w h.0 c first.kernel there in
    elim among [
      | inl this ↦ (taken_in h.0 c no_boxes ks v there_v h.3).known c t n (delivered_known w c j h.1 h.0 there h.2 t n (subst (λ i. Tells w.sent i t n) (sym this) tells))
      | inr later ↦ reads_known h.0 c ks v there_v h.3 k t n later (tells_more w.sent h.0.sent first.sent k t n tells)
    ]

pub takes_learn : (p new : Protocol) (c : ℕ) → is_cpu (shown p.world.kernel) c ≡ true → (take : IsTake p c new) → (k t n : ℕ) → IsAmong k (p.mails c) → Tells p.world.sent k t n → has (new.world.agents c).known t n ≡ true
takes_learn p new c there take k t n among tells =
    let rest = at p.boxes c (take.before ++ take.behind) in
    let reads = taken_in p.world c rest (p.mails c) take.read there take.reads in
    (taken take.read c rest take.note new.world new.boxes (there_on p.world take.read c reads.kernel there) take.takes).known c t n
    (reads_known p.world c (p.mails c) take.read there take.reads k t n among tells)

-- what is unsent behind a post
module _ (limits : Limits) (p new : Protocol) (good : IsGood limits p.world) (made : EnvCall) (post : IsPost p made new) where
  abbrev before : PlainWorld
  before = p.world

  abbrev q : ℕ
  q = (posting before.kernel made).queue

  abbrev it : Item
  it = (posting before.kernel made).item

  grown : (d : ℕ) → unsent new.world d ≡ unsent before d ++ if_to q d it
  grown d =
      ap (λ (v : PlainWorld). unsent v d) post.world
      ∙ ap (λ (f : ℕ → ℕ). drop (f d + (before.agents d).sent_items) (items_to (changed before.kernel (call.Env made)) d)) (is_before before.kernel made).eaten
      ∙ ap (drop (passed before d)) (items_after before.kernel made d)
      ∙ drop-append-le (passed before d) (items_to before.kernel d) (if_to q d it) (good.few d)

  pub unsent_more : (t n : ℕ) → IsUnsent before t n → IsUnsent new.world t n
  unsent_more t n u = (u.0, ap (λ is. has (pairs_in is) t n) (grown u.0) ∙ ap (λ s. has s t n) (pairs_append (unsent before u.0) (if_to q u.0 it)) ∙ has_more (pairs_in (unsent before u.0)) (pairs_in (if_to q u.0 it)) t n u.1)

  pub unsent_posted : (t n : ℕ) → has (pairs_in (it ∷ [])) t n ≡ true → IsUnsent new.world t n
  unsent_posted t n posted =
      (q, ap (λ is. has (pairs_in is) t n) (grown q ∙ ap (λ is. unsent before q ++ is) (if_to_same q it)) ∙ ap (λ s. has s t n) (pairs_append (unsent before q) (it ∷ [])) ∙ has_added (pairs_in (unsent before q)) (pairs_in (it ∷ [])) t n posted)

module _ (laws : KernelLaws) (limits : Limits) (p new : Protocol) (good : IsGood limits p.world) (h : Spread p) where
  abbrev w : PlainWorld
  w = p.world

  spread_post : (made : EnvCall) → new.stages ≡ p.stages → new.mails ≡ p.mails → IsPost p made new → Spread new
  spread_post made stages mails post c t n there told =
      elim (run_post w.kernel made t n (subst (λ (v : PlainWorld). IsInRun (kinds v.kernel) t n) post.world told)) [
        | inl before ↦ elim (h c t n (sym (ap (λ (v : PlainWorld). nat_lt c v.kernel.limits.cpus) post.world ∙ ap (λ (l : Limits). nat_lt c l.cpus) (is_before w.kernel made).limits) ∙ there) before) [
          | inl k ↦ inl (ap (λ (v : PlainWorld). has (v.agents c).known t n) post.world ∙ k)
          | inr o ↦ elim o [
            | inl u ↦ inr (inl (unsent_more limits p new good made post t n u))
            | inr s ↦ inr (inr (way_same p new stages mails (ap (λ (v : PlainWorld). v.sent) post.world) c t n s))
          ]
        ]
        | inr posted ↦ inr (inl (unsent_posted limits p new good made post t n posted))
      ]

  spread_same : new.world ≡ w → new.stages ≡ p.stages → new.mails ≡ p.mails → Spread new
  spread_same same stages mails c t n there told =
      spread_on p new (λ s. ap (λ (v : PlainWorld). kinds v.kernel s) same) (λ q. ap (λ (v : PlainWorld). unsent v q) same) (ap (λ (v : PlainWorld). v.kernel.limits) same) c t n (λ k. ap (λ (v : PlainWorld). has (v.agents c).known t n) same ∙ k)
      (λ s. inr (inr (way_same p new stages mails (ap (λ (v : PlainWorld). v.sent) same) c t n s))) h there told

  spread_env : (called : IsCalledByEnv p new) → EnvDoes p called.call new → Spread new
  spread_env called (inl same) c t n there told = spread_same same.0 called.stages called.mails c t n there told
  spread_env called (inr post) c t n there told = spread_post called.call called.stages called.mails post c t n there told

  module _ (c : ℕ) (there : is_cpu (shown w.kernel) c ≡ true) where
    -- the act
    spread_act : (kept : IsKept p) → IsAct p c new → Spread new
    spread_act kept act d t n low told =
        let calm = act_calm laws limits p new good kept c there act in
        spread_on p new (λ s. ap (λ posts. filter_map (λ (one : Post). kind_in s one.item) posts) calm.posts)
        (λ q. ap (λ k. drop k (items_to new.world.kernel q)) (calm.passes q) ∙ ap (λ posts. drop (passed w q) (filter_map (item_to q) posts)) calm.posts)
        calm.limits d t n (λ k. ap (λ s. has s t n) (calm.known d) ∙ k)
        (λ s. inr (inr record {
          k = s.k;
          tells = subst (λ sent. Tells sent s.k t n) (sym calm.sent) s.tells;
          there = elim s.there [
            | inl put ↦ inl (put_stays p new c act.n act.k [] (behind_sleep act.told) act.has_read act.stages d s.k (λ same among. absurd among) put)
            | inr mail ↦ inr (subst (λ (m : ℕ → List ℕ). IsAmong s.k (m d)) (sym act.mails) mail)
          ];
        })) h low told

    -- the put
    spread_put : IsPut p c new → Spread new
    spread_put put d t n low told =
        spread_on p new (λ s. ap (λ (v : PlainWorld). kinds v.kernel s) put.world) (λ q. ap (λ (v : PlainWorld). unsent v q) put.world) (ap (λ (v : PlainWorld). v.kernel.limits) put.world) d t n (λ k. ap (λ (v : PlainWorld). has (v.agents d).known t n) put.world ∙ k)
        (λ s. inr (inr record {
          k = s.k;
          tells = subst (λ (v : PlainWorld). Tells v.sent s.k t n) (sym put.world) s.tells;
          there = elim s.there [
            | inl still ↦ put_or_there p new c put d s.k still
            | inr mail ↦ inr (mail_grows p new c put d s.k mail)
          ];
        })) h low told

    -- a note
    spread_take : (kept : IsKept p) → IsTake p c new → Spread new
    spread_take kept take d t n low told =
        let did = take_does laws limits p new good kept c there take in
        spread_on p new (λ s. ap (λ (P : PlainKernel). kinds P s) did.kernel)
        (λ q. ap (λ (P : PlainKernel). drop (P.eaten q + (new.world.agents q).sent_items) (items_to P q)) did.kernel ∙ ap (λ k. drop (w.kernel.eaten q + k) (items_to w.kernel q)) (did.items q))
        (ap (λ (P : PlainKernel). P.limits) did.kernel) d t n (did.known d t n) (way d (cases_eq d c)) h low told
      where
        goes : (e : ℕ) (s : IsOnItsWay p e t n) → (IsToBePut p e s.k ⊎ IsAmong s.k (new.mails e)) → IsSpread new e t n
        goes e s still = inr (inr record {
          k = s.k;
          tells = tells_more w.sent new.world.sent (take_does laws limits p new good kept c there take).sent s.k t n s.tells;
          there = elim still [
            | inl put ↦ inl (take_puts p new c take e s.k put)
            | inr mail ↦ inr mail
          ];
        })

        way : (e : ℕ) → (e ≡ c) ⊎ (e ≡ c → ⊥) → IsOnItsWay p e t n → IsSpread new e t n
        way e own s = elim s.there [
          | inl put ↦ goes e s (inl put)
          | inr mail ↦ elim own [
            | inr o ↦ goes e s (inr (subst (IsAmong s.k) (sym (ap (λ (m : ℕ → List ℕ). m e) take.mails ∙ at_other p.mails c e [] o)) mail))
            | inl same ↦ inl (ap (λ m. has (new.world.agents m).known t n) same ∙ takes_learn p new c there take s.k t n (subst (λ m. IsAmong s.k (p.mails m)) same mail) s.tells)
          ]
        ]

    -- the look
    module _ (kept : IsKept p) (look : IsLook p c new) where
      abbrev v : PlainWorld
      v = published w c

      abbrev items : List Item
      items = content w.kernel c

      abbrev a : PlainAgent
      a = sent_after (kinds w.kernel) c items (w.agents c)

      is : new.world ≡ v
      is = looks w c look.told new.world there look.step

      known_by_own : (t n : ℕ) → has ((w.agents c).known ++ pairs_in items) t n ≡ true → (d : ℕ) → d ≡ c → has (new.world.agents d).known t n ≡ true
      known_by_own t n k d own =
          ap (λ (x : PlainWorld). has (x.agents d).known t n) is ∙ ap (λ m. has (v.agents m).known t n) own ∙ ap (λ (x : PlainAgent). has x.known t n) (at_same w.agents c a) ∙ k

      pub known_more : (d t n : ℕ) → has (w.agents d).known t n ≡ true → has (new.world.agents d).known t n ≡ true
      known_more d t n k = elim (cases_eq d c) [
        | inl own ↦ known_by_own t n (has_more (w.agents c).known (pairs_in items) t n (ap (λ m. has (w.agents m).known t n) (sym own) ∙ k)) d own
        | inr o ↦ ap (λ (x : PlainWorld). has (x.agents d).known t n) is ∙ ap (λ (x : PlainAgent). has x.known t n) (at_other w.agents c d a o) ∙ k
      ]

      kinds_same : (s : ℕ) → kinds new.world.kernel s ≡ kinds w.kernel s
      kinds_same s = ap (λ (x : PlainWorld). kinds x.kernel s) is

      unsent_other : (q : ℕ) → (q ≡ c → ⊥) → unsent new.world q ≡ unsent w q
      unsent_other q o = ap (λ (x : PlainWorld). unsent x q) is ∙ ap (λ (x : PlainAgent). drop (w.kernel.eaten q + x.sent_items) (items_to w.kernel q)) (at_other w.agents c q a o)

      -- what was unsent goes out
      goes_out : (d t n : ℕ) → nat_lt d w.kernel.limits.cpus ≡ true → has (pairs_in items) t n ≡ true → IsSpread new d t n
      goes_out d t n low told = elim (cases_eq d c) [
        | inl own ↦ inl (known_by_own t n (has_added (w.agents c).known (pairs_in items) t n told) d own)
        | inr o ↦ inr (inr record {
          k = length w.sent;
          tells = (pairs_in items, ap (λ (x : PlainWorld). slice_get x.sent (length w.sent)) is ∙ get_last w.sent (pairs_in items), told);
          there = inl record {
            sender = c;
            n = aseq w.kernel c;
            left = others c w.kernel.limits.cpus;
            at_put = ap (λ (f : ℕ → Stage). f c) look.stages
                ∙ at_same p.stages c (puts (aseq w.kernel c) (length w.sent) (if tells_none (pairs_in items) then [] else others c w.kernel.limits.cpus))
                ∙ ap (λ b. puts (aseq w.kernel c) (length w.sent) (if b then [] else others c w.kernel.limits.cpus)) (tells_some (pairs_in items) t n told);
            among = others_all c w.kernel.limits.cpus d low o;
          };
        })
      ]

      spread_look : Spread new
      spread_look d t n there_d told =
          let low : nat_lt d w.kernel.limits.cpus ≡ true = sym (ap (λ (x : PlainWorld). nat_lt d x.kernel.limits.cpus) is) ∙ there_d in
          elim (h d t n low (told.0, subst (λ ks. n ≤ length ks) (kinds_same t) told.1)) [
            | inl k ↦ inl (known_more d t n k)
            | inr o ↦ elim o [
              | inl u ↦ elim (cases_eq u.0 c) [
                | inl own ↦ goes_out d t n low (has_behind (w.kernel.eaten c) (w.agents c).sent_items (items_to w.kernel c) t n (ap (λ q. has (pairs_in (unsent w q)) t n) (sym own) ∙ u.1))
                | inr other ↦ inr (inl (u.0, ap (λ is. has (pairs_in is) t n) (unsent_other u.0 other) ∙ u.1))
              ]
              | inr s ↦ inr (inr record {
                k = s.k;
                tells = subst (λ (x : PlainWorld). Tells x.sent s.k t n) (sym is) (tells_more w.sent v.sent (sent_more w.sent (pairs_in items ∷ [])) s.k t n s.tells);
                there = look_stays p new c look d s.k s.there;
              })
            ]
          ]

    spread_agent : IsKept p → IsLook p c new ⊎ (IsPut p c new ⊎ (IsAct p c new ⊎ IsTake p c new)) → Spread new
    spread_agent kept (inl look) = spread_look kept look
    spread_agent kept (inr (inl put)) = spread_put put
    spread_agent kept (inr (inr (inl act))) = spread_act kept act
    spread_agent kept (inr (inr (inr take))) = spread_take kept take

  spread_goes : IsKept p → Goes p new → Spread new
  spread_goes keeps (inl called) = spread_env called (env_does p new called)
  spread_goes keeps (inr (inl f)) = spread_same f.world f.stages f.mails
  spread_goes keeps (inr (inr of)) = spread_agent of.0 of.1.there keeps of.1.step

spread_start : (rules : ℕ → Rules) (limits : Limits) → Spread (opening rules limits)
spread_start rules limits c t n there told = let low = told.0 in let high = told.1 in absurd (omega arith)

pub spread : KernelLaws → (rules : ℕ → Rules) (limits : Limits) (p : Protocol) → Comes rules limits p → Spread p
spread laws rules limits p starts = spread_start rules limits
spread laws rules limits p (goes_on {p = old} comes goes) =
    spread_goes laws limits old p (reached_good laws limits old.world (reaches laws rules limits old comes)) (spread laws rules limits old comes) (kept laws rules limits old comes) goes
