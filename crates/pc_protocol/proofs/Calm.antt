-- What an agent does in its turn, behind its look, leaves most as it was.
use Rattle.std.specs.List.{filter_map, cons_option}
use Rattle.std.specs.List.{list_any}
use Rattle.std.proofs.Common.{◌≡◌, ◌⊎◌, ◌==◌, ◌||◌, if◌then◌else◌, nat_lt, slice_get, length, drop, ℕ, ◌+◌, Bool, true, false, List, [], ◌∷◌, ◌++◌, Option, Some, None, MatchBool, is_some, refl, sym, ◌∙◌, ap, subst, inl, inr, arith}
use Rattle.std.proofs.lemmas.Bool.{cases_eq}
use Rattle.pc_calls.specs.AgentCalls.{commits}
use Rattle.pc_calls.specs.declared.call.AgentCall.TheVariants.{Sleep}
use Rattle.pc_calls.specs.declared.call.Answer.TheVariants.{Done}
use Rattle.pc_calls.specs.declared.call.Call.TheVariants as call
use Rattle.pc_calls.specs.declared.event.Event.TheVariants as event
use Rattle.pc_calls.specs.declared.event.Reply.{Reply}
use Rattle.pc_calls.specs.declared.event.Reply.TheVariants as reply
use Rattle.pc_calls.specs.declared.refusal.Refusal.{Refusal}
use Rattle.pc_calls.specs.declared.refusal.Refusal.TheVariants as refusal
use Rattle.pc_messages.specs.Items.{is_of}
use Rattle.pc_messages.specs.Items.{message_in, pairs_in}
use Rattle.pc_messages.specs.declared.message.Item.{Item}
use Rattle.pc_messages.specs.declared.message.Item.TheVariants as item
use Rattle.pc_messages.specs.declared.message.Message.{Message}
use Rattle.pc_calls.specs.declared.limits.Limits.{Limits}
use Rattle.std.proofs.lemmas.Bool.Decides.{eqb_tells}
use Rattle.pc_kernel.specs.Reads.{is_pending}
use Rattle.pc_kernel.specs.Reads as reads
use Rattle.pc_agent.specs.PlainAgent.{is_idle, is_wanted, may_take}
use Rattle.pc_world.proofs.Exactly.{home_read}
use Rattle.pc_world.proofs.Pairs.{get_dropped, has_cons, stands_at, told_at}
use Rattle.pc_world.proofs.Taken.{at_some, both}
use Rattle.pc_join.specs.Sets.{has}
use Rattle.pc_view.specs.Prefixes.{reports, upto}
use Rattle.pc_run_queue.specs.Runs.{may_run}
use Rattle.pc_kernel.specs.PlainKernel.{PlainKernel, Post, content, is_known, items_to, item_to, kind_in, kinds, number}
use Rattle.pc_kernel.specs.Reads.{shown, is_cpu, on}
use Rattle.pc_kernel.specs.Steps as kernel
use Rattle.pc_kernel.specs.Steps.{after_of, at, changed, refused, reply_of}
use Rattle.pc_agent.specs.PlainAgent.{PlainAgent, pick_refused, ready_list}
use Rattle.pc_agent.specs.Running.{FindsFirst, left_by, takes_over}
use Rattle.pc_world.specs.PlainWorld.{PlainWorld, with_agent}
use Rattle.pc_world.specs.Steps.{IsBadCpu, IsCommitted, IsConsumed, IsPicked, IsStolen, IsTakenOver, IsTried, Step, stealable}
use Rattle.pc_world.specs.Inner.Laws.{KernelLaws}
use Rattle.pc_world.proofs.Good.{passed}
use Rattle.pc_world.proofs.Places.{at_other, at_same}
use Rattle.pc_protocol.specs.Protocol.{Acts, picked, stole}
use Rattle.pc_protocol.specs.Protocol.{refused as steal_refused}

-- a queue that holds a message is that of a CPU
pub waits_there : (items : List Item) (t n : ℕ) → has (pairs_in items) t n ≡ true → filter_map (message_in t) items ≡ [] → ⊥
waits_there [] t n told none = cc
waits_there (item.Tick cpu ∷ items) t n told none = waits_there items t n told none
waits_there (item.Thread m ∷ items) t n told none = elim (eqb_tells m.thread t) [
  | inl same ↦
      let some : m ∷ filter_map (message_in t) items ≡ [] = sym (ap (λ b. cons_option (if b then Some m else None) (filter_map (message_in t) items)) same.0) ∙ none in
      cc
  | inr other ↦
      let rest : filter_map (message_in t) items ≡ [] = sym (ap (λ b. cons_option (if b then Some m else None) (filter_map (message_in t) items)) other.0) ∙ none in
      elim (has_cons (m.thread, m.number) (pairs_in items) t n told) [
        | inl this ↦ absurd (other.1 this.0)
        | inr later ↦ waits_there items t n later rest
      ]
]

pub at_pair : (F : ℕ → ℕ → Type 0) (m : Message) (t n : ℕ) → m.thread ≡ t → m.number ≡ n → F m.thread m.number → F t n
at_pair F m t n thread number here = subst (F t) number (subst (λ s. F s m.number) thread here)

-- what stands behind the first so many stands behind fewer
pub has_behind : (a b : ℕ) (items : List Item) (t n : ℕ) → has (pairs_in (drop (a + b) items)) t n ≡ true → has (pairs_in (drop a items)) t n ≡ true
has_behind a b items t n e =
    let s = stands_at (drop (a + b) items) t n e in
    let same : (a + b) + s.place ≡ a + (b + s.place) = omega arith in
    let there : slice_get (drop a items) (b + s.place) ≡ Some (item.Thread s.message) =
    get_dropped a items (b + s.place) ∙ ap (slice_get items) (sym same) ∙ sym (get_dropped (a + b) items s.place) ∙ s.there in
    at_pair (λ t n. has (pairs_in (drop a items)) t n ≡ true) s.message t n s.thread s.number (told_at (drop a items) (b + s.place) s.message there)

-- the agent knows all of the thread, which by that may run on its CPU, and no message of it stands unsent, or in another queue
pub record Took (c : ℕ) (w : PlainWorld) (t : ℕ) : Type 0 where
  pub whole : upto (w.agents c).known t ≡ number w.kernel t
  pub runs : may_run (reports (kinds w.kernel) (w.agents c).known t) c ≡ true
  pub elsewhere : is_cpu (shown w.kernel) (w.kernel.home t) ≡ true → (w.kernel.home t ≡ c → ⊥) → (n : ℕ) → has (pairs_in (content w.kernel (w.kernel.home t))) t n ≡ true → ⊥
  pub unsent : is_cpu (shown w.kernel) (w.kernel.home t) ≡ true → (n : ℕ) → has (pairs_in (drop (passed w (w.kernel.home t)) (items_to w.kernel (w.kernel.home t)))) t n ≡ true → ⊥

-- no post, nothing sent or learnt; who ran runs; and of another CPU nothing of its queue or its sleep
pub record Calm (c : ℕ) (w new : PlainWorld) : Type 0 where
  pub posts : new.kernel.posts ≡ w.kernel.posts
  pub limits : new.kernel.limits ≡ w.kernel.limits
  pub target : new.kernel.target ≡ w.kernel.target
  pub sent : new.sent ≡ w.sent
  pub known : (d : ℕ) → (new.agents d).known ≡ (w.agents d).known
  pub rules : (d : ℕ) → (new.agents d).rules ≡ (w.agents d).rules
  pub passes : (d : ℕ) → passed new d ≡ passed w d
  pub spent : (w.agents c).sent_items ≡ 0 → (new.agents c).sent_items ≡ 0
  pub on : (d t : ℕ) → w.kernel.on d ≡ Some t → new.kernel.on d ≡ Some t
  pub on_others : (d : ℕ) → (d ≡ c → ⊥) → new.kernel.on d ≡ w.kernel.on d
  pub home : (t : ℕ) → (new.kernel.home t ≡ w.kernel.home t) ⊎ ((new.kernel.home t ≡ c) × Took c w t)
  pub eaten : (d : ℕ) → (d ≡ c → ⊥) → new.kernel.eaten d ≡ w.kernel.eaten d
  pub slept : (d : ℕ) → (d ≡ c → ⊥) → new.kernel.slept d ≡ w.kernel.slept d

itself : (c : ℕ) (w : PlainWorld) → Calm c w w
itself c w = record {
  posts = refl;
  limits = refl;
  target = refl;
  sent = refl;
  known = λ d. refl;
  rules = λ d. refl;
  passes = λ d. refl;
  spent = λ e. e;
  on = λ d t e. e;
  on_others = λ d o. refl;
  home = λ t. inl refl;
  eaten = λ d o. refl;
  slept = λ d o. refl;
}

pub calm_same : (c : ℕ) (w new : PlainWorld) → new ≡ w → Calm c w new
calm_same c w new e = subst (Calm c w) (sym e) (itself c w)

pub calm_on : (c : ℕ) (w v u : PlainWorld) → Calm c w v → Calm c v u → Calm c w u
calm_on c w v u first next = record {
  posts = next.posts ∙ first.posts;
  limits = next.limits ∙ first.limits;
  target = next.target ∙ first.target;
  sent = next.sent ∙ first.sent;
  known = λ d. next.known d ∙ first.known d;
  rules = λ d. next.rules d ∙ first.rules d;
  passes = λ d. next.passes d ∙ first.passes d;
  spent = λ e. next.spent (first.spent e);
  on = λ d t e. next.on d t (first.on d t e);
  on_others = λ d o. next.on_others d o ∙ first.on_others d o;
  home = λ t. home_on t (next.home t);
  eaten = λ d o. next.eaten d o ∙ first.eaten d o;
  slept = λ d o. next.slept d o ∙ first.slept d o;
}
  where
    took_back : (t : ℕ) → v.kernel.home t ≡ w.kernel.home t → Took c v t → Took c w t
    took_back t same took = record {
      whole = ap (λ s. upto s t) (sym (first.known c)) ∙ took.whole ∙ ap (λ posts. length (filter_map (λ (one : Post). kind_in t one.item) posts)) first.posts;
      runs = ap (λ s. may_run (reports (kinds w.kernel) s t) c) (sym (first.known c)) ∙ ap (λ posts. may_run (reports (λ t. filter_map (λ (one : Post). kind_in t one.item) posts) (v.agents c).known t) c) (sym first.posts) ∙ took.runs;
      elsewhere = λ cpu o n told.
          took.elsewhere (cpu_at cpu) (λ e. o (sym same ∙ e)) n
          (ap (λ q. has (pairs_in (content v.kernel q)) t n) same
          ∙ ap (λ a. has (pairs_in (drop a (items_to v.kernel (w.kernel.home t)))) t n) (first.eaten (w.kernel.home t) o) ∙ ap (λ posts. has (pairs_in (drop (w.kernel.eaten (w.kernel.home t)) (filter_map (item_to (w.kernel.home t)) posts))) t n) first.posts ∙ told);
      unsent = λ cpu n told.
          took.unsent (cpu_at cpu) n
          (ap (λ q. has (pairs_in (drop (passed v q) (items_to v.kernel q))) t n) same
          ∙ ap (λ a. has (pairs_in (drop a (items_to v.kernel (w.kernel.home t)))) t n) (first.passes (w.kernel.home t)) ∙ ap (λ posts. has (pairs_in (drop (passed w (w.kernel.home t)) (filter_map (item_to (w.kernel.home t)) posts))) t n) first.posts ∙ told);
    }
      where
        cpu_at : is_cpu (shown w.kernel) (w.kernel.home t) ≡ true → is_cpu (shown v.kernel) (v.kernel.home t) ≡ true
        cpu_at cpu = ap (is_cpu (shown v.kernel)) same ∙ ap (λ (l : Limits). nat_lt (w.kernel.home t) l.cpus) first.limits ∙ cpu

    home_on : (t : ℕ) → (u.kernel.home t ≡ v.kernel.home t) ⊎ ((u.kernel.home t ≡ c) × Took c v t) → (u.kernel.home t ≡ w.kernel.home t) ⊎ ((u.kernel.home t ≡ c) × Took c w t)
    home_on t (inr h) = elim (first.home t) [
      | inl f ↦ inr (h.0, took_back t f h.1)
      | inr g ↦ inr (h.0, g.1)
    ]
    home_on t (inl e) = elim (first.home t) [
      | inl f ↦ inl (e ∙ f)
      | inr h ↦ inr (e ∙ h.0, h.1)
    ]

-- another list, or another count, for one agent, and another kernel
module _ (c : ℕ) (w : PlainWorld) (p : PlainAgent) where
  abbrev old : PlainAgent
  old = w.agents c

  agent_has : {X : Type 0} (f : PlainAgent → X) → f p ≡ f old → (d : ℕ) → f (at w.agents c p d) ≡ f (w.agents d)
  agent_has f same d = elim (cases_eq d c) [
    | inl e ↦ ap (λ n. f (at w.agents c p n)) e ∙ ap f (at_same w.agents c p) ∙ same ∙ ap (λ n. f (w.agents n)) (sym e)
    | inr o ↦ ap f (at_other w.agents c d p o)
  ]

  -- the kernel's marks but for what stands on a CPU, and homes
  pub calm_agent : (Q : PlainKernel) → p.known ≡ old.known → p.rules ≡ old.rules → p.sent_items ≡ old.sent_items
      → Q.posts ≡ w.kernel.posts → Q.limits ≡ w.kernel.limits → Q.target ≡ w.kernel.target → ((d : ℕ) → Q.eaten d ≡ w.kernel.eaten d) → ((d : ℕ) → Q.slept d ≡ w.kernel.slept d)
      → ((d t : ℕ) → w.kernel.on d ≡ Some t → Q.on d ≡ Some t) → ((d : ℕ) → (d ≡ c → ⊥) → Q.on d ≡ w.kernel.on d) → ((t : ℕ) → (Q.home t ≡ w.kernel.home t) ⊎ ((Q.home t ≡ c) × Took c w t)) → Calm c w (record (with_agent w c p) { kernel = Q })
  calm_agent Q known rules items posts limits target eaten slept on on_others home = record {
    posts = posts;
    limits = limits;
    target = target;
    sent = refl;
    known = agent_has (λ a. a.known) known;
    rules = agent_has (λ a. a.rules) rules;
    passes = λ d. let e = eaten d in let f = agent_has (λ a. a.sent_items) items d in omega arith;
    spent = λ e. agent_has (λ a. a.sent_items) items c ∙ e;
    on = on;
    on_others = on_others;
    home = home;
    eaten = λ d o. eaten d;
    slept = λ d o. slept d;
  }

-- consume
consumed : (c : ℕ) (w : PlainWorld) → Calm c w (record (with_agent w c (record (w.agents c) { sent_items = 0 })) { kernel = changed w.kernel (call.Consume c (w.agents c).sent_items) })
consumed c w = record {
  posts = refl;
  limits = refl;
  target = refl;
  sent = refl;
  known = agent_has c w p (λ a. a.known) refl;
  rules = agent_has c w p (λ a. a.rules) refl;
  passes = passes;
  spent = λ e. ap (λ (a : PlainAgent). a.sent_items) (at_same w.agents c p);
  on = λ d t e. e;
  on_others = λ d o. refl;
  home = λ t. inl refl;
  eaten = λ d o. at_other w.kernel.eaten c d more o;
  slept = λ d o. refl;
}
  where
    p : PlainAgent
    p = record (w.agents c) { sent_items = 0 }

    more : ℕ
    more = w.kernel.eaten c + (w.agents c).sent_items

    passes : (d : ℕ) → at w.kernel.eaten c more d + (at w.agents c p d).sent_items ≡ passed w d
    passes d = elim (cases_eq d c) [
      | inl e ↦
          let a : at w.kernel.eaten c more d ≡ w.kernel.eaten c + (w.agents c).sent_items = ap (at w.kernel.eaten c more) e ∙ at_same w.kernel.eaten c more in
          let b : (at w.agents c p d).sent_items ≡ 0 = ap (λ n. (at w.agents c p n).sent_items) e ∙ ap (λ (a : PlainAgent). a.sent_items) (at_same w.agents c p) in
          let k : passed w d ≡ w.kernel.eaten c + (w.agents c).sent_items = ap (passed w) e in
          omega arith
      | inr o ↦
          let a = at_other w.kernel.eaten c d more o in
          let b : (at w.agents c p d).sent_items ≡ (w.agents d).sent_items = ap (λ (a : PlainAgent). a.sent_items) (at_other w.agents c d p o) in
          omega arith
    ]

-- what is so of a CPU that is there
if_there : (there : Bool) (c : ℕ) (w new : PlainWorld) (told : Reply) (Holds : Type 0) → (Holds → Calm c w new) → MatchBool there Holds (IsBadCpu w told new) → Calm c w new
if_there true c w new told Holds says h = says h
if_there false c w new told Holds says h = calm_same c w new h.same

pub consume_calm : (c : ℕ) (w new : PlainWorld) (told : Reply) → Step w (event.Consume c) told new → Calm c w new
consume_calm c w new told step =
    let made = call.Consume c (w.agents c).sent_items in
    if_there (is_cpu (shown w.kernel) c) c w new told (IsConsumed w c (kernel.reply w.kernel made) told new) (by_refused (refused (shown w.kernel) made) refl) step
  where
    by_refused : (o : Option Refusal) → refused (shown w.kernel) (call.Consume c (w.agents c).sent_items) ≡ o → IsConsumed w c (reply_of o Done) told new → Calm c w new
    by_refused None none h =
        let made = call.Consume c (w.agents c).sent_items in
        let is : new ≡ record (with_agent w c (record (w.agents c) { sent_items = 0 })) { kernel = changed w.kernel made } =
        h.1 ∙ ap (λ o. record (with_agent w c (record (w.agents c) { sent_items = 0 })) { kernel = after_of o (changed w.kernel made) w.kernel }) none in
        subst (Calm c w) (sym is) (consumed c w)
    by_refused (Some why) some h = calm_same c w new h.same

-- sleep
pub sleep_calm : (c n : ℕ) (w new : PlainWorld) (told : Reply) → Step w (event.Agent (Sleep c n)) told new → Calm c w new
sleep_calm c n w new told step = subst (Calm c w) (sym step.after) (by_refused (refused (shown w.kernel) (call.Agent (Sleep c n))))
  where
    by_refused : (o : Option Refusal) → Calm c w (record w { kernel = after_of o (changed w.kernel (call.Agent (Sleep c n))) w.kernel })
    by_refused None = record {
      posts = refl;
      limits = refl;
      target = refl;
      sent = refl;
      known = λ d. refl;
      rules = λ d. refl;
      passes = λ d. refl;
      spent = λ e. e;
      on = λ d t e. e;
      on_others = λ d o. refl;
      home = λ t. inl refl;
      eaten = λ d o. refl;
      slept = λ d o. at_other w.kernel.slept c d (Some n) o;
    }
    by_refused (Some why) = itself c w

none_pending : (t : ℕ) (items : List Item) → list_any (is_of t) items ≡ false → filter_map (message_in t) items ≡ []
none_pending t [] e = refl
none_pending t (item.Tick cpu ∷ items) e = none_pending t items e
none_pending t (item.Thread m ∷ items) e = elim (m.thread == t) as (λ b. (b || list_any (is_of t) items) ≡ false → cons_option (if b then Some m else None) (filter_map (message_in t) items) ≡ []) [
  | true ↦ λ s. cc
  | false ↦ λ s. none_pending t items s
] e

module _ (laws : KernelLaws) (c : ℕ) (w new : PlainWorld) (told : Reply) where
  abbrev K : PlainKernel
  K = w.kernel

  abbrev a : PlainAgent
  a = w.agents c

  -- pick
  stays_on : (n t : ℕ) → refused (shown K) (commits c t n) ≡ None → (d u : ℕ) → K.on d ≡ Some u → at K.on c (Some t) d ≡ Some u
  stays_on n t none d u e = elim (cases_eq d c) [
    | inl same ↦ let idle = (laws.commits K c t n none).idle in let bad : ◌≡◌ {A = Option ℕ} None (Some u) = sym idle ∙ ap K.on (sym same) ∙ e in absurd (cc)
    | inr o ↦ at_other K.on c d (Some t) o ∙ e
  ]

  committed : (n t : ℕ) (rest : List ℕ) (o : Option Refusal) → refused (shown K) (commits c t n) ≡ o → Calm c w (record (with_agent w c (record a { list = rest })) { kernel = after_of o (changed K (commits c t n)) K })
  committed n t rest None none = calm_agent c w (record a { list = rest }) (changed K (commits c t n)) refl refl refl refl refl refl (λ d. refl) (λ d. refl) (stays_on n t none) (λ d o. at_other K.on c d (Some t) o) (λ s. inl refl)
  committed n t rest (Some why) some = calm_agent c w (record a { list = rest }) K refl refl refl refl refl refl (λ d. refl) (λ d. refl) (λ d t e. e) (λ d o. refl) (λ s. inl refl)

  picks_first : (n : ℕ) (names : List ℕ) → IsCommitted w c n names told new → Calm c w new
  picks_first n [] h = absurd h
  picks_first n (t ∷ rest) h = subst (Calm c w) (sym h.1) (committed n t rest (refused (shown K) (commits c t n)) refl)

  picks_by : (n : ℕ) (o : Option Refusal) → IsPicked w c n o told new → Calm c w new
  picks_by n None h = picks_first n (ready_list (shown K) c n a.list) h
  picks_by n (Some why) h = subst (Calm c w) (sym h.1) (calm_agent c w (record a { list = left_by why a.list }) K refl refl refl refl refl refl (λ d. refl) (λ d. refl) (λ d t e. e) (λ d o. refl) (λ s. inl refl))

  pub pick_calm : (n : ℕ) → Step w (event.Pick c n) told new → Calm c w new
  pick_calm n step =
      let why = pick_refused (shown K) c n a.list in
      if_there (is_cpu (shown K) c) c w new told (IsPicked w c n why told new) (picks_by n why) step

  -- steal
  took : (t : ℕ) → FindsFirst (stealable w c) (Some t) → refused (shown K) (takes_over c a t) ≡ None → Took c w t
  took t found accepted =
      let exact = laws.associates K t c (upto a.known t) accepted in
      let some = at_some (may_take (shown K) (λ s. may_run (reports (kinds K) a.known s) c) a.list t) _ found.place found.there in
      let wanted = both (is_wanted (λ s. may_run (reports (kinds K) a.known s) c) a.list t) (is_idle (shown K) t) some.0 in
      record {
        whole = exact.current;
        runs = (both (may_run (reports (kinds K) a.known t) c) _ wanted.0).0;
        elsewhere = λ cpu o n told. none_held exact.known exact.nothing_waits cpu n told;
        unsent = λ cpu n told. none_held exact.known exact.nothing_waits cpu n (has_behind (K.eaten (K.home t)) (w.agents (K.home t)).sent_items (items_to K (K.home t)) t n told);
      }
    where
      none_held : is_known K t ≡ true → is_pending (shown K) t ≡ false → is_cpu (shown K) (K.home t) ≡ true → (n : ℕ) → has (pairs_in (content K (K.home t))) t n ≡ true → ⊥
      none_held known quiet cpu n told =
          let held : reads.content_read (shown K) (reads.home (shown K) t) ≡ content K (K.home t) =
          ap (reads.content_read (shown K)) (home_read K t known) ∙ (laws.reads K).content (K.home t) cpu in
          waits_there (content K (K.home t)) t n told (none_pending t (content K (K.home t)) (ap (list_any (is_of t)) (sym held) ∙ quiet))

  taken : (t : ℕ) (o : Option Refusal) → FindsFirst (stealable w c) (Some t) → refused (shown K) (takes_over c a t) ≡ o → Calm c w (record (with_agent w c (record a { list = a.list ++ t ∷ [] })) { kernel = after_of o (changed K (takes_over c a t)) K })
  taken t None found e = calm_agent c w (record a { list = a.list ++ t ∷ [] }) (changed K (takes_over c a t)) refl refl refl refl refl refl (λ d. refl) (λ d. refl) (λ d t e. e) (λ d o. refl) (λ s. elim (cases_eq s t) [
    | inl same ↦ inr (ap (at K.home t c) same ∙ at_same K.home t c, subst (Took c w) (sym same) (took t found e))
    | inr o ↦ inl (at_other K.home t s c o)
  ])
  taken t (Some why) found e = calm_agent c w (record a { list = a.list ++ t ∷ [] }) K refl refl refl refl refl refl (λ d. refl) (λ d. refl) (λ d t e. e) (λ d o. refl) (λ s. inl refl)

  takes_calm : (t : ℕ) (o : Option Refusal) → FindsFirst (stealable w c) (Some t) → IsTakenOver w c t o told new → Calm c w new
  takes_calm t None found h = subst (Calm c w) (sym h.1) (taken t (refused (shown K) (takes_over c a t)) found refl)
  takes_calm t (Some why) found h = calm_same c w new h.same

  tries_calm : (o : Option ℕ) → FindsFirst (stealable w c) o → IsTried w c o told new → Calm c w new
  tries_calm None found h = calm_same c w new h.same
  tries_calm (Some t) found h = takes_calm t (refused (shown K) (takes_over c a t)) found h

  steals_calm : (busy : Bool) → IsStolen w c busy told new → Calm c w new
  steals_calm true h = calm_same c w new h.same
  steals_calm false h = tries_calm h.0 h.1 h.2

  pub steal_calm : Step w (event.Steal c) told new → Calm c w new
  steal_calm step =
      let busy = is_some (on (shown K) c) in
      if_there (is_cpu (shown K) c) c w new told (IsStolen w c busy told new) (steals_calm busy) step

-- all of them, behind the consume
pub record Consumes (w : PlainWorld) (c : ℕ) (new : PlainWorld) : Type 0 where
  pub taken : Reply
  pub between : PlainWorld
  pub consume : Step w (event.Consume c) taken between
  pub calm : Calm c between new

pub acts_consume : KernelLaws → (w : PlainWorld) (c n : ℕ) (asking : Bool) (new : PlainWorld) → Acts w c n asking new → Consumes w c new
acts_consume laws w c n asking new (picked taken told ran other) =
    let v = ran.0 in
    let u = ran.2.0 in
    record { taken = taken; between = v; consume = ran.1; calm = calm_on c v u new (pick_calm laws c v u told n ran.2.1) (calm_same c u new ran.2.2) }
acts_consume laws w c n asking new (stole taken told again queue thread ran) =
    let v = ran.0 in
    let u = ran.2.0 in
    let x = ran.2.2.0 in
    let y = ran.2.2.2.0 in
    let none = reply.Refused refusal.NothingReady in
    record {
      taken = taken;
      between = v;
      consume = ran.1;
      calm = calm_on c v u new (pick_calm laws c v u none n ran.2.1)
          (calm_on c u x new (steal_calm laws c u x (reply.Associated queue thread) ran.2.2.1) (calm_on c x y new (pick_calm laws c x y again n ran.2.2.2.1) (calm_same c y new ran.2.2.2.2)));
    }
acts_consume laws w c n asking new (steal_refused taken r ran) =
    let v = ran.0 in
    let u = ran.2.0 in
    let x = ran.2.2.0 in
    let none = reply.Refused refusal.NothingReady in
    record {
      taken = taken;
      between = v;
      consume = ran.1;
      calm = calm_on c v u new (pick_calm laws c v u none n ran.2.1) (calm_on c u x new (steal_calm laws c u x (reply.Refused r) ran.2.2.1) (calm_same c x new ran.2.2.2));
    }

pub acts_calm : KernelLaws → (w : PlainWorld) (c n : ℕ) (asking : Bool) (new : PlainWorld) → Acts w c n asking new → Calm c w new
acts_calm laws w c n asking new acts =
    let did = acts_consume laws w c n asking new acts in
    calm_on c w did.between new (consume_calm c w did.between did.taken did.consume) did.calm
