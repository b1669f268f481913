-- Every list of calls keeps that messages are what was posted; and what a call does to the queues.
use Rattle.std.proofs.Common.{◌≡◌, ℕ, zero, suc, ◌+◌, ◌==◌, ◌⊎◌, true, false, List, [], ◌∷◌, ◌++◌, Some, None, Contains, refl, sym, ◌∙◌, ap, subst, inl, inr, arith, if◌then◌else◌, unwrap_or}
use Rattle.std.specs.List.{filter_map}
use Rattle.std.proofs.lemmas.List.{append-nil}
use Rattle.std.proofs.lemmas.List.Elements.{Contains-append_left, Contains-append_cases, Contains-push}
use Rattle.std.proofs.lemmas.Bool.{cases_eq}
use Rattle.std.proofs.lemmas.Bool.Decides.{eqb_tells}
use Rattle.pc_messages.specs.declared.kind.Kind.{Kind}
use Rattle.pc_messages.specs.declared.kind.Kind.TheVariants as kind
use Rattle.pc_messages.specs.declared.message.Message.{Message}
use Rattle.pc_messages.specs.declared.message.Item.{Item}
use Rattle.pc_messages.specs.declared.message.Item.TheVariants.{Thread, Tick}
use Rattle.pc_calls.specs.declared.call.EnvCall.{EnvCall}
use Rattle.pc_calls.specs.declared.call.EnvCall.TheVariants as env
use Rattle.pc_calls.specs.declared.call.Call.{Call}
use Rattle.pc_calls.specs.declared.call.AgentCall.TheVariants.{Associate, Commit, Sleep, Rouse, Config}
use Rattle.pc_calls.specs.declared.call.Call.TheVariants.{Env, Agent, Consume}
use Rattle.pc_calls.specs.declared.limits.Limits.{Limits}
use Rattle.pc_kernel.specs.PlainKernel.{PlainKernel, Post, start, items_to, item_to, threads}
use Rattle.pc_kernel.specs.Facts.{messages}
use Rattle.pc_kernel.specs.Posted.{takes, taken}
use Rattle.pc_kernel.specs.Reads.{shown}
use Rattle.pc_kernel.specs.Steps.{at, posted, posting, changed, after, after_of, refused, replay}
use Rattle.pc_kernel.proofs.Posting.{if_to, if_to_same, items_to-posted, quiet_other}
use Rattle.pc_kernel.proofs.Refusals.{after_has}
use Rattle.pc_kernel.proofs.Always.{next, told, messages_told, messages_quiet, at_same}

-- messages and posts are the same
pub record IsToldOf (P : PlainKernel) : Type 0 where
  pub posted : (t : ℕ) (m : Message) → Contains (messages P t) m → (q : ℕ) × Contains (items_to P q) (Thread m)
  pub of_run : (q : ℕ) (m : Message) → Contains (items_to P q) (Thread m) → Contains (messages P m.thread) m

-- of one element
only_item : (x y : Item) → Contains (x ∷ []) y → x ≡ y
only_item x y (zero, l, e) = e
only_item x y (suc i, l, e) = absurd (omega (arith, l))

only_message : (x y : Message) → Contains (x ∷ []) y → x ≡ y
only_message x y (zero, l, e) = e
only_message x y (suc i, l, e) = absurd (omega (arith, l))

no_item : (y : Item) → Contains [] y → ⊥
no_item y (i, l, e) = omega (arith, l)

-- an item of a queue after a post
item_cases : (P : PlainKernel) (q : ℕ) (it : Item) (c : ℕ) (x : Item) → Contains (items_to (posted P q it) c) x → Contains (items_to P c) x ⊎ (it ≡ x)
item_cases P q it c x h =
    elim (Contains-append_cases (items_to P c) (if_to q c it) x (subst (λ l. Contains l x) (items_to-posted P q it c) h)) [
      | inl before ↦ inl before
      | inr last ↦ inr (elim (q == c) as (λ b. Contains (if b then it ∷ [] else []) x → it ≡ x) [ true ↦ only_item it x | false ↦ λ n. absurd (no_item x n) ] last)
    ]

item_stays : (P : PlainKernel) (q : ℕ) (it : Item) (c : ℕ) (x : Item) → Contains (items_to P c) x → Contains (items_to (posted P q it) c) x
item_stays P q it c x h = subst (λ l. Contains l x) (sym (items_to-posted P q it c)) (Contains-append_left (items_to P c) (if_to q c it) x h)

item_there : (P : PlainKernel) (q : ℕ) (it : Item) → Contains (items_to (posted P q it) q) it
item_there P q it =
    subst (λ l. Contains l it) (sym (items_to-posted P q it q ∙ ap (λ l. items_to P q ++ l) (if_to_same q it))) (Contains-push (items_to P q) it)

same_message : (m n : Message) → ◌≡◌ {A = Item} (Thread m) (Thread n) → m ≡ n
same_message m n e = cc

-- a tick
tick_told : (P : PlainKernel) (cpu : ℕ) → IsToldOf P → IsToldOf (posted P cpu (Tick cpu))
tick_told P cpu h =
    let it : Item = Tick cpu in
    let same : (t : ℕ) → messages (posted P cpu it) t ≡ messages P t = λ t. messages_quiet P cpu it t record { kind = refl; message = refl; not_of = refl } in
    record {
      posted = λ t m there.
          let was = h.posted t m (subst (λ l. Contains l m) (same t) there) in
          (was.0, item_stays P cpu it was.0 (Thread m) was.1);
      of_run = λ q m there. elim (item_cases P cpu it q (Thread m) there) [
        | inl before ↦ subst (λ l. Contains l m) (sym (same m.thread)) (h.of_run q m before)
        | inr is ↦ cc
      ];
    }

-- a thread's next message
told_more : (P : PlainKernel) (t0 : ℕ) (k : Kind) → IsToldOf P → IsToldOf (told P t0 k)
told_more P t0 k h =
    let it : Item = Thread (next P t0 k) in
    let q0 = P.home t0 in
    let other : (t : ℕ) → (t0 ≡ t → ⊥) → messages (told P t0 k) t ≡ messages P t = λ t n. messages_quiet P q0 it t (quiet_other t (next P t0 k) n) in
    record {
      posted = λ t m there. elim (cases_eq t0 t) [
        | inl same ↦
            elim (Contains-append_cases (messages P t0) (next P t0 k ∷ []) m (subst (λ l. Contains l m) (messages_told P t0 k) (subst (λ n. Contains (messages (told P t0 k) n) m) (sym same) there))) [
              | inl before ↦ let was = h.posted t0 m before in (was.0, item_stays P q0 it was.0 (Thread m) was.1)
              | inr last ↦ (q0, subst (λ x. Contains (items_to (told P t0 k) q0) (Thread x)) (only_message (next P t0 k) m last) (item_there P q0 it))
            ]
        | inr o ↦ let was = h.posted t m (subst (λ l. Contains l m) (other t o) there) in (was.0, item_stays P q0 it was.0 (Thread m) was.1)
      ];
      of_run = λ q m there. elim (item_cases P q0 it q (Thread m) there) [
        | inl before ↦ elim (cases_eq t0 m.thread) [
          | inl same ↦
              subst (λ n. Contains (messages (told P t0 k) n) m) same
              (subst (λ l. Contains l m) (sym (messages_told P t0 k)) (Contains-append_left (messages P t0) (next P t0 k ∷ []) m (subst (λ n. Contains (messages P n) m) (sym same) (h.of_run q m before))))
          | inr o ↦ subst (λ l. Contains l m) (sym (other m.thread o)) (h.of_run q m before)
        ]
        | inr is ↦
            subst (λ (x : Message). Contains (messages (told P t0 k) x.thread) x) (same_message (next P t0 k) m is)
            (subst (λ l. Contains l (next P t0 k)) (sym (messages_told P t0 k)) (Contains-push (messages P t0) (next P t0 k)))
      ];
    }

-- whatever else of the kernel changed
told_same : (P Q : PlainKernel) → Q.posts ≡ P.posts → IsToldOf P → IsToldOf Q
told_same P Q e h =
    record {
      posted = λ t m there.
          let was = h.posted t m (subst (λ (posts : List Post). Contains (messages (record P { posts = posts }) t) m) e there) in
          (was.0, subst (λ (posts : List Post). Contains (items_to (record P { posts = posts }) was.0) (Thread m)) (sym e) was.1);
      of_run = λ q m there.
          subst (λ (posts : List Post). Contains (messages (record P { posts = posts }) m.thread) m) (sym e)
          (h.of_run q m (subst (λ (posts : List Post). Contains (items_to (record P { posts = posts }) q) (Thread m)) e there));
    }

posting_posts : (P : PlainKernel) (call : EnvCall) → (posting P call).before.posts ≡ P.posts
posting_posts P (env.Create queue ready mask) = refl
posting_posts P (env.Wake t) = refl
posting_posts P (env.Block cpu ran) = refl
posting_posts P (env.YieldNow cpu ran) = refl
posting_posts P (env.Preempt cpu ran) = refl
posting_posts P (env.Die cpu ran) = refl
posting_posts P (env.SetAffinity t mask) = refl
posting_posts P (env.SetPriority t level) = refl
posting_posts P (env.Tick cpu) = refl

env_told : (P : PlainKernel) (call : EnvCall) → IsToldOf P → IsToldOf (changed P (Env call))
env_told P (env.Create queue ready mask) h =
    let B = (posting P (env.Create queue ready mask)).before in told_more B (threads P) (kind.Created ready mask) (told_same P B refl h)
env_told P (env.Wake t) h = told_more P t kind.Wakeup h
env_told P (env.Block cpu ran) h = let B = (posting P (env.Block cpu ran)).before in told_more B (unwrap_or (P.on cpu) 0) (kind.Blocked ran) (told_same P B refl h)
env_told P (env.YieldNow cpu ran) h = let B = (posting P (env.YieldNow cpu ran)).before in told_more B (unwrap_or (P.on cpu) 0) (kind.Yield ran) (told_same P B refl h)
env_told P (env.Preempt cpu ran) h = let B = (posting P (env.Preempt cpu ran)).before in told_more B (unwrap_or (P.on cpu) 0) (kind.Preempted ran) (told_same P B refl h)
env_told P (env.Die cpu ran) h = let B = (posting P (env.Die cpu ran)).before in told_more B (unwrap_or (P.on cpu) 0) (kind.Dead ran) (told_same P B refl h)
env_told P (env.SetAffinity t mask) h = told_more P t (kind.Affinity mask) h
env_told P (env.SetPriority t level) h = told_more P t (kind.Priority level) h
env_told P (env.Tick cpu) h = tick_told P cpu h

call_told : (P : PlainKernel) (call : Call) → IsToldOf P → IsToldOf (changed P call)
call_told P (Env call) h = env_told P call h
call_told P (Consume cpu count) h = told_same P (changed P (Consume cpu count)) refl h
call_told P (Agent (Associate t queue n)) h = told_same P (changed P (Agent (Associate t queue n))) refl h
call_told P (Agent (Commit cpu t n)) h = told_same P (changed P (Agent (Commit cpu t n))) refl h
call_told P (Agent (Sleep cpu n)) h = told_same P (changed P (Agent (Sleep cpu n))) refl h
call_told P (Agent (Rouse cpu)) h = told_same P (changed P (Agent (Rouse cpu))) refl h
call_told P (Agent (Config queue None)) h = told_same P (changed P (Agent (Config queue None))) refl h
call_told P (Agent (Config queue (Some cpu))) h = told_same P (changed P (Agent (Config queue (Some cpu)))) refl h

replay_told : (P : PlainKernel) (calls : List Call) → IsToldOf P → IsToldOf (replay P calls)
replay_told P [] h = h
replay_told P (call ∷ calls) h = replay_told (after P call) calls (after_has IsToldOf P call h (λ _. call_told P call h))

no_message : (y : Message) → Contains [] y → ⊥
no_message y (i, l, e) = omega (arith, l)

pub always_told : (limits : Limits) (calls : List Call) → IsToldOf (replay (start limits) calls)
always_told limits calls =
    replay_told (start limits) calls record {
      posted = λ t m there. absurd (no_message m there);
      of_run = λ q m there. absurd (no_item (Thread m) there);
    }

-- queues go on
stays : (P : PlainKernel) (q : ℕ) → (more : List Item) × (items_to P q ≡ items_to P q ++ more)
stays P q = ([], sym (append-nil (items_to P q)))

env_goes_on : (P : PlainKernel) (call : EnvCall) (q : ℕ) → (more : List Item) × (items_to (changed P (Env call)) q ≡ items_to P q ++ more)
env_goes_on P call q =
    let p = posting P call in
    (if_to p.queue q p.item, items_to-posted p.before p.queue p.item q ∙ ap (λ (posts : List Post). filter_map (item_to q) posts ++ if_to p.queue q p.item) (posting_posts P call))

call_goes_on : (P : PlainKernel) (call : Call) (q : ℕ) → (more : List Item) × (items_to (changed P call) q ≡ items_to P q ++ more)
call_goes_on P (Env call) q = env_goes_on P call q
call_goes_on P (Consume cpu count) q = stays P q
call_goes_on P (Agent (Associate t queue n)) q = stays P q
call_goes_on P (Agent (Commit cpu t n)) q = stays P q
call_goes_on P (Agent (Sleep cpu n)) q = stays P q
call_goes_on P (Agent (Rouse cpu)) q = stays P q
call_goes_on P (Agent (Config queue None)) q = stays P q
call_goes_on P (Agent (Config queue (Some cpu))) q = stays P q

pub goes_on : (P : PlainKernel) (call : Call) (q : ℕ) → (more : List Item) × (items_to (after P call) q ≡ items_to P q ++ more)
goes_on P call q = after_has (λ Q. (more : List Item) × (items_to Q q ≡ items_to P q ++ more)) P call (stays P q) (λ _. call_goes_on P call q)

-- what is eaten
no_more : (n : ℕ) → n ≡ n + 0
no_more n = omega arith

env_eats : (P : PlainKernel) (call : EnvCall) (q : ℕ) → (changed P (Env call)).eaten q ≡ P.eaten q + 0
env_eats P (env.Create queue ready mask) q = no_more (P.eaten q)
env_eats P (env.Wake t) q = no_more (P.eaten q)
env_eats P (env.Block cpu ran) q = no_more (P.eaten q)
env_eats P (env.YieldNow cpu ran) q = no_more (P.eaten q)
env_eats P (env.Preempt cpu ran) q = no_more (P.eaten q)
env_eats P (env.Die cpu ran) q = no_more (P.eaten q)
env_eats P (env.SetAffinity t mask) q = no_more (P.eaten q)
env_eats P (env.SetPriority t level) q = no_more (P.eaten q)
env_eats P (env.Tick cpu) q = no_more (P.eaten q)

consume_eats : (P : PlainKernel) (cpu count q : ℕ) → at P.eaten cpu (P.eaten cpu + count) q ≡ P.eaten q + (if cpu == q then count else 0)
consume_eats P cpu count q = elim (eqb_tells cpu q) [
  | inl e ↦ rw e.0 (subst (λ n. at P.eaten cpu (P.eaten cpu + count) n ≡ P.eaten n + count) e.1 (at_same P.eaten cpu (P.eaten cpu + count)))
  | inr e ↦ rw e.0 (elim (eqb_tells q cpu) [ inl s ↦ absurd (e.1 (sym s.1)) | inr s ↦ rw s.0 (no_more (P.eaten q)) ])
]

call_eats : (P : PlainKernel) (call : Call) (q : ℕ) → (changed P call).eaten q ≡ P.eaten q + takes call q
call_eats P (Env call) q = env_eats P call q
call_eats P (Consume cpu count) q = consume_eats P cpu count q
call_eats P (Agent (Associate t queue n)) q = no_more (P.eaten q)
call_eats P (Agent (Commit cpu t n)) q = no_more (P.eaten q)
call_eats P (Agent (Sleep cpu n)) q = no_more (P.eaten q)
call_eats P (Agent (Rouse cpu)) q = no_more (P.eaten q)
call_eats P (Agent (Config queue None)) q = no_more (P.eaten q)
call_eats P (Agent (Config queue (Some cpu))) q = no_more (P.eaten q)

pub eats : (P : PlainKernel) (call : Call) (q : ℕ) → (after P call).eaten q ≡ P.eaten q + taken (refused (shown P) call) (takes call q)
eats P call q =
    elim (refused (shown P) call) as (λ o. (after_of o (changed P call) P).eaten q ≡ P.eaten q + taken o (takes call q)) [
      | None ↦ call_eats P call q
      | Some why ↦ no_more (P.eaten q)
    ]
