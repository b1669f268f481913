-- Of news that an agent was not told of, none is the last word of a thread that may run on its CPU.
use Rattle.std.proofs.Common.{◌≡◌, ◌⊎◌, ◌+◌, ◌≤◌, ℕ, zero, suc, nat_lt, Bool, true, false, List, [], ◌∷◌, ◌++◌, length, drop, Some, slice_get, if◌then◌else◌, refl, sym, ◌∙◌, ap, subst, inl, inr, arith}
use Rattle.std.specs.List.{filter_map, cons_option}
use Rattle.std.proofs.lemmas.Bool.{cases_eq, false≢true}
use Rattle.std.proofs.lemmas.List.{append-nil}
use Rattle.std.proofs.lemmas.Option.{same_Some}
use Rattle.pc_messages.specs.Items.{pairs_in}
use Rattle.pc_messages.specs.State.{state_of}
use Rattle.pc_messages.specs.declared.message.Item.{Item}
use Rattle.pc_calls.specs.declared.limits.Limits.{Limits}
use Rattle.pc_calls.specs.declared.call.Call.TheVariants as call
use Rattle.pc_calls.specs.declared.call.EnvCall.{EnvCall}
use Rattle.pc_calls.specs.declared.call.EnvCall.TheVariants as env
use Rattle.std.specs.Prelude.{Contains}
use Rattle.pc_world.proofs.Mended.{below_test}
use Rattle.pc_agent.specs.Publishing.{sent_after}
use Rattle.pc_join.specs.Sets.{has}
use Rattle.pc_kernel.specs.PlainKernel.{PlainKernel, Post, aseq, content, is_known, items_to, item_to, kind_in, kinds, number, threads}
use Rattle.pc_kernel.specs.Facts.{IsAtHome}
use Rattle.pc_kernel.specs.Reads.{shown, is_cpu}
use Rattle.pc_kernel.specs.Steps.{at, changed, posting, woken}
use Rattle.pc_kernel.proofs.Posting.{item_cases}
use Rattle.pc_agent.specs.PlainAgent.{PlainAgent, Set}
use Rattle.pc_policy.specs.Rules.{Rules}
use Rattle.pc_run_queue.specs.Runs.{may_run}
use Rattle.pc_view.specs.Prefixes.{upto}
use Rattle.pc_world.specs.Facts.{IsInRun}
use Rattle.pc_world.specs.PlainWorld.{PlainWorld, published}
use Rattle.pc_world.specs.Inner.Laws.{KernelLaws}
use Rattle.pc_world.proofs.Good.{IsGood, passed}
use Rattle.pc_world.proofs.Pairs.{has_first}
use Rattle.pc_world.proofs.Places.{at_other, at_same}
use Rattle.pc_world.proofs.Reaching.{reached_good}
use Rattle.pc_protocol.specs.Protocol.{Comes, Goes, IsAct, IsCalledByEnv, IsForgotten, IsLook, IsPut, IsTake, IsUrgent, Note, Protocol, Stage, behind_sleep, goes_on, news, opening, others, puts, starts, telling, tells_none}
use Rattle.pc_protocol.proofs.Among.{IsAmong, among_middle, was_last, not_empty, empty_at}
use Rattle.pc_protocol.proofs.Acting.{IsGreatest, reports_all, whole_or_behind}
use Rattle.pc_protocol.proofs.Boxes.{Grows, empty_before, rousing_grows, telling_has}
use Rattle.pc_protocol.proofs.Calm.{Calm, Took, waits_there, has_behind}
use Rattle.pc_protocol.proofs.Forgetting.{forgets_back}
use Rattle.pc_protocol.proofs.Putting.{IsPutting}
use Rattle.pc_protocol.proofs.Putting as Putting
use Rattle.pc_protocol.proofs.Reaching.{reaches}
use Rattle.pc_protocol.proofs.Settling.{queue_is_there, some_number}
use Rattle.pc_protocol.proofs.Sleeping.{IsKept, act_calm, act_grows, kept, put_grows, take_does, take_grows}
use Rattle.pc_protocol.proofs.Spreading.{IsToBePut, IsUnsent, Tells, get_last, others_all, tells_some, kinds_after, look_puts, put_now_or_there, put_same, put_stays, run_post, take_puts, unsent, unsent_more, unsent_posted}
use Rattle.pc_protocol.proofs.Stepping.{EnvDoes, IsPost, Taken, env_does, has_added, has_more, is_before, looks, sent_more}

-- the CPU's agent has a note to take, or its mailbox holds nothing of the thread
abbrev pub IsClean : Protocol → ℕ → ℕ → Type 0
IsClean p c t = p.boxes c ≡ [] → (k n : ℕ) → IsAmong k (p.mails c) → Tells p.world.sent k t n → ⊥

-- a message of the thread is still to come to the CPU's agent
abbrev pub IsComing : Protocol → ℕ → ℕ → Type 0
IsComing p c t = ((n : ℕ) × IsUnsent p.world t n) ⊎ ((k : ℕ) × (n : ℕ) × Tells p.world.sent k t n × IsToBePut p c k)

abbrev pub May : PlainWorld → ℕ → ℕ → Type 0
May w c t = may_run (state_of (kinds w.kernel t)) c ≡ true

pub record IsHushed (p : Protocol) : Type 0 where
  pub held : (c k : ℕ) → IsAmong k (p.mails c) → (set : Set) × (slice_get p.world.sent k ≡ Some set)
  pub knows : (t n : ℕ) → IsInRun (kinds p.world.kernel) t n → (has (p.world.agents (p.world.kernel.home t)).known t n ≡ true) ⊎ IsUnsent p.world t n
  pub homely : (t : ℕ) → IsClean p (p.world.kernel.home t) t
  pub hushed : (c t : ℕ) → is_cpu (shown p.world.kernel) c ≡ true → May p.world c t → IsClean p c t ⊎ IsComing p c t

hushed_start : (rules : ℕ → Rules) (limits : Limits) → IsHushed (opening rules limits)
hushed_start rules limits = record {
  held = λ c k h. absurd h;
  knows = λ t n told. let low = told.0 in let high = told.1 in absurd (omega arith);
  homely = λ t e k n h. absurd h;
  hushed = λ c t there may. inl (λ e k n h. absurd h);
}

-- a queue that holds a message of a thread is its home's
pub at_home : (laws : KernelLaws) (limits : Limits) (w : PlainWorld) → IsGood limits w → (q t n : ℕ) → has (pairs_in (content w.kernel q)) t n ≡ true → q ≡ w.kernel.home t
at_home laws limits w good q t n told =
    let home : IsAtHome w.kernel t = subst (λ (P : PlainKernel). IsAtHome P t) (sym good.replayed) (laws.home limits good.calls t) in
    elim (cases_eq q (w.kernel.home t)) [
      | inl e ↦ e
      | inr o ↦ absurd (waits_there (content w.kernel q) t n told (home.elsewhere q o))
    ]

-- homes, before a post
home_before : (P : PlainKernel) (made : EnvCall) (t : ℕ) → (t ≡ threads P → ⊥) → (posting P made).before.home t ≡ P.home t
home_before P (env.Create queue ready mask) t o = at_other P.home (threads P) t queue o
home_before P (env.Wake s) t o = refl
home_before P (env.Block cpu ran) t o = refl
home_before P (env.YieldNow cpu ran) t o = refl
home_before P (env.Preempt cpu ran) t o = refl
home_before P (env.Die cpu ran) t o = refl
home_before P (env.SetAffinity s mask) t o = refl
home_before P (env.SetPriority s level) t o = refl
home_before P (env.Tick cpu) t o = refl

not_below : (n : ℕ) → nat_lt n n ≡ true → ⊥
not_below n e = let low = below_test n n e in omega arith

get_contains : (sets : List Set) (k : ℕ) (set : Set) → slice_get sets k ≡ Some set → Contains sets set
get_contains [] k set e = cc
get_contains (s ∷ sets) zero set e = (0, omega arith, same_Some s set e)
get_contains (s ∷ sets) (suc k) set e = let r = get_contains sets k set e in let low = r.1 in (suc r.0, omega arith, r.2)

-- what was sent is of the run
pub tells_run : (limits : Limits) (p : Protocol) → IsGood limits p.world → (k t n : ℕ) → Tells p.world.sent k t n → IsInRun (kinds p.world.kernel) t n
tells_run limits p good k t n tells = good.sent tells.0 (get_contains p.world.sent k tells.0 tells.1) t n tells.2

module _ (laws : KernelLaws) (greatest : IsGreatest) (limits : Limits) (p new : Protocol) (good : IsGood limits p.world) (keeps : IsKept p) (putting : IsPutting p) (h : IsHushed p) where
  abbrev w : PlainWorld
  w = p.world

  clean_on : (c t : ℕ) → (new.boxes c ≡ [] → p.boxes c ≡ []) → new.mails c ≡ p.mails c → ((k : ℕ) (set : Set) → slice_get w.sent k ≡ Some set → slice_get new.world.sent k ≡ Some set) → IsClean p c t → IsClean new c t
  clean_on c t boxes mails sent was empty k n among tells =
      let isin = subst (IsAmong k) mails among in
      let old = h.held c k isin in
      let same : old.0 ≡ tells.0 = same_Some old.0 tells.0 (sym (sent k old.0 old.1) ∙ tells.1) in
      was (boxes empty) k n isin (old.0, old.1, ap (λ s. has s t n) same ∙ tells.2)

  coming_on : (c t : ℕ) → ((n : ℕ) → IsUnsent w t n → IsUnsent new.world t n) → ((k : ℕ) (set : Set) → slice_get w.sent k ≡ Some set → slice_get new.world.sent k ≡ Some set)
      → ((k : ℕ) → IsToBePut p c k → IsToBePut new c k) → IsComing p c t → IsComing new c t
  coming_on c t unsent sent put (inl u) = inl (u.0, unsent u.0 u.1)
  coming_on c t unsent sent put (inr k) = inr (k.0, k.1, (k.2.0, sent k.0 k.2.0 k.2.1, k.2.2), put k.0 k.3)

  -- the put
  module _ (c : ℕ) (there : is_cpu (shown w.kernel) c ≡ true) where
    module _ (put : IsPut p c new) where
      stands : Putting.StandsIn w c put.k
      stands = putting.stands c put.n put.k put.to (put.before ++ put.to ∷ put.behind) put.at_put (among_middle put.to put.before put.behind)

      -- what it puts are messages of threads at home there
      home_is : (t n : ℕ) → Tells w.sent put.k t n → c ≡ w.kernel.home t
      home_is t n tells =
          let same : stands.0 ≡ tells.0 = same_Some stands.0 tells.0 (sym stands.1 ∙ tells.1) in
          at_home laws limits w good c t n (stands.2 t n (ap (λ s. has s t n) same ∙ tells.2))

      -- where the sender knows all of a thread that may run there, it tells
      is_told : (t n : ℕ) → Tells w.sent put.k t n → upto (w.agents c).known t ≡ number w.kernel t → May w put.to t → new.boxes put.to ≡ [] → ⊥
      is_told t n tells whole may empty =
          let before : p.boxes put.to ≡ [] = empty_before p.boxes new.boxes (put_grows laws limits p new good keeps c there put) put.to empty in
          let runs = ap (λ s. may_run s put.to) (reports_all laws w.kernel put.to (w.agents c) t whole) ∙ may in
          by_quiet put.quiet refl before (tells.0, t, n, tells.1, tells.2, inr runs)
        where
          by_quiet : (b : Bool) → put.quiet ≡ b → p.boxes put.to ≡ [] → IsUrgent w c put.k put.to → ⊥
          by_quiet true e before urgent = put.if_quiet e before urgent
          by_quiet false e before urgent =
              let is : new.boxes ≡ telling put.to news p.boxes = put.boxes ∙ ap (λ b. if b then p.boxes else telling put.to news p.boxes) e in
              not_empty news (telling put.to news p.boxes put.to) (telling_has put.to news p.boxes) (sym (ap (λ (b : ℕ → List Note). b put.to) is) ∙ empty)

      -- the mailbox of another, or the one that gets more
      mail_is : (d k : ℕ) → IsAmong k (new.mails d) → IsAmong k (p.mails d) ⊎ ((put.to ≡ d) × (put.k ≡ k))
      mail_is d k among = by_cpu (cases_eq d put.to) (subst (λ (m : ℕ → List ℕ). IsAmong k (m d)) put.mails among)
        where
          by_cpu : (d ≡ put.to) ⊎ (d ≡ put.to → ⊥) → IsAmong k (at p.mails put.to (p.mails put.to ++ put.k ∷ []) d) → IsAmong k (p.mails d) ⊎ ((put.to ≡ d) × (put.k ≡ k))
          by_cpu (inr o) isin = inl (subst (IsAmong k) (at_other p.mails put.to d (p.mails put.to ++ put.k ∷ []) o) isin)
          by_cpu (inl own) isin = elim (was_last k put.k (p.mails put.to) (subst (IsAmong k) (ap (at p.mails put.to (p.mails put.to ++ put.k ∷ [])) own ∙ at_same p.mails put.to (p.mails put.to ++ put.k ∷ [])) isin)) [
            | inl e ↦ inr (sym own, e)
            | inr was ↦ inl (subst (λ m. IsAmong k (p.mails m)) (sym own) was)
          ]

      before_empty : (d : ℕ) → new.boxes d ≡ [] → p.boxes d ≡ []
      before_empty d = empty_before p.boxes new.boxes (put_grows laws limits p new good keeps c there put) d

      -- nothing of it was in the mailbox, and what is put tells its box
      clean_put : (d t : ℕ) → ((n : ℕ) → Tells w.sent put.k t n → put.to ≡ d → new.boxes d ≡ [] → ⊥) → IsClean p d t → IsClean new d t
      clean_put d t unless was empty k n among tells =
          let old : Tells w.sent k t n = subst (λ (v : PlainWorld). Tells v.sent k t n) put.world tells in
          elim (mail_is d k among) [
            | inl before ↦ was (before_empty d empty) k n before old
            | inr now ↦ unless n (subst (λ i. Tells w.sent i t n) (sym now.1) old) now.0 empty
          ]

      unsent_still : (t n : ℕ) → IsUnsent w t n → IsUnsent new.world t n
      unsent_still t n = subst (λ v. IsUnsent v t n) (sym put.world)

      hushed_at : (d t : ℕ) → May w d t → ((n : ℕ) → Tells w.sent put.k t n → put.to ≡ d → new.boxes d ≡ [] → ⊥) → IsClean p d t ⊎ IsComing p d t → IsClean new d t ⊎ IsComing new d t
      hushed_at d t may unless (inl clean) = inl (clean_put d t unless clean)
      hushed_at d t may unless (inr (inl u)) = inr (inl (u.0, unsent_still t u.0 u.1))
      hushed_at d t may unless (inr (inr k)) = elim (put_now_or_there p new c put d k.0 k.3) [
        | inl still ↦ inr (inr (k.0, k.1, subst (λ (v : PlainWorld). Tells v.sent k.0 t k.1) (sym put.world) k.2, still))
        | inr now ↦ inl (λ empty. absurd (unless k.1 (subst (λ i. Tells w.sent i t k.1) (sym now.1) k.2) now.0 empty))
      ]

      hushed_put : IsHushed new
      hushed_put = record {
        held = λ d k among. subst (λ (v : PlainWorld). (set : Set) × (slice_get v.sent k ≡ Some set)) (sym put.world) (elim (mail_is d k among) [
          | inl before ↦ h.held d k before
          | inr now ↦ subst (λ i. (set : Set) × (slice_get w.sent i ≡ Some set)) now.1 (stands.0, stands.1)
        ]);
        knows = subst (λ (v : PlainWorld). (t n : ℕ) → IsInRun (kinds v.kernel) t n → (has (v.agents (v.kernel.home t)).known t n ≡ true) ⊎ IsUnsent v t n) (sym put.world) h.knows;
        homely = λ t. subst (λ (v : PlainWorld). IsClean new (v.kernel.home t) t) (sym put.world) (clean_put (w.kernel.home t) t
            (λ n tells to empty. putting.other c put.n put.k put.to (put.before ++ put.to ∷ put.behind) put.at_put (among_middle put.to put.before put.behind) (to ∙ sym (home_is t n tells))) (h.homely t));
        hushed = λ d t there_d may.
            let may_w : May w d t = subst (λ v. May v d t) put.world may in
            let was = h.hushed d t (subst (λ (v : PlainWorld). is_cpu (shown v.kernel) d ≡ true) put.world there_d) may_w in
            elim (whole_or_behind laws greatest limits w good (w.kernel.home t) t) [
              | inr behind ↦ elim (h.knows t behind.0 behind.1) [
                | inl knows ↦ absurd (false≢true (sym behind.2 ∙ knows))
                | inr unsent ↦ inr (inl (behind.0, unsent_still t behind.0 unsent))
              ]
              | inl whole ↦ hushed_at d t may_w (λ n tells to empty.
                  is_told t n tells (ap (λ m. upto (w.agents m).known t) (home_is t n tells) ∙ whole) (subst (λ m. May w m t) (sym to) may_w) (ap new.boxes to ∙ empty)) was
            ];
      }

  -- the environment
  number_there : (t n : ℕ) → IsInRun (kinds w.kernel) t n → is_known w.kernel t ≡ true
  number_there t n run = some_number n (number w.kernel t) run.0 run.1

  home_stays : (made : EnvCall) (t n : ℕ) → IsInRun (kinds w.kernel) t n → (changed w.kernel (call.Env made)).home t ≡ w.kernel.home t
  home_stays made t n run = home_before w.kernel made t
      (λ e.
      let dense : is_known w.kernel t ≡ nat_lt t (threads w.kernel) = subst (λ (P : PlainKernel). is_known P t ≡ nat_lt t (threads P)) (sym good.replayed) (laws.dense limits good.calls t) in
      not_below (threads w.kernel) (sym (ap (λ m. nat_lt m (threads w.kernel)) e) ∙ sym dense ∙ number_there t n run))

  module _ (made : EnvCall) (stages : new.stages ≡ p.stages) (mails : new.mails ≡ p.mails) (post : IsPost p made new) where
    abbrev q : ℕ
    q = (posting w.kernel made).queue

    abbrev it : Item
    it = (posting w.kernel made).item

    sent_same : new.world.sent ≡ w.sent
    sent_same = ap (λ (v : PlainWorld). v.sent) post.world

    boxes_back : (d : ℕ) → new.boxes d ≡ [] → p.boxes d ≡ []
    boxes_back = empty_before p.boxes new.boxes (subst (Grows p.boxes) (sym post.boxes) (rousing_grows (woken (posting w.kernel made).before q) p.boxes))

    clean_post : (d t : ℕ) → IsClean p d t → IsClean new d t
    clean_post d t = clean_on d t (boxes_back d) (ap (λ (m : ℕ → List ℕ). m d) mails) (λ k set e. ap (λ sent. slice_get sent k) sent_same ∙ e)

    hushed_post : IsHushed new
    hushed_post = record {
      held = λ d k among. subst (λ sent. (set : Set) × (slice_get sent k ≡ Some set)) (sym sent_same) (h.held d k (subst (λ (m : ℕ → List ℕ). IsAmong k (m d)) mails among));
      knows = λ t n told. elim (run_post w.kernel made t n (subst (λ (v : PlainWorld). IsInRun (kinds v.kernel) t n) post.world told)) [
        | inl before ↦ elim (h.knows t n before) [
          | inl k ↦ inl (ap (λ (v : PlainWorld). has (v.agents (v.kernel.home t)).known t n) post.world ∙ ap (λ m. has (w.agents m).known t n) (home_stays made t n before) ∙ k)
          | inr u ↦ inr (unsent_more limits p new good made post t n u)
        ]
        | inr posted ↦ inr (unsent_posted limits p new good made post t n posted)
      ];
      homely = λ t empty k n among tells.
          let isin = subst (λ (m : ℕ → List ℕ). IsAmong k (m (new.world.kernel.home t))) mails among in
          let old : Tells w.sent k t n = subst (λ sent. Tells sent k t n) sent_same tells in
          let same : new.world.kernel.home t ≡ w.kernel.home t = ap (λ (v : PlainWorld). v.kernel.home t) post.world ∙ home_stays made t n (tells_run limits p good k t n old) in
          h.homely t (boxes_back (w.kernel.home t) (ap new.boxes (sym same) ∙ empty)) k n (subst (λ d. IsAmong k (p.mails d)) same isin) old;
      hushed = λ d t there may. elim (item_cases t it) [
        | inl quiet ↦
            let same : kinds new.world.kernel t ≡ kinds w.kernel t =
            ap (λ (v : PlainWorld). kinds v.kernel t) post.world ∙ kinds_after w.kernel made t ∙ ap (λ o. kinds w.kernel t ++ cons_option o []) quiet.kind ∙ append-nil (kinds w.kernel t) in
            elim (h.hushed d t (sym (ap (λ (v : PlainWorld). nat_lt d v.kernel.limits.cpus) post.world ∙ ap (λ (l : Limits). nat_lt d l.cpus) (is_before w.kernel made).limits) ∙ there) (ap (λ ks. may_run (state_of ks) d) (sym same) ∙ may)) [
              | inl clean ↦ inl (clean_post d t clean)
              | inr coming ↦ inr (coming_on d t (unsent_more limits p new good made post t) (λ k set e. ap (λ sent. slice_get sent k) sent_same ∙ e) (λ k. put_same p new stages d k) coming)
            ]
        | inr tells ↦
            let m = tells.0 in
            inr (inl (m.number, unsent_posted limits p new good made post t m.number (ap (λ (i : Item). has (pairs_in (i ∷ [])) t m.number) tells.1.is ∙ subst (λ s. has ((m.thread, m.number) ∷ []) s m.number ≡ true) tells.1.thread (has_first m.thread m.number []))))
      ];
    }

  hushed_env : (called : IsCalledByEnv p new) → EnvDoes p called.call new → IsHushed new
  hushed_env called (inr post) = hushed_post called.call called.stages called.mails post
  hushed_env called (inl same) =
      let is : p ≡ new = λ i. record { world = sym same.0 i; stages = sym called.stages i; mails = sym called.mails i; boxes = sym same.1 i } in
      subst IsHushed is h

  module _ (c : ℕ) (there : is_cpu (shown w.kernel) c ≡ true) where
    -- the look
    module _ (look : IsLook p c new) where
      is : new.world ≡ published w c
      is = looks w c look.told new.world there look.step

      abbrev items : List Item
      items = content w.kernel c

      abbrev left : Bool → List ℕ
      left b = if b then [] else others c w.kernel.limits.cpus

      sent_look : (k : ℕ) (set : Set) → slice_get w.sent k ≡ Some set → slice_get new.world.sent k ≡ Some set
      sent_look k set e = ap (λ (v : PlainWorld). slice_get v.sent k) is ∙ sent_more w.sent (pairs_in items ∷ []) k set e

      clean_look : (d t : ℕ) → IsClean p d t → IsClean new d t
      clean_look d t = clean_on d t (λ e. sym (ap (λ (b : ℕ → List Note). b d) look.boxes) ∙ e) (ap (λ (m : ℕ → List ℕ). m d) look.mails) sent_look

      known_look : (d t n : ℕ) → has (w.agents d).known t n ≡ true → has (new.world.agents d).known t n ≡ true
      known_look d t n k = ap (λ (v : PlainWorld). has (v.agents d).known t n) is ∙ elim (cases_eq d c) [
        | inl own ↦ ap (λ m. has ((published w c).agents m).known t n) own ∙ ap (λ (a : PlainAgent). has a.known t n) (at_same w.agents c (sent_after (kinds w.kernel) c items (w.agents c)))
            ∙ has_more (w.agents c).known (pairs_in items) t n (ap (λ m. has (w.agents m).known t n) (sym own) ∙ k)
        | inr o ↦ ap (λ (a : PlainAgent). has a.known t n) (at_other w.agents c d (sent_after (kinds w.kernel) c items (w.agents c)) o) ∙ k
      ]

      known_now : (t n : ℕ) → has (pairs_in items) t n ≡ true → has (new.world.agents c).known t n ≡ true
      known_now t n k = ap (λ (v : PlainWorld). has (v.agents c).known t n) is ∙ ap (λ (a : PlainAgent). has a.known t n) (at_same w.agents c (sent_after (kinds w.kernel) c items (w.agents c))) ∙ has_added (w.agents c).known (pairs_in items) t n k

      -- what was unsent stays so, or stands in the queue that was looked at
      unsent_look : (t n : ℕ) → IsUnsent w t n → IsUnsent new.world t n ⊎ (has (pairs_in items) t n ≡ true)
      unsent_look t n u = elim (cases_eq u.0 c) [
        | inl own ↦ inr (has_behind (w.kernel.eaten c) (w.agents c).sent_items (items_to w.kernel c) t n (ap (λ q. has (pairs_in (unsent w q)) t n) (sym own) ∙ u.1))
        | inr o ↦ inl (u.0, ap (λ (v : PlainWorld). has (pairs_in (unsent v u.0)) t n) is ∙ ap (λ (a : PlainAgent). has (pairs_in (drop (w.kernel.eaten u.0 + a.sent_items) (items_to w.kernel u.0))) t n) (at_other w.agents c u.0 (sent_after (kinds w.kernel) c items (w.agents c)) o) ∙ u.1)
      ]

      goes_out : (d t n : ℕ) → is_cpu (shown w.kernel) d ≡ true → has (pairs_in items) t n ≡ true → IsClean new d t ⊎ IsComing new d t
      goes_out d t n low told = elim (cases_eq d c) [
        | inl own ↦ inl (clean_look d t (subst (λ m. IsClean p m t) (sym (own ∙ at_home laws limits w good c t n told)) (h.homely t)))
        | inr o ↦ inr (inr (
          length w.sent,
          n,
          (pairs_in items, ap (λ (v : PlainWorld). slice_get v.sent (length w.sent)) is ∙ get_last w.sent (pairs_in items), told),
          record {
            sender = c;
            n = aseq w.kernel c;
            left = others c w.kernel.limits.cpus;
            at_put = ap (λ (f : ℕ → Stage). f c) look.stages ∙ at_same p.stages c (puts (aseq w.kernel c) (length w.sent) (left (tells_none (pairs_in items))))
                ∙ ap (λ b. puts (aseq w.kernel c) (length w.sent) (left b)) (tells_some (pairs_in items) t n told);
            among = others_all c w.kernel.limits.cpus d low o;
          },
        ))
      ]

      hushed_look : IsHushed new
      hushed_look = record {
        held = λ d k among. let old = h.held d k (subst (λ (m : ℕ → List ℕ). IsAmong k (m d)) look.mails among) in (old.0, sent_look k old.0 old.1);
        knows = λ t n told.
            let home : new.world.kernel.home t ≡ w.kernel.home t = ap (λ (v : PlainWorld). v.kernel.home t) is in
            elim (h.knows t n (subst (λ (v : PlainWorld). IsInRun (kinds v.kernel) t n) is told)) [
              | inl k ↦ inl (ap (λ m. has (new.world.agents m).known t n) home ∙ known_look (w.kernel.home t) t n k)
              | inr u ↦ elim (unsent_look t n u) [
                | inl still ↦ inr still
                | inr now ↦ inl (ap (λ m. has (new.world.agents m).known t n) (home ∙ sym (at_home laws limits w good c t n now)) ∙ known_now t n now)
              ]
            ];
        homely = λ t. subst (λ m. IsClean new m t) (sym (ap (λ (v : PlainWorld). v.kernel.home t) is)) (clean_look (w.kernel.home t) t (h.homely t));
        hushed = λ d t there_d may.
            let low = subst (λ (v : PlainWorld). is_cpu (shown v.kernel) d ≡ true) is there_d in
            by_was d t low (h.hushed d t low (subst (λ v. May v d t) is may));
      }
        where
          by_was : (d t : ℕ) → is_cpu (shown w.kernel) d ≡ true → IsClean p d t ⊎ IsComing p d t → IsClean new d t ⊎ IsComing new d t
          by_was d t low (inl clean) = inl (clean_look d t clean)
          by_was d t low (inr (inl u)) = elim (unsent_look t u.0 u.1) [
            | inl still ↦ inr (inl (u.0, still))
            | inr now ↦ goes_out d t u.0 low now
          ]
          by_was d t low (inr (inr k)) = inr (inr (k.0, k.1, (k.2.0, sent_look k.0 k.2.0 k.2.1, k.2.2), look_puts p new c look d k.0 k.3))

    -- a note
    hushed_take : IsTake p c new → IsHushed new
    hushed_take take = record {
      held = λ d k among. let old = h.held d k (mail_was d k (cases_eq d c) (subst (λ (m : ℕ → List ℕ). IsAmong k (m d)) take.mails among)) in (old.0, did.sent k old.0 old.1);
      knows = λ t n told. elim (h.knows t n (subst (λ (P : PlainKernel). IsInRun (kinds P) t n) did.kernel told)) [
        | inl k ↦ inl (ap (λ (P : PlainKernel). has (new.world.agents (P.home t)).known t n) did.kernel ∙ did.known (w.kernel.home t) t n k)
        | inr u ↦ inr (unsent_take t n u)
      ];
      homely = λ t. subst (λ (P : PlainKernel). IsClean new (P.home t) t) (sym did.kernel) (clean_take (w.kernel.home t) t (h.homely t));
      hushed = λ d t there_d may. elim (h.hushed d t (subst (λ (P : PlainKernel). is_cpu (shown P) d ≡ true) did.kernel there_d) (subst (λ (P : PlainKernel). may_run (state_of (kinds P t)) d ≡ true) did.kernel may)) [
        | inl clean ↦ inl (clean_take d t clean)
        | inr coming ↦ inr (coming_on d t (unsent_take t) did.sent (take_puts p new c take d) coming)
      ];
    }
      where
        did : Taken w c (at p.boxes c (take.before ++ take.behind)) new.world new.boxes
        did = take_does laws limits p new good keeps c there take

        mail_was : (d k : ℕ) → (d ≡ c) ⊎ (d ≡ c → ⊥) → IsAmong k (at p.mails c [] d) → IsAmong k (p.mails d)
        mail_was d k (inr o) isin = subst (IsAmong k) (at_other p.mails c d [] o) isin
        mail_was d k (inl own) isin = let none : IsAmong k [] = subst (IsAmong k) (ap (at p.mails c []) own ∙ at_same p.mails c []) isin in absurd none

        unsent_take : (t n : ℕ) → IsUnsent w t n → IsUnsent new.world t n
        unsent_take t n u = (
          u.0,
          ap (λ (P : PlainKernel). has (pairs_in (drop (P.eaten u.0 + (new.world.agents u.0).sent_items) (items_to P u.0))) t n) did.kernel ∙ ap (λ k. has (pairs_in (drop (w.kernel.eaten u.0 + k) (items_to w.kernel u.0))) t n) (did.items u.0) ∙ u.1,
        )

        clean_take : (d t : ℕ) → IsClean p d t → IsClean new d t
        clean_take d t was = elim (cases_eq d c) [
          | inl own ↦ λ empty k n among tells.
              let none : IsAmong k [] = subst (IsAmong k) (ap (λ (m : ℕ → List ℕ). m d) take.mails ∙ ap (at p.mails c []) own ∙ at_same p.mails c []) among in
              none
          | inr o ↦ clean_on d t (empty_at (p.boxes d) (new.boxes d) (take_grows laws limits p new good keeps c there take d o)) (ap (λ (m : ℕ → List ℕ). m d) take.mails ∙ at_other p.mails c d [] o) did.sent was
        ]

    -- the act
    module _ (act : IsAct p c new) where
      calm : Calm c w new.world
      calm = act_calm laws limits p new good keeps c there act

      kinds_act : (t : ℕ) → kinds new.world.kernel t ≡ kinds w.kernel t
      kinds_act t = ap (λ posts. filter_map (λ (one : Post). kind_in t one.item) posts) calm.posts

      boxes_act : (d : ℕ) → new.boxes d ≡ [] → p.boxes d ≡ []
      boxes_act = empty_before p.boxes new.boxes (act_grows laws limits p new good keeps c there act)

      sent_act : (k : ℕ) (set : Set) → slice_get w.sent k ≡ Some set → slice_get new.world.sent k ≡ Some set
      sent_act k set e = ap (λ sent. slice_get sent k) calm.sent ∙ e

      clean_act : (d t : ℕ) → IsClean p d t → IsClean new d t
      clean_act d t = clean_on d t (boxes_act d) (ap (λ (m : ℕ → List ℕ). m d) act.mails) sent_act

      unsent_act : (t n : ℕ) → IsUnsent w t n → IsUnsent new.world t n
      unsent_act t n u = (u.0, ap (λ k. has (pairs_in (drop k (items_to new.world.kernel u.0))) t n) (calm.passes u.0) ∙ ap (λ posts. has (pairs_in (drop (passed w u.0) (filter_map (item_to u.0) posts))) t n) calm.posts ∙ u.1)

      put_act : (d k : ℕ) → IsToBePut p d k → IsToBePut new d k
      put_act d k put = put_stays p new c act.n act.k [] (behind_sleep act.told) act.has_read act.stages d k (λ same among. absurd among) put

      -- of a thread that was taken nothing is still to come
      none_coming : (t : ℕ) → Took c w t → IsComing p c t → ⊥
      none_coming t took (inl u) =
          let q = u.1.0 in
          let held = has_behind (w.kernel.eaten q) (w.agents q).sent_items (items_to w.kernel q) t u.0 u.1.1 in
          let home = at_home laws limits w good q t u.0 held in
          took.unsent (ap (is_cpu (shown w.kernel)) (sym home) ∙ queue_is_there laws limits w good q t u.0 held) u.0 (ap (λ q. has (pairs_in (unsent w q)) t u.0) (sym home) ∙ u.1.1)
      none_coming t took (inr k) =
          let put = k.3 in
          let stands = putting.stands put.sender put.n k.0 c put.left put.at_put put.among in
          let same : stands.0 ≡ k.2.0 = same_Some stands.0 k.2.0 (sym stands.1 ∙ k.2.1) in
          let held = stands.2 t k.1 (ap (λ s. has s t k.1) same ∙ k.2.2) in
          let home = at_home laws limits w good put.sender t k.1 held in
          took.elsewhere (ap (is_cpu (shown w.kernel)) (sym home) ∙ queue_is_there laws limits w good put.sender t k.1 held) (λ own. putting.other put.sender put.n k.0 c put.left put.at_put put.among (sym own ∙ sym home)) k.1
          (ap (λ q. has (pairs_in (content w.kernel q)) t k.1) (sym home) ∙ held)

      took_clean : (t : ℕ) → Took c w t → IsClean p c t
      took_clean t took = elim (h.hushed c t there (ap (λ s. may_run s c) (sym (reports_all laws w.kernel c (w.agents c) t took.whole)) ∙ took.runs)) [
        | inl clean ↦ clean
        | inr coming ↦ absurd (none_coming t took coming)
      ]

      took_knows : (t n : ℕ) → Took c w t → IsInRun (kinds w.kernel) t n → has (w.agents c).known t n ≡ true
      took_knows t n took told =
          let whole = took.whole in
          let high = told.1 in
          (greatest (w.agents c).known t n).0 (omega arith) n told.0 (omega arith)

      hushed_act : IsHushed new
      hushed_act = record {
        held = λ d k among. let old = h.held d k (subst (λ (m : ℕ → List ℕ). IsAmong k (m d)) act.mails among) in (old.0, sent_act k old.0 old.1);
        knows = λ t n told.
            let run : IsInRun (kinds w.kernel) t n = (told.0, subst (λ ks. n ≤ length ks) (kinds_act t) told.1) in
            elim (calm.home t) [
              | inl same ↦ elim (h.knows t n run) [
                | inl k ↦ inl (ap (λ m. has (new.world.agents m).known t n) same ∙ ap (λ s. has s t n) (calm.known (w.kernel.home t)) ∙ k)
                | inr u ↦ inr (unsent_act t n u)
              ]
              | inr took ↦ inl (ap (λ m. has (new.world.agents m).known t n) took.0 ∙ ap (λ s. has s t n) (calm.known c) ∙ took_knows t n took.1 run)
            ];
        homely = λ t. elim (calm.home t) [
          | inl same ↦ subst (λ m. IsClean new m t) (sym same) (clean_act (w.kernel.home t) t (h.homely t))
          | inr took ↦ subst (λ m. IsClean new m t) (sym took.0) (clean_act c t (took_clean t took.1))
        ];
        hushed = λ d t there_d may. elim (h.hushed d t (sym (ap (λ (l : Limits). nat_lt d l.cpus) calm.limits) ∙ there_d) (ap (λ ks. may_run (state_of ks) d) (sym (kinds_act t)) ∙ may)) [
          | inl clean ↦ inl (clean_act d t clean)
          | inr coming ↦ inr (coming_on d t (unsent_act t) sent_act (put_act d) coming)
        ];
      }

    hushed_agent : IsLook p c new ⊎ (IsPut p c new ⊎ (IsAct p c new ⊎ IsTake p c new)) → IsHushed new
    hushed_agent (inl look) = hushed_look look
    hushed_agent (inr (inl put)) = hushed_put c there put
    hushed_agent (inr (inr (inl act))) = hushed_act act
    hushed_agent (inr (inr (inr take))) = hushed_take take

  -- a note that is forgotten
  module _ (f : IsForgotten p new) where
    clean_forgotten : (d t : ℕ) → IsClean p d t → IsClean new d t
    clean_forgotten d t = clean_on d t (forgets_back p new f d) (ap (λ (m : ℕ → List ℕ). m d) f.mails) (λ k set e. ap (λ (v : PlainWorld). slice_get v.sent k) f.world ∙ e)

    hushed_forgotten : IsHushed new
    hushed_forgotten = record {
      held = λ d k among. subst (λ (v : PlainWorld). (set : Set) × (slice_get v.sent k ≡ Some set)) (sym f.world) (h.held d k (subst (λ (m : ℕ → List ℕ). IsAmong k (m d)) f.mails among));
      knows = subst (λ (v : PlainWorld). (t n : ℕ) → IsInRun (kinds v.kernel) t n → (has (v.agents (v.kernel.home t)).known t n ≡ true) ⊎ IsUnsent v t n) (sym f.world) h.knows;
      homely = λ t. subst (λ (v : PlainWorld). IsClean new (v.kernel.home t) t) (sym f.world) (clean_forgotten (w.kernel.home t) t (h.homely t));
      hushed = λ d t there may. elim (h.hushed d t (subst (λ (v : PlainWorld). is_cpu (shown v.kernel) d ≡ true) f.world there) (subst (λ v. May v d t) f.world may)) [
        | inl clean ↦ inl (clean_forgotten d t clean)
        | inr coming ↦ inr (coming_on d t (λ n. subst (λ v. IsUnsent v t n) (sym f.world)) (λ k set e. ap (λ (v : PlainWorld). slice_get v.sent k) f.world ∙ e) (put_same p new f.stages d) coming)
      ];
    }

  hushed_goes : Goes p new → IsHushed new
  hushed_goes (inl called) = hushed_env called (env_does p new called)
  hushed_goes (inr (inl f)) = hushed_forgotten f
  hushed_goes (inr (inr of)) = hushed_agent of.0 of.1.there of.1.step

pub hushed : KernelLaws → IsGreatest → (rules : ℕ → Rules) (limits : Limits) (p : Protocol) → Comes rules limits p → IsHushed p
hushed laws greatest rules limits p starts = hushed_start rules limits
hushed laws greatest rules limits p (goes_on {p = old} comes goes) =
    hushed_goes laws greatest limits old p (reached_good laws limits old.world (reaches laws rules limits old comes)) (kept laws rules limits old comes) (Putting.putting laws rules limits old comes) (hushed laws greatest rules limits old comes) goes
