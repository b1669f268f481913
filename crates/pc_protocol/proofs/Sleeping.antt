-- An agent that waits, and to which no note is under way, is asleep, and its queue is empty.
use Rattle.std.proofs.Common.{◌≡◌, ◌⊎◌, ◌+◌, ◌-◌, ℕ, nat_lt, true, List, [], ◌∷◌, ◌++◌, length, drop, Option, Some, None, is_some, if◌then◌else◌, refl, sym, ◌∙◌, ap, subst, inl, inr, arith}
use Rattle.std.proofs.Math.ListN.{drop_of_length-le}
use Rattle.std.proofs.lemmas.Bool.{cases_eq}
use Rattle.std.proofs.lemmas.List.{append-nil, length-drop}
use Rattle.pc_messages.specs.declared.message.Item.{Item}
use Rattle.pc_messages.specs.Items.{pairs_in}
use Rattle.pc_calls.specs.declared.call.EnvCall.{EnvCall}
use Rattle.pc_calls.specs.declared.limits.Limits.{Limits}
use Rattle.pc_kernel.specs.PlainKernel.{PlainKernel, aseq, content, items_to}
use Rattle.pc_kernel.specs.Reads.{shown, is_cpu}
use Rattle.pc_kernel.specs.Steps.{Posting, accepted, after_of, at, changed, posted, posting, refused, reply_of, roused, woken}
use Rattle.pc_kernel.specs.Steps as kernel
use Rattle.pc_kernel.proofs.Posting.{if_to_other, items_to-posted}
use Rattle.pc_agent.specs.PlainAgent.{PlainAgent}
use Rattle.pc_world.specs.PlainWorld.{PlainWorld}
use Rattle.pc_world.proofs.Places.{at_other, at_same}
use Rattle.std.specs.List.{filter_map}
use Rattle.pc_kernel.specs.PlainKernel.{item_to, kinds}
use Rattle.pc_agent.specs.Publishing.{sent_after}
use Rattle.pc_policy.specs.Rules.{Rules}
use Rattle.pc_world.specs.PlainWorld.{published}
use Rattle.pc_world.specs.Inner.Laws.{KernelLaws}
use Rattle.pc_world.proofs.Good.{IsGood, passed}
use Rattle.pc_world.proofs.Reaching.{reached_good}
use Rattle.pc_protocol.specs.Protocol.{Comes, Goes, IsAct, IsCalledByEnv, IsForgotten, IsLook, IsPut, IsTake, Note, Protocol, Stage, asks, begins, behind_sleep, goes_on, news, opening, others, puts, rousing, starts, telling, telling_others, tells_none, waits, wake}
use Rattle.pc_protocol.specs.Resting.{IsAsleep}
use Rattle.pc_protocol.proofs.Among.{IsAmong, not_empty, empty_at}
use Rattle.pc_protocol.proofs.Boxes.{Grows, empty_before, if_grows, others_grow, rousing_grows, telling_grows, telling_has}
use Rattle.pc_protocol.proofs.Calm.{Calm, acts_calm, acts_consume, calm_on, sleep_calm}
use Rattle.pc_protocol.proofs.Forgetting.{forgets_back}
use Rattle.pc_protocol.proofs.Reaching.{reaches}
use Rattle.pc_protocol.proofs.Stepping.{EnvDoes, IsBefore, IsPost, Taken, env_does, is_before, at_stage, begins_not_puts, begins_not_waits, behind_not_puts, looks, puts_not_waits, same_count, sleeps, spends, taken, taken_in, taken_on, there_on}

-- what a post leaves of a sleeper
module _ (P : PlainKernel) (q : ℕ) (it : Item) (boxes : ℕ → List Note) (target : P.target q ≡ Some q) (c : ℕ) where
  -- the queue's own agent is woken, or was awake
  pub own_sleeper : q ≡ c → rousing (woken P q) boxes c ≡ [] → is_some (P.slept c) ≡ true → ⊥
  own_sleeper e none sleeps =
      let is : woken P q ≡ Some c =
      ap (λ o. kernel.woken_of (λ d. is_some (P.slept d)) o) (target ∙ ap Some e) ∙ ap (λ b. if b then Some c else None) sleeps in
      not_empty wake (rousing (Some c) boxes c) (telling_has c wake boxes) (sym (ap (λ o. rousing o boxes c) is) ∙ none)

  other_sleeper : (q ≡ c → ⊥) → (posted P q it).slept c ≡ P.slept c
  other_sleeper o = ap (λ t. roused P.slept t c) target ∙ at_other P.slept q c None (λ e. o (sym e))

  other_items : (q ≡ c → ⊥) → items_to (posted P q it) c ≡ items_to P c
  other_items o = items_to-posted P q it c ∙ ap (λ xs. items_to P c ++ xs) (if_to_other q c it o) ∙ append-nil (items_to P c)

abbrev pub Sleeper : Protocol → ℕ → Type 0
Sleeper p c = p.stages c ≡ waits → p.boxes c ≡ [] → IsAsleep p.world c

pub post_sleeps : (p new : Protocol) (made : EnvCall) (c : ℕ) → ((q : ℕ) → p.world.kernel.target q ≡ Some q) → new.stages ≡ p.stages → IsPost p made new → Sleeper p c → Sleeper new c
post_sleeps p new made c target stages h was waiting empty =
    let K = p.world.kernel in
    let post = posting K made in
    let B = post.before in
    let q = post.queue in
    let it = post.item in
    let before = is_before K made in
    let aims : B.target q ≡ Some q = ap (λ (f : ℕ → Option ℕ). f q) before.target ∙ target q in
    let none : rousing (woken B q) p.boxes c ≡ [] = sym (ap (λ (b : ℕ → List Note). b c) h.boxes) ∙ empty in
    let slept = was (sym (ap (λ (s : ℕ → Stage). s c) stages) ∙ waiting) (empty_before p.boxes (rousing (woken B q) p.boxes) (rousing_grows (woken B q) p.boxes) c none) in
    let asleep : is_some (B.slept c) ≡ true = ap (λ (f : ℕ → Option ℕ). is_some (f c)) before.slept ∙ slept.slept in
    elim (cases_eq q c) [
      | inl e ↦ absurd (own_sleeper B q it p.boxes aims c e none asleep)
      | inr o ↦ record {
        slept = ap (λ (w : PlainWorld). is_some (w.kernel.slept c)) h.world ∙ ap is_some (other_sleeper B q it p.boxes aims c o) ∙ asleep;
        empty = ap (λ (w : PlainWorld). content w.kernel c) h.world
            ∙ ap (λ items. drop (B.eaten c) items) (other_items B q it p.boxes aims c o)
            ∙ ap (λ (Q : PlainKernel). drop (Q.eaten c) (items_to Q c)) (before_same K B before)
            ∙ slept.empty;
      }
    ]
  where
    before_same : (P Q : PlainKernel) → IsBefore P Q → Q ≡ record P { home = Q.home; on = Q.on }
    before_same P Q b = λ i. record { limits = b.limits i; posts = b.posts i; eaten = b.eaten i; target = b.target i; home = Q.home; on = Q.on; slept = b.slept i }

-- of every state
pub record IsKept (p : Protocol) : Type 0 where
  pub target : (q : ℕ) → p.world.kernel.target q ≡ Some q
  pub reading : (c n k : ℕ) (l : List ℕ) → p.stages c ≡ puts n k l → passed p.world c ≡ n
  pub asleep : (c : ℕ) → Sleeper p c

kept_same : (p new : Protocol) → new.world ≡ p.world → new.stages ≡ p.stages → new.mails ≡ p.mails → new.boxes ≡ p.boxes → IsKept p → IsKept new
kept_same p new world stages mails boxes h = subst IsKept (λ i. record { world = sym world i; stages = sym stages i; mails = sym mails i; boxes = sym boxes i }) h

kept_start : (rules : ℕ → Rules) (limits : Limits) → IsKept (opening rules limits)
kept_start rules limits = record {
  target = λ q. refl;
  reading = λ c n k l e. absurd (begins_not_puts n k l e);
  asleep = λ c e. absurd (begins_not_waits e);
}

kept_post : (p new : Protocol) (made : EnvCall) → new.stages ≡ p.stages → IsPost p made new → IsKept p → IsKept new
kept_post p new made stages post h =
    let K = p.world.kernel in
    let before = is_before K made in
    record {
      target = λ q. ap (λ (w : PlainWorld). w.kernel.target q) post.world ∙ ap (λ (f : ℕ → Option ℕ). f q) before.target ∙ h.target q;
      reading = λ c n k l e.
          ap (λ (w : PlainWorld). passed w c) post.world
          ∙ ap (λ (f : ℕ → ℕ). f c + (p.world.agents c).sent_items) before.eaten
          ∙ h.reading c n k l (sym (ap (λ (s : ℕ → Stage). s c) stages) ∙ e);
      asleep = λ c. post_sleeps p new made c h.target stages post (h.asleep c);
    }

asleep_still : (w new : PlainWorld) (c : ℕ) → new.kernel ≡ w.kernel → IsAsleep w c → IsAsleep new c
asleep_still w new c same h = record {
  slept = ap (λ (P : PlainKernel). is_some (P.slept c)) same ∙ h.slept;
  empty = ap (λ (P : PlainKernel). content P c) same ∙ h.empty;
}

module _ (laws : KernelLaws) (limits : Limits) (p new : Protocol) (good : IsGood limits p.world) (h : IsKept p) (c : ℕ) (there : is_cpu (shown p.world.kernel) c ≡ true) where
  abbrev w : PlainWorld
  w = p.world

  pub stage_of : (s : Stage) → new.stages ≡ at p.stages c s → (d : ℕ) (x : Stage) → new.stages d ≡ x → ((d ≡ c) × (s ≡ x)) ⊎ ((d ≡ c → ⊥) × (p.stages d ≡ x))
  stage_of s stages d x e = at_stage p.stages c s d x (sym (ap (λ (f : ℕ → Stage). f d) stages) ∙ e)

  -- the look
  all_read : passed (published w c) c ≡ aseq w.kernel c
  all_read =
      let items = content w.kernel c in
      let size : length items ≡ aseq w.kernel c - w.kernel.eaten c = length-drop (w.kernel.eaten c) (items_to w.kernel c) in
      let count : ((published w c).agents c).sent_items ≡ length items = ap (λ (a : PlainAgent). a.sent_items) (at_same w.agents c (sent_after (kinds w.kernel) c items (w.agents c))) in
      let few = good.few c in
      omega arith

  abbrev to_put : List ℕ
  to_put = if tells_none (pairs_in (content w.kernel c)) then [] else others c w.kernel.limits.cpus

  kept_look : IsLook p c new → IsKept new
  kept_look look =
      let is : new.world ≡ published w c = looks w c look.told new.world there look.step in
      let same : new.world.kernel ≡ w.kernel = ap (λ (v : PlainWorld). v.kernel) is in
      let s = puts (aseq w.kernel c) (length w.sent) to_put in
      record {
        target = λ q. ap (λ (P : PlainKernel). P.target q) same ∙ h.target q;
        reading = λ d n k l e. elim (stage_of s look.stages d (puts n k l) e) [
          | inl own ↦ ap (λ (v : PlainWorld). passed v d) is ∙ ap (passed (published w c)) own.0 ∙ all_read ∙ same_count (aseq w.kernel c) n (length w.sent) k to_put l own.1
          | inr o ↦
              ap (λ (v : PlainWorld). passed v d) is
              ∙ ap (λ (a : PlainAgent). w.kernel.eaten d + a.sent_items) (at_other w.agents c d (sent_after (kinds w.kernel) c (content w.kernel c) (w.agents c)) o.0)
              ∙ h.reading d n k l o.1
        ];
        asleep = λ d e none. elim (stage_of s look.stages d waits e) [
          | inl own ↦ absurd (puts_not_waits (aseq w.kernel c) (length w.sent) to_put own.1)
          | inr o ↦ asleep_still w new.world d same (h.asleep d o.1 (sym (ap (λ (b : ℕ → List Note). b d) look.boxes) ∙ none))
        ];
      }

  -- the put
  pub put_grows : IsPut p c new → Grows p.boxes new.boxes
  put_grows put =
      let more = telling put.to news p.boxes in
      subst (Grows p.boxes) (sym put.boxes) (if_grows put.quiet p.boxes p.boxes more (λ d note h. h) (telling_grows put.to news p.boxes))

  kept_put : IsPut p c new → IsKept new
  kept_put put =
      let same : new.world.kernel ≡ w.kernel = ap (λ (v : PlainWorld). v.kernel) put.world in
      let rest = put.before ++ put.behind in
      let s = puts put.n put.k rest in
      record {
        target = λ q. ap (λ (P : PlainKernel). P.target q) same ∙ h.target q;
        reading = λ d n k l e. ap (λ (v : PlainWorld). passed v d) put.world ∙ elim (stage_of s put.stages d (puts n k l) e) [
          | inl own ↦ ap (passed w) own.0 ∙ h.reading c put.n put.k (put.before ++ put.to ∷ put.behind) put.at_put ∙ same_count put.n n put.k k rest l own.1
          | inr o ↦ h.reading d n k l o.1
        ];
        asleep = λ d e none. elim (stage_of s put.stages d waits e) [
          | inl own ↦ absurd (puts_not_waits put.n put.k rest own.1)
          | inr o ↦ asleep_still w new.world d same (h.asleep d o.1 (empty_before p.boxes new.boxes (put_grows put) d none))
        ];
      }

  -- the act
  pub act_grows : IsAct p c new → Grows p.boxes new.boxes
  act_grows act =
      let note = asks c (act.acted.agents c).known in
      subst (Grows p.boxes) (sym act.boxes) (if_grows act.asking p.boxes (telling_others c note p.boxes) p.boxes (others_grow c note p.boxes) (λ d note h. h))

  pub act_calm : (act : IsAct p c new) → Calm c w new.world
  act_calm act =
      calm_on c w act.acted new.world (acts_calm laws w c act.n act.asking act.acted act.acts) (sleep_calm c act.n act.acted new.world act.told act.sleeps)

  pub all_spent : (act : IsAct p c new) → (act.acted.agents c).sent_items ≡ 0
  all_spent act =
      let did = acts_consume laws w c act.n act.asking act.acted act.acts in
      did.calm.spent (spends laws limits w c did.taken did.between good there did.consume)

  pub still_there : (act : IsAct p c new) → is_cpu (shown act.acted.kernel) c ≡ true
  still_there act = ap (λ (l : Limits). nat_lt c l.cpus) (acts_calm laws w c act.n act.asking act.acted act.acts).limits ∙ there

  pub falls_asleep : (act : IsAct p c new) → behind_sleep act.told ≡ waits → IsAsleep new.world c
  falls_asleep act waiting =
      let v = act.acted in
      let did = sleeps laws v c act.n act.told new.world (still_there act) act.sleeps waiting in
      let calm = acts_calm laws w c act.n act.asking v act.acts in
      let before : passed w c ≡ act.n = h.reading c act.n act.k [] act.has_read in
      let same : passed v c ≡ passed w c = calm.passes c in
      let none : (v.agents c).sent_items ≡ 0 = all_spent act in
      let count : act.n ≡ aseq v.kernel c = did.count in
      record {
        slept = ap (λ (x : PlainWorld). is_some (x.kernel.slept c)) did.is ∙ ap is_some (at_same v.kernel.slept c (Some act.n));
        empty = ap (λ (x : PlainWorld). content x.kernel c) did.is ∙ drop_of_length-le (items_to v.kernel c) (omega arith);
      }

  kept_act : IsAct p c new → IsKept new
  kept_act act =
      let calm = act_calm act in
      let s = behind_sleep act.told in
      record {
        target = λ q. ap (λ (f : ℕ → Option ℕ). f q) calm.target ∙ h.target q;
        reading = λ d n k l e. elim (stage_of s act.stages d (puts n k l) e) [
          | inl own ↦ absurd (behind_not_puts act.told n k l own.1)
          | inr o ↦ calm.passes d ∙ h.reading d n k l o.1
        ];
        asleep = λ d e none. elim (stage_of s act.stages d waits e) [
          | inl own ↦ subst (IsAsleep new.world) (sym own.0) (falls_asleep act own.1)
          | inr o ↦
              let was = h.asleep d o.1 (empty_before p.boxes new.boxes (act_grows act) d none) in
              record {
                slept = ap is_some (calm.slept d o.0) ∙ was.slept;
                empty = ap (λ k. drop k (items_to new.world.kernel d)) (calm.eaten d o.0) ∙ ap (λ posts. drop (w.kernel.eaten d) (filter_map (item_to d) posts)) calm.posts ∙ was.empty;
              }
        ];
      }

  -- a note is taken
  pub take_does : (take : IsTake p c new) → Taken w c (at p.boxes c (take.before ++ take.behind)) new.world new.boxes
  take_does take =
      let rest = at p.boxes c (take.before ++ take.behind) in
      let reads = taken_in w c rest (p.mails c) take.read there take.reads in
      taken_on w take.read new.world c rest new.boxes reads (taken take.read c rest take.note new.world new.boxes (there_on w take.read c reads.kernel there) take.takes)

  pub take_grows : (take : IsTake p c new) (d : ℕ) → (d ≡ c → ⊥) → (note : Note) → IsAmong note (p.boxes d) → IsAmong note (new.boxes d)
  take_grows take d o note h = (take_does take).grows d note (subst (IsAmong note) (sym (at_other p.boxes c d (take.before ++ take.behind) o)) h)

  kept_take : IsTake p c new → IsKept new
  kept_take take =
      let did = take_does take in
      record {
        target = λ q. ap (λ (P : PlainKernel). P.target q) did.kernel ∙ h.target q;
        reading = λ d n k l e. elim (stage_of begins take.stages d (puts n k l) e) [
          | inl own ↦ absurd (begins_not_puts n k l own.1)
          | inr o ↦
              let eaten : new.world.kernel.eaten d ≡ w.kernel.eaten d = ap (λ (P : PlainKernel). P.eaten d) did.kernel in
              let items = did.items d in
              let was : passed w d ≡ n = h.reading d n k l o.1 in
              omega arith
        ];
        asleep = λ d e none. elim (stage_of begins take.stages d waits e) [
          | inl own ↦ absurd (begins_not_waits own.1)
          | inr o ↦ asleep_still w new.world d did.kernel (h.asleep d o.1 (empty_at (p.boxes d) (new.boxes d) (take_grows take d o.0) none))
        ];
      }

  kept_agent : IsLook p c new ⊎ (IsPut p c new ⊎ (IsAct p c new ⊎ IsTake p c new)) → IsKept new
  kept_agent (inl look) = kept_look look
  kept_agent (inr (inl put)) = kept_put put
  kept_agent (inr (inr (inl act))) = kept_act act
  kept_agent (inr (inr (inr take))) = kept_take take

kept_env : (p new : Protocol) (called : IsCalledByEnv p new) → EnvDoes p called.call new → IsKept p → IsKept new
kept_env p new called (inl same) h = kept_same p new same.0 called.stages called.mails same.1 h
kept_env p new called (inr post) h = kept_post p new called.call called.stages post h

kept_forgotten : (p new : Protocol) → IsForgotten p new → IsKept p → IsKept new
kept_forgotten p new f h = record {
  target = λ q. ap (λ (w : PlainWorld). w.kernel.target q) f.world ∙ h.target q;
  reading = λ c n k l e. ap (λ (w : PlainWorld). passed w c) f.world ∙ h.reading c n k l (sym (ap (λ (s : ℕ → Stage). s c) f.stages) ∙ e);
  asleep = λ c e none. asleep_still p.world new.world c (ap (λ (w : PlainWorld). w.kernel) f.world)
      (h.asleep c (sym (ap (λ (s : ℕ → Stage). s c) f.stages) ∙ e) (forgets_back p new f c none));
}

kept_goes : KernelLaws → (limits : Limits) (p new : Protocol) → IsGood limits p.world → IsKept p → Goes p new → IsKept new
kept_goes laws limits p new good h (inl called) = kept_env p new called (env_does p new called) h
kept_goes laws limits p new good h (inr (inl f)) = kept_forgotten p new f h
kept_goes laws limits p new good h (inr (inr of)) = kept_agent laws limits p new good h of.0 of.1.there of.1.step

pub kept : KernelLaws → (rules : ℕ → Rules) (limits : Limits) (p : Protocol) → Comes rules limits p → IsKept p
kept laws rules limits p starts = kept_start rules limits
kept laws rules limits p (goes_on {p = old} comes goes) =
    kept_goes laws limits old p (reached_good laws limits old.world (reaches laws rules limits old comes)) (kept laws rules limits old comes) goes
