-- What a step of an agent does, in the words that the invariants use.
use Rattle.std.proofs.Common.{◌≡◌, ◌⊎◌, ◌==◌, ◌&&◌, ◌||◌, ℕ, Bool, true, false, not, List, [], ◌∷◌, ◌++◌, length, Option, Some, None, slice_get, refl, sym, ◌∙◌, ap, subst, inl, inr, arith}
use Rattle.std.proofs.lemmas.Bool.{MatchBool-at_true}
use Rattle.std.proofs.lemmas.Bool.Decides.{eqb_tells, nat_tests}
use Rattle.std.proofs.lemmas.Option.{slice_get_within}
use Rattle.pc_calls.specs.declared.call.AgentCall.TheVariants.{Sleep}
use Rattle.pc_calls.specs.declared.call.Answer.TheVariants.{Done}
use Rattle.pc_calls.specs.declared.call.Call.TheVariants as call
use Rattle.pc_calls.specs.declared.call.EnvCall.{EnvCall}
use Rattle.pc_calls.specs.declared.call.EnvCall.TheVariants as env
use Rattle.pc_calls.specs.declared.event.Event.TheVariants as event
use Rattle.pc_calls.specs.declared.event.Reply.{Reply}
use Rattle.pc_calls.specs.declared.event.Reply.TheVariants as reply
use Rattle.pc_calls.specs.declared.limits.Limits.{Limits}
use Rattle.pc_calls.specs.declared.refusal.Refusal.{Refusal}
use Rattle.pc_calls.specs.declared.refusal.Refusal.TheVariants as refusal
use Rattle.pc_calls.specs.Conditions.{first_of}
use Rattle.pc_calls.specs.Events.{told_of}
use Rattle.pc_join.specs.Sets.{has}
use Rattle.pc_messages.proofs.Bools.{or_left, or_right}
use Rattle.std.proofs.lemmas.List.Folds.{list_any-append}
use Rattle.pc_kernel.specs.PlainKernel.{PlainKernel, aseq}
use Rattle.pc_kernel.specs.Reads.{shown, is_cpu}
use Rattle.pc_kernel.specs.Reads as reads
use Rattle.pc_kernel.specs.Steps.{accepted, after_of, at, changed, posting, refused, reply_of, woken}
use Rattle.pc_agent.specs.PlainAgent.{PlainAgent, Set, taking_in}
use Rattle.pc_world.specs.PlainWorld.{PlainWorld, published, with_agent}
use Rattle.pc_world.specs.Steps.{IsBadCpu, IsConsumed, IsDelivered, IsPublished, Step}
use Rattle.pc_world.specs.Inner.Laws.{KernelLaws}
use Rattle.pc_world.proofs.Exactly.{consume_accepted}
use Rattle.pc_world.proofs.Good.{IsGood}
use Rattle.pc_world.proofs.Pairs.{get_appended}
use Rattle.pc_world.proofs.Places.{at_other, at_same}
use Rattle.pc_protocol.specs.Protocol.{IsCalledByEnv, Note, Protocol, Takes, TakesIn, answer, answers, begins, behind_sleep, learns, puts, roused, summoned, rousing, waits, woken_in}
use Rattle.pc_protocol.proofs.Boxes.{Grows, telling_grows}

-- the stage of an agent whose stage, or another's, is set
pub at_stage : {X : Type 0} (f : ℕ → X) (c : ℕ) (s : X) (d : ℕ) (x : X) → at f c s d ≡ x → ((d ≡ c) × (s ≡ x)) ⊎ ((d ≡ c → ⊥) × (f d ≡ x))
at_stage f c s d x e = elim (eqb_tells d c) [
  | inl h ↦ inl (h.1, sym (at_same f c s) ∙ ap (at f c s) (sym h.1) ∙ e)
  | inr h ↦ inr (h.1, sym (at_other f c d s h.1) ∙ e)
]

pub waits_not_puts : (n k : ℕ) (l : List ℕ) → waits ≡ puts n k l → ⊥
waits_not_puts n k l e = cc

pub begins_not_puts : (n k : ℕ) (l : List ℕ) → begins ≡ puts n k l → ⊥
begins_not_puts n k l e = cc

pub begins_not_waits : begins ≡ waits → ⊥
begins_not_waits e = cc

pub puts_not_waits : (n k : ℕ) (l : List ℕ) → puts n k l ≡ waits → ⊥
puts_not_waits n k l e = cc

pub same_count : (n m k j : ℕ) (l r : List ℕ) → puts n k l ≡ puts m j r → n ≡ m
same_count n m k j l r e = cc

pub same_index : (n m k j : ℕ) (l r : List ℕ) → puts n k l ≡ puts m j r → k ≡ j
same_index n m k j l r e = cc

pub same_left : (n m k j : ℕ) (l r : List ℕ) → puts n k l ≡ puts m j r → l ≡ r
same_left n m k j l r e = cc

pub behind_not_puts : (told : Reply) (n k : ℕ) (l : List ℕ) → behind_sleep told ≡ puts n k l → ⊥
behind_not_puts reply.Done n k l e = waits_not_puts n k l e
behind_not_puts other n k l e = begins_not_puts n k l e

-- the look
pub looks : (w : PlainWorld) (c : ℕ) (told : Reply) (new : PlainWorld) → is_cpu (shown w.kernel) c ≡ true → Step w (event.Publish c false) told new → new ≡ published w c
looks w c told new there step = (MatchBool-at_true (IsPublished w c false told new) (IsBadCpu w told new) there step).1

-- the consume
pub spends : (laws : KernelLaws) (limits : Limits) (w : PlainWorld) (c : ℕ) (told : Reply) (new : PlainWorld) → IsGood limits w → is_cpu (shown w.kernel) c ≡ true → Step w (event.Consume c) told new → (new.agents c).sent_items ≡ 0
spends laws limits w c told new good there step =
    let made = call.Consume c (w.agents c).sent_items in
    let did = MatchBool-at_true (IsConsumed w c (reply_of (refused (shown w.kernel) made) Done) told new) (IsBadCpu w told new) there step in
    let took = subst (λ o. IsConsumed w c (reply_of o Done) told new) (consume_accepted laws limits w good c there) did in
    ap (λ (v : PlainWorld). (v.agents c).sent_items) took.1 ∙ ap (λ (a : PlainAgent). a.sent_items) (at_same w.agents c (record (w.agents c) { sent_items = 0 }))

-- the sleep, where it was accepted
pub record Slept (w : PlainWorld) (c n : ℕ) (new : PlainWorld) : Type 0 where
  pub count : n ≡ aseq w.kernel c
  pub is : new ≡ record w { kernel = record w.kernel { slept = at w.kernel.slept c (Some n) } }

second_not : (a b : Bool) (x y : Refusal) → first_of ((a, x) ∷ (not b, y) ∷ []) ≡ None → b ≡ true
second_not true b x y e = cc
second_not false true x y e = refl
second_not false false x y e = cc

pub equals : (a b : ℕ) → (a == b) ≡ true → a ≡ b
equals a b e = grind (arith, nat_tests)

refused_begins : (why : Refusal) → behind_sleep (reply.Refused why) ≡ waits → ⊥
refused_begins why e = begins_not_waits e

pub sleeps : (laws : KernelLaws) (w : PlainWorld) (c n : ℕ) (told : Reply) (new : PlainWorld) → is_cpu (shown w.kernel) c ≡ true → Step w (event.Agent (Sleep c n)) told new → behind_sleep told ≡ waits → Slept w c n new
sleeps laws w c n told new there step waiting = by_refused (refused (shown w.kernel) (call.Agent (Sleep c n))) refl
  where
    by_refused : (o : Option Refusal) → refused (shown w.kernel) (call.Agent (Sleep c n)) ≡ o → Slept w c n new
    by_refused None none = record {
      count = equals n (reads.aseq_read (shown w.kernel) c) (second_not (not (is_cpu (shown w.kernel) c)) (n == reads.aseq_read (shown w.kernel) c) refusal.BadCpu (refusal.Stale (reads.aseq_read (shown w.kernel) c)) none)
          ∙ (laws.reads w.kernel).aseq c there;
      is = step.after ∙ ap (λ o. record w { kernel = after_of o (changed w.kernel (call.Agent (Sleep c n))) w.kernel }) none;
    }
    by_refused (Some why) some =
        let told_is : told ≡ reply.Refused why = step.tells ∙ ap (λ o. told_of (call.Agent (Sleep c n)) (reply_of o Done)) some in
        absurd (refused_begins why (sym (ap behind_sleep told_is) ∙ waiting))

-- taking a note: the kernel is as it was, and of the agents only who took it may know more
pub record Taken (w : PlainWorld) (c : ℕ) (boxes : ℕ → List Note) (new : PlainWorld) (out : ℕ → List Note) : Type 0 where
  pub kernel : new.kernel ≡ w.kernel
  pub others : (d : ℕ) → (d ≡ c → ⊥) → new.agents d ≡ w.agents d
  pub items : (d : ℕ) → (new.agents d).sent_items ≡ (w.agents d).sent_items
  pub known : (d t n : ℕ) → has (w.agents d).known t n ≡ true → has (new.agents d).known t n ≡ true
  pub sent : (k : ℕ) (set : Set) → slice_get w.sent k ≡ Some set → slice_get new.sent k ≡ Some set
  pub grows : Grows boxes out

both_sets : (a b : Set) (t n : ℕ) → has (a ++ b) t n ≡ (has a t n || has b t n)
both_sets a b t n = list_any-append (λ p. (p.0 == t) && (p.1 == n)) a b

pub has_more : (a b : Set) (t n : ℕ) → has a t n ≡ true → has (a ++ b) t n ≡ true
has_more a b t n e = both_sets a b t n ∙ or_left (has a t n) (has b t n) e

pub has_added : (a b : Set) (t n : ℕ) → has b t n ≡ true → has (a ++ b) t n ≡ true
has_added a b t n e = both_sets a b t n ∙ or_right (has a t n) (has b t n) e

pub sent_more : (sets more : List Set) (k : ℕ) (set : Set) → slice_get sets k ≡ Some set → slice_get (sets ++ more) k ≡ Some set
sent_more sets more k set e = get_appended sets more k (slice_get_within sets k set e) ∙ e

unmoved : (w : PlainWorld) (c : ℕ) (boxes : ℕ → List Note) → Taken w c boxes w boxes
unmoved w c boxes = record {
  kernel = refl;
  others = λ d o. refl;
  items = λ d. refl;
  known = λ d t n e. e;
  sent = λ k set e. e;
  grows = λ d note h. h;
}

learnt : (w : PlainWorld) (c : ℕ) (boxes : ℕ → List Note) (set : Set) → Taken w c boxes (with_agent w c (taking_in set (w.agents c))) boxes
learnt w c boxes set = record {
  kernel = refl;
  others = λ d o. at_other w.agents c d (taking_in set (w.agents c)) o;
  items = λ d. elim (eqb_tells d c) [
    | inl e ↦ rw e.0 (ap (λ m. (w.agents m).sent_items) (sym e.1))
    | inr e ↦ rw e.0 refl
  ];
  known = λ d t n h. elim (eqb_tells d c) [
    | inl e ↦ rw e.0 (has_more (w.agents c).known set t n (ap (λ m. has (w.agents m).known t n) (sym e.1) ∙ h))
    | inr e ↦ rw e.0 h
  ];
  sent = λ k set e. e;
  grows = λ d note h. h;
}

delivers : (w : PlainWorld) (c : ℕ) (boxes : ℕ → List Note) (o : Option Set) (told : Reply) (new : PlainWorld) → IsDelivered w c o told new → Taken w c boxes new boxes
delivers w c boxes None told new h = subst (λ v. Taken w c boxes v boxes) (sym h.same) (unmoved w c boxes)
delivers w c boxes (Some set) told new h = subst (λ v. Taken w c boxes v boxes) (sym h.1) (learnt w c boxes set)

pub delivered : (w : PlainWorld) (c k : ℕ) (told : Reply) (new : PlainWorld) → is_cpu (shown w.kernel) c ≡ true → Step w (event.Deliver c k) told new → IsDelivered w c (slice_get w.sent k) told new
delivered w c k told new there step = MatchBool-at_true (IsDelivered w c (slice_get w.sent k) told new) (IsBadCpu w told new) there step

pub taken : (w : PlainWorld) (c : ℕ) (boxes : ℕ → List Note) (note : Note) (new : PlainWorld) (out : ℕ → List Note) → is_cpu (shown w.kernel) c ≡ true → Takes w c boxes note new out → Taken w c boxes new out
taken w c boxes note new out there roused = unmoved w c boxes
taken w c boxes note new out there summoned = unmoved w c boxes
taken w c boxes note new out there (learns k told step) = delivers w c boxes (slice_get w.sent k) told new (delivered w c k told new there step)
taken w c boxes note new out there (answers asker digest set so) = record {
  kernel = refl;
  others = λ d o. refl;
  items = λ d. refl;
  known = λ d t n e. e;
  sent = λ k s e. sent_more w.sent (set ∷ []) k s e;
  grows = telling_grows asker (answer (length w.sent)) boxes;
}

pub taken_on : (w v u : PlainWorld) (c : ℕ) (boxes out : ℕ → List Note) → Taken w c boxes v boxes → Taken v c boxes u out → Taken w c boxes u out
taken_on w v u c boxes out first next = record {
  kernel = next.kernel ∙ first.kernel;
  others = λ d o. next.others d o ∙ first.others d o;
  items = λ d. next.items d ∙ first.items d;
  known = λ d t n e. next.known d t n (first.known d t n e);
  sent = λ k set e. next.sent k set (first.sent k set e);
  grows = next.grows;
}

pub there_on : (w v : PlainWorld) (c : ℕ) → v.kernel ≡ w.kernel → is_cpu (shown w.kernel) c ≡ true → is_cpu (shown v.kernel) c ≡ true
there_on w v c e there = ap (λ (P : PlainKernel). is_cpu (shown P) c) e ∙ there

pub taken_in : (w : PlainWorld) (c : ℕ) (boxes : ℕ → List Note) (ks : List ℕ) (new : PlainWorld) → is_cpu (shown w.kernel) c ≡ true → TakesIn c w ks new → Taken w c boxes new boxes
taken_in w c boxes [] new there e = subst (λ v. Taken w c boxes v boxes) (sym e) (unmoved w c boxes)
taken_in w c boxes (k ∷ rest) new there h =
    let v = h.0 in
    let first = delivers w c boxes (slice_get w.sent k) h.1 v (delivered w c k h.1 v there h.2) in
    taken_on w v new c boxes boxes first (taken_in v c boxes rest new (there_on w v c first.kernel there) h.3)

-- what a call of the environment changes before it posts: homes, and what stands on a CPU
pub record IsBefore (P Q : PlainKernel) : Type 0 where
  pub posts : Q.posts ≡ P.posts
  pub limits : Q.limits ≡ P.limits
  pub eaten : Q.eaten ≡ P.eaten
  pub target : Q.target ≡ P.target
  pub slept : Q.slept ≡ P.slept

pub is_before : (P : PlainKernel) (made : EnvCall) → IsBefore P (posting P made).before
is_before P (env.Create queue ready mask) = record { posts = refl; limits = refl; eaten = refl; target = refl; slept = refl }
is_before P (env.Wake t) = record { posts = refl; limits = refl; eaten = refl; target = refl; slept = refl }
is_before P (env.Block cpu ran) = record { posts = refl; limits = refl; eaten = refl; target = refl; slept = refl }
is_before P (env.YieldNow cpu ran) = record { posts = refl; limits = refl; eaten = refl; target = refl; slept = refl }
is_before P (env.Preempt cpu ran) = record { posts = refl; limits = refl; eaten = refl; target = refl; slept = refl }
is_before P (env.Die cpu ran) = record { posts = refl; limits = refl; eaten = refl; target = refl; slept = refl }
is_before P (env.SetAffinity t mask) = record { posts = refl; limits = refl; eaten = refl; target = refl; slept = refl }
is_before P (env.SetPriority t level) = record { posts = refl; limits = refl; eaten = refl; target = refl; slept = refl }
is_before P (env.Tick cpu) = record { posts = refl; limits = refl; eaten = refl; target = refl; slept = refl }

-- a call of the environment was refused, and nothing changed; or accepted
pub record IsPost (p : Protocol) (made : EnvCall) (new : Protocol) : Type 0 where
  pub accepted : refused (shown p.world.kernel) (call.Env made) ≡ None
  pub world : new.world ≡ record p.world { kernel = changed p.world.kernel (call.Env made) }
  pub boxes : new.boxes ≡ rousing (woken (posting p.world.kernel made).before (posting p.world.kernel made).queue) p.boxes

abbrev pub EnvDoes : Protocol → EnvCall → Protocol → Type 0
EnvDoes p made new = ((new.world ≡ p.world) × (new.boxes ≡ p.boxes)) ⊎ IsPost p made new

pub env_does : (p new : Protocol) (h : IsCalledByEnv p new) → EnvDoes p h.call new
env_does p new h = by_refused (refused (shown p.world.kernel) (call.Env h.call)) refl
  where
    K : PlainKernel
    K = p.world.kernel

    by_refused : (o : Option Refusal) → refused (shown p.world.kernel) (call.Env h.call) ≡ o → EnvDoes p h.call new
    by_refused None none = inr record {
      accepted = none;
      world = h.step.after ∙ ap (λ o. record p.world { kernel = after_of o (changed p.world.kernel (call.Env h.call)) p.world.kernel }) none;
      boxes = h.boxes ∙ ap (λ told. woken_in told p.boxes) (h.step.tells ∙ ap (λ o. told_of (call.Env h.call) (reply_of o (accepted p.world.kernel (call.Env h.call)))) none);
    }
    by_refused (Some why) some = inl (
      h.step.after ∙ ap (λ o. record p.world { kernel = after_of o (changed p.world.kernel (call.Env h.call)) p.world.kernel }) some,
      h.boxes ∙ ap (λ told. woken_in told p.boxes) (h.step.tells ∙ ap (λ o. told_of (call.Env h.call) (reply_of o (accepted p.world.kernel (call.Env h.call)))) some),
    )
