-- An agent has a step, unless it waits and no note is under way to it.
use Rattle.std.proofs.Common.{◌≡◌, ◌⊎◌, ℕ, Bool, true, false, List, [], ◌∷◌, ◌++◌, length, Option, Some, None, MatchBool, is_some, if◌then◌else◌, refl, sym, ◌∙◌, subst, inl, inr}
use Rattle.pc_messages.specs.Items.{pairs_in}
use Rattle.pc_calls.specs.declared.call.AgentCall.TheVariants.{Sleep}
use Rattle.pc_calls.specs.declared.event.Event.{Event}
use Rattle.pc_calls.specs.declared.event.Event.TheVariants as event
use Rattle.pc_calls.specs.declared.event.Reply.{Reply}
use Rattle.pc_calls.specs.declared.event.Reply.TheVariants as reply
use Rattle.pc_calls.specs.declared.limits.Limits.{Limits}
use Rattle.pc_calls.specs.declared.refusal.Refusal.{Refusal}
use Rattle.pc_calls.specs.declared.refusal.Refusal.TheVariants as refusal
use Rattle.pc_kernel.specs.PlainKernel.{aseq, content}
use Rattle.pc_kernel.specs.Reads.{shown, is_cpu, on}
use Rattle.pc_kernel.specs.Steps as kernel
use Rattle.pc_kernel.specs.Steps.{at}
use Rattle.pc_agent.specs.Running.{takes_over}
use Rattle.pc_world.specs.Facts.{EveryEventHasAStep}
use Rattle.pc_world.specs.PlainWorld.{PlainWorld, sending}
use Rattle.pc_world.specs.Reached.{Reached}
use Rattle.pc_world.specs.Steps.{IsBadCpu, IsStolen, IsTakenOver, IsTried, Step}
use Rattle.pc_protocol.specs.Protocol.{Acts, IsAct, IsLook, IsPut, IsTake, Note, OfAgent, Protocol, Stage, Takes, answers, asks, begins, behind_sleep, TakesIn, answer, cpus_of, learns, news, others, picked, puts, roused, stole, summoned, telling, telling_others, tells_none, waits, wake}
use Rattle.pc_protocol.specs.Protocol.{refused as steal_refused}
use Rattle.pc_protocol.specs.Resting.{IsWaiting}
use Rattle.pc_protocol.proofs.Among.{IsAmong, among_middle, not_empty}
use Rattle.pc_protocol.proofs.Stepping.{begins_not_waits, puts_not_waits}
use Rattle.pc_protocol.proofs.Reaching.{acts_lead, one_leads, reach_more, takes_in_lead}
use Rattle.std.proofs.lemmas.Bool.{false≢true}

nothing_or_not : (told : Reply) → (told ≡ reply.Refused refusal.NothingReady) ⊎ (told ≡ reply.Refused refusal.NothingReady → ⊥)
nothing_or_not (reply.Refused refusal.NothingReady) = inl refl
nothing_or_not (reply.Refused why) = inr (λ e. cc)
nothing_or_not other = inr (λ e. cc)

-- a steal is replied the thread that it took, or a refusal
abbrev pub StealTells : Reply → Type 0
StealTells told = ((queue : ℕ) × (thread : ℕ) × (told ≡ reply.Associated queue thread)) ⊎ ((why : Refusal) × (told ≡ reply.Refused why))

module _ (w new : PlainWorld) (c : ℕ) (told : Reply) where
  by_taken : (t : ℕ) (o : Option Refusal) → IsTakenOver w c t o told new → StealTells told
  by_taken t None h = inl (c, t, h.0)
  by_taken t (Some why) h = inr (why, h.refused)

  by_tried : (o : Option ℕ) → IsTried w c o told new → StealTells told
  by_tried None h = inr (refusal.NothingToSteal, h.refused)
  by_tried (Some t) h = by_taken t (kernel.refused (shown w.kernel) (takes_over c (w.agents c) t)) h

  by_busy : (b : Bool) → IsStolen w c b told new → StealTells told
  by_busy true h = inr (refusal.Busy, h.refused)
  by_busy false h = by_tried h.0 h.2

  by_there : (b : Bool) → MatchBool b (IsStolen w c (is_some (on (shown w.kernel) c)) told new) (IsBadCpu w told new) → StealTells told
  by_there true h = by_busy (is_some (on (shown w.kernel) c)) h
  by_there false h = inr (refusal.BadCpu, h.refused)

  pub steal_tells : Step w (event.Steal c) told new → StealTells told
  steal_tells step = by_there (is_cpu (shown w.kernel) c) step

-- some list of events that is an act
pub record CanAct (w : PlainWorld) (c n : ℕ) : Type 0 where
  pub asking : Bool
  pub new : PlainWorld
  pub acts : Acts w c n asking new

module _ (steps : EveryEventHasAStep) (limits : Limits) where
  -- a step from a world that is reached leads to one
  pub record Stepped (w : PlainWorld) (e : Event) : Type 0 where
    pub told : Reply
    pub new : PlainWorld
    pub step : Step w e told new
    pub reached : Reached limits new

  pub stepped : (w : PlainWorld) (e : Event) → Reached limits w → Stepped w e
  stepped w e h =
      let s = steps limits w e h in
      record { told = s.0; new = s.1; step = s.2; reached = reach_more limits w s.1 h (one_leads w s.1 e s.0 s.2) }

  pub can_act : (w : PlainWorld) (c n : ℕ) → Reached limits w → CanAct w c n
  can_act w c n h = by_pick (nothing_or_not pick.told)
    where
      consume : Stepped w (event.Consume c)
      consume = stepped w (event.Consume c) h

      pick : Stepped consume.new (event.Pick c n)
      pick = stepped consume.new (event.Pick c n) consume.reached

      steal : Stepped pick.new (event.Steal c)
      steal = stepped pick.new (event.Steal c) pick.reached

      again : Stepped steal.new (event.Pick c n)
      again = stepped steal.new (event.Pick c n) steal.reached

      by_steal : pick.told ≡ reply.Refused refusal.NothingReady → StealTells steal.told → CanAct w c n
      by_steal none (inl took) = record {
        asking = false;
        new = again.new;
        acts = stole consume.told pick.told again.told took.0 took.1 (
          consume.new,
          consume.step,
          (
            pick.new,
            subst (λ t. Step consume.new (event.Pick c n) t pick.new) none pick.step,
            (steal.new, subst (λ t. Step pick.new (event.Steal c) t steal.new) took.2 steal.step, (again.new, again.step, refl)),
          ),
        );
      }
      by_steal none (inr failed) = record {
        asking = _;
        new = steal.new;
        acts = steal_refused consume.told failed.0 (
          consume.new,
          consume.step,
          (
            pick.new,
            subst (λ t. Step consume.new (event.Pick c n) t pick.new) none pick.step,
            (steal.new, subst (λ t. Step pick.new (event.Steal c) t steal.new) failed.1 steal.step, refl),
          ),
        );
      }

      by_pick : (pick.told ≡ reply.Refused refusal.NothingReady) ⊎ (pick.told ≡ reply.Refused refusal.NothingReady → ⊥) → CanAct w c n
      by_pick (inl none) = by_steal none (steal_tells pick.new steal.new c steal.told steal.step)
      by_pick (inr other) = record {
        asking = false;
        new = pick.new;
        acts = picked consume.told pick.told (consume.new, consume.step, (pick.new, pick.step, refl)) other;
      }

  -- a note can be taken
  pub record CanTake (w : PlainWorld) (c : ℕ) (boxes : ℕ → List Note) (note : Note) : Type 0 where
    pub new : PlainWorld
    pub out : ℕ → List Note
    pub takes : Takes w c boxes note new out

  pub can_take : (w : PlainWorld) (c : ℕ) (boxes : ℕ → List Note) (note : Note) → Reached limits w → CanTake w c boxes note
  can_take w c boxes wake h = record { new = w; out = boxes; takes = roused }
  can_take w c boxes news h = record { new = w; out = boxes; takes = summoned }
  can_take w c boxes (answer k) h = let s = stepped w (event.Deliver c k) h in record { new = s.new; out = boxes; takes = learns k s.told s.step }
  can_take w c boxes (asks asker digest) h =
      let known = (w.agents c).known in
      record {
        new = sending w known;
        out = telling asker (answer (length w.sent)) boxes;
        takes = answers asker digest known (record { lacking = λ t n has lacks. has; within = λ t n has. has });
      }

  pub can_read : (w : PlainWorld) (c : ℕ) (ks : List ℕ) → Reached limits w → (new : PlainWorld) × TakesIn c w ks new
  can_read w c [] h = (w, refl)
  can_read w c (k ∷ ks) h =
      let s = stepped w (event.Deliver c k) h in
      let more = can_read s.new c ks (reach_more limits w s.new h (one_leads w s.new (event.Deliver c k) s.told s.step)) in
      (more.0, (s.new, s.told, s.step, more.1))

  module _ (p : Protocol) (c : ℕ) (h : Reached limits p.world) (there : is_cpu (shown p.world.kernel) c ≡ true) where
    abbrev w : PlainWorld
    w = p.world

    abbrev Goes_on : Type 0
    Goes_on = ((new : Protocol) × OfAgent p c new) ⊎ IsWaiting p c

    by_box : p.stages c ≡ waits → (notes : List Note) → p.boxes c ≡ notes → Goes_on
    by_box waiting [] e = inr record { waiting = waiting; empty = e }
    by_box waiting (note ∷ rest) e =
        let ahead = can_read w c (p.mails c) h in
        let take = can_take ahead.0 c (at p.boxes c rest) note (reach_more limits w ahead.0 h (takes_in_lead w c (p.mails c) ahead.0 ahead.1)) in
        inl (
          record { world = take.new; stages = at p.stages c begins; mails = at p.mails c []; boxes = take.out },
          record { there = there; step = inr (inr (inr record { waiting = waiting; before = []; note = note; behind = rest; in_box = e; read = ahead.0; reads = ahead.1; takes = take.takes; mails = refl; stages = refl })) },
        )

    by_stage : (s : Stage) → p.stages c ≡ s → Goes_on
    by_stage begins e =
        let look = stepped w (event.Publish c false) h in
        inl (
          record {
            world = look.new;
            stages = at p.stages c (puts (aseq w.kernel c) (length w.sent) (if tells_none (pairs_in (content w.kernel c)) then [] else others c (cpus_of p)));
            mails = p.mails;
            boxes = p.boxes;
          },
          record { there = there; step = inl record { at_begin = e; told = look.told; step = look.step; stages = refl; mails = refl; boxes = refl } },
        )
    by_stage (puts n k (to ∷ rest)) e =
        inl (
          record { world = w; stages = at p.stages c (puts n k rest); mails = at p.mails to (p.mails to ++ k ∷ []); boxes = telling to news p.boxes },
          record {
            there = there;
            step = inr (inl record {
              n = n;
              k = k;
              before = [];
              to = to;
              behind = rest;
              at_put = e;
              quiet = false;
              if_quiet = λ bad. absurd (false≢true bad);
              world = refl;
              stages = refl;
              mails = refl;
              boxes = refl;
            });
          },
        )
    by_stage (puts n k []) e =
        let act = can_act w c n h in
        let sleep = stepped act.new (event.Agent (Sleep c n)) (reach_more limits w act.new h (acts_lead w c n act.asking act.new act.acts)) in
        inl (
          record {
            world = sleep.new;
            stages = at p.stages c (behind_sleep sleep.told);
            mails = p.mails;
            boxes = if act.asking then telling_others c (asks c (act.new.agents c).known) p.boxes else p.boxes;
          },
          record {
            there = there;
            step = inr (inr (inl record {
              n = n;
              k = k;
              has_read = e;
              asking = act.asking;
              acted = act.new;
              acts = act.acts;
              told = sleep.told;
              sleeps = sleep.step;
              stages = refl;
              mails = refl;
              boxes = refl;
            }));
          },
        )
    by_stage waits e = by_box e (p.boxes c) refl

    pub goes : Goes_on
    goes = by_stage (p.stages c) refl

-- who waits looks, acts and takes nothing
pub no_step : (p new : Protocol) (c : ℕ) → IsWaiting p c → IsLook p c new ⊎ (IsPut p c new ⊎ (IsAct p c new ⊎ IsTake p c new)) → ⊥
no_step p new c h (inl look) = begins_not_waits (sym look.at_begin ∙ h.waiting)
no_step p new c h (inr (inl put)) = puts_not_waits put.n put.k (put.before ++ put.to ∷ put.behind) (sym put.at_put ∙ h.waiting)
no_step p new c h (inr (inr (inl act))) = puts_not_waits act.n act.k [] (sym act.has_read ∙ h.waiting)
no_step p new c h (inr (inr (inr take))) = not_empty take.note (p.boxes c) (subst (IsAmong take.note) (sym take.in_box) (among_middle take.note take.before take.behind)) h.empty
