-- No event of mending but a pick changes more of the kernel than what was consumed, and homes.
use Rattle.std.proofs.Common.{◌≡◌, ℕ, Bool, true, false, List, [], ◌∷◌, Option, Some, None, Result, Ok, Err, MatchBool, refl, sym, ◌∙◌, ap, subst}
use Rattle.std.specs.Prelude.{slice_get, is_some}
use Rattle.pc_calls.specs.declared.call.Answer.{Answer}
use Rattle.pc_calls.specs.declared.call.Call.TheVariants as call
use Rattle.pc_calls.specs.declared.event.Event.{Event}
use Rattle.pc_calls.specs.declared.event.Event.TheVariants as event
use Rattle.pc_calls.specs.declared.event.Reply.{Reply}
use Rattle.pc_calls.specs.declared.refusal.Refusal.{Refusal}
use Rattle.pc_kernel.specs.PlainKernel.{PlainKernel, aseq}
use Rattle.pc_kernel.specs.Reads.{shown, is_cpu, on}
use Rattle.pc_kernel.specs.Steps as kernel
use Rattle.pc_kernel.specs.Steps.{after_of, changed, refused}
use Rattle.pc_agent.specs.PlainAgent.{Set}
use Rattle.pc_agent.specs.Running.{takes_over}
use Rattle.pc_world.specs.Mending.{IsIdle}
use Rattle.pc_world.specs.PlainWorld.{PlainWorld}
use Rattle.pc_world.specs.Steps.{IsBadCpu, IsConsumed, IsDelivered, IsPublished, IsStolen, IsTakenOver, IsTried, Runs, Step}
use Rattle.pc_world.proofs.Determined.{Each}

pub record Stays (P Q : PlainKernel) : Type 0 where
  pub eaten : ℕ → ℕ
  pub home : ℕ → ℕ
  pub is : Q ≡ record P { eaten = eaten; home = home }

pub stays_so : (P Q : PlainKernel) → Q ≡ P → Stays P Q
stays_so P Q same = record { eaten = P.eaten; home = P.home; is = same }

pub stays_on : (P Q R : PlainKernel) → Stays P Q → Stays Q R → Stays P R
stays_on P Q R first then' = record {
  eaten = then'.eaten;
  home = then'.home;
  is = then'.is ∙ ap (λ (K : PlainKernel). record K { eaten = then'.eaten; home = then'.home }) first.is;
}

pub idle_still : (P Q : PlainKernel) (c : ℕ) → Stays P Q → IsIdle P c → IsIdle Q c
idle_still P Q c stays idle = subst (λ K. IsIdle K c) (sym stays.is) (record { there = idle.there; idle = idle.idle })

pub aseq_still : (P Q : PlainKernel) (c : ℕ) → Stays P Q → aseq P c ≡ aseq Q c
aseq_still P Q c stays = sym (ap (λ (K : PlainKernel). aseq K c) stays.is)

there_stays : (there : Bool) (w new : PlainWorld) (told : Reply) (Holds : Type 0) → (Holds → Stays w.kernel new.kernel) → MatchBool there Holds (IsBadCpu w told new) → Stays w.kernel new.kernel
there_stays true w new told Holds says h = says h
there_stays false w new told Holds says h = stays_so w.kernel new.kernel (ap (λ (x : PlainWorld). x.kernel) h.same)

consumed_stays : (P : PlainKernel) (c n : ℕ) (o : Option Refusal) → Stays P (after_of o (changed P (call.Consume c n)) P)
consumed_stays P c n None = record { eaten = (changed P (call.Consume c n)).eaten; home = P.home; is = refl }
consumed_stays P c n (Some why) = stays_so P P refl

consume_stays : (w new : PlainWorld) (c : ℕ) (told : Reply) (r : Result Answer Refusal) → IsConsumed w c r told new → Stays w.kernel new.kernel
consume_stays w new c told (Ok answer) h =
    let n = (w.agents c).sent_items in
    subst (λ (x : PlainWorld). Stays w.kernel x.kernel) (sym h.1) (consumed_stays w.kernel c n (refused (shown w.kernel) (call.Consume c n)))
consume_stays w new c told (Err why) h = stays_so w.kernel new.kernel (ap (λ (x : PlainWorld). x.kernel) h.same)

deliver_stays : (w new : PlainWorld) (c : ℕ) (told : Reply) (o : Option Set) → IsDelivered w c o told new → Stays w.kernel new.kernel
deliver_stays w new c told None h = stays_so w.kernel new.kernel (ap (λ (x : PlainWorld). x.kernel) h.same)
deliver_stays w new c told (Some set) h = stays_so w.kernel new.kernel (ap (λ (x : PlainWorld). x.kernel) h.1)

take_stays : (w new : PlainWorld) (c t : ℕ) (told : Reply) (o : Option Refusal) → IsTakenOver w c t o told new → Stays w.kernel new.kernel
take_stays w new c t told None h =
    let made = takes_over c (w.agents c) t in
    subst (λ (x : PlainWorld). Stays w.kernel x.kernel) (sym h.1) (stays_by (refused (shown w.kernel) made))
  where
    stays_by : (o : Option Refusal) → Stays w.kernel (after_of o (changed w.kernel (takes_over c (w.agents c) t)) w.kernel)
    stays_by None = record { eaten = w.kernel.eaten; home = (changed w.kernel (takes_over c (w.agents c) t)).home; is = refl }
    stays_by (Some why) = stays_so w.kernel w.kernel refl
take_stays w new c t told (Some why) h = stays_so w.kernel new.kernel (ap (λ (x : PlainWorld). x.kernel) h.same)

try_stays : (w new : PlainWorld) (c : ℕ) (told : Reply) (o : Option ℕ) → IsTried w c o told new → Stays w.kernel new.kernel
try_stays w new c told None h = stays_so w.kernel new.kernel (ap (λ (x : PlainWorld). x.kernel) h.same)
try_stays w new c told (Some t) h = take_stays w new c t told (refused (shown w.kernel) (takes_over c (w.agents c) t)) h

steal_stays : (w new : PlainWorld) (c : ℕ) (told : Reply) (busy : Bool) → IsStolen w c busy told new → Stays w.kernel new.kernel
steal_stays w new c told true h = stays_so w.kernel new.kernel (ap (λ (x : PlainWorld). x.kernel) h.same)
steal_stays w new c told false h = try_stays w new c told h.0 h.2

-- an event of mending that is no pick
abbrev pub IsQuiet : Event → Type 0
IsQuiet (event.Publish c false) = Unit {0}
IsQuiet (event.Publish c true) = ⊥
IsQuiet (event.Consume c) = Unit {0}
IsQuiet (event.Deliver c k) = Unit {0}
IsQuiet (event.Steal c) = Unit {0}
IsQuiet (event.Pick c n) = ⊥
IsQuiet (event.Env made) = ⊥
IsQuiet (event.Agent made) = ⊥
IsQuiet (event.Answer c asker) = ⊥
IsQuiet (event.Crash c) = ⊥

pub step_stays : (w new : PlainWorld) (e : Event) (told : Reply) → IsQuiet e → Step w e told new → Stays w.kernel new.kernel
step_stays w new (event.Publish c false) told is step =
    there_stays (is_cpu (shown w.kernel) c) w new told (IsPublished w c false told new) (λ h. stays_so w.kernel new.kernel (ap (λ (x : PlainWorld). x.kernel) h.1)) step
step_stays w new (event.Publish c true) told is step = absurd is
step_stays w new (event.Consume c) told is step =
    let r = kernel.reply w.kernel (call.Consume c (w.agents c).sent_items) in
    there_stays (is_cpu (shown w.kernel) c) w new told (IsConsumed w c r told new) (consume_stays w new c told r) step
step_stays w new (event.Deliver c k) told is step =
    there_stays (is_cpu (shown w.kernel) c) w new told (IsDelivered w c (slice_get w.sent k) told new) (deliver_stays w new c told (slice_get w.sent k)) step
step_stays w new (event.Steal c) told is step =
    let busy = is_some (on (shown w.kernel) c) in
    there_stays (is_cpu (shown w.kernel) c) w new told (IsStolen w c busy told new) (steal_stays w new c told busy) step
step_stays w new (event.Pick c n) told is step = absurd is
step_stays w new (event.Env made) told is step = absurd is
step_stays w new (event.Agent made) told is step = absurd is
step_stays w new (event.Answer c asker) told is step = absurd is
step_stays w new (event.Crash c) told is step = absurd is

pub runs_stay : (w new : PlainWorld) (events : List Event) (r : List Reply) → Each IsQuiet events → Runs w events r new → Stays w.kernel new.kernel
runs_stay w new [] [] is ran = stays_so w.kernel new.kernel (ap (λ (x : PlainWorld). x.kernel) ran)
runs_stay w new [] (t ∷ r) is ran = absurd ran
runs_stay w new (e ∷ events) [] is ran = absurd ran
runs_stay w new (e ∷ events) (t ∷ r) is ran =
    stays_on w.kernel ran.0.kernel new.kernel (step_stays w ran.0 e t is.0 ran.1) (runs_stay ran.0 new events r is.1 ran.2)
