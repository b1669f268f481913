-- Each event of mending has one result, and so has a list of them.
use Rattle.std.proofs.Common.{◌≡◌, ℕ, zero, suc, ◌≤◌, ◌<◌, ◌⊎◌, Bool, true, false, List, [], ◌∷◌, ◌++◌, Option, Some, None, Result, Ok, Err, MatchBool, refl, sym, ◌∙◌, ap, subst, arith}
use Rattle.pc_calls.specs.AgentCalls.{commits}
use Rattle.pc_calls.specs.declared.call.Answer.{Answer}
use Rattle.pc_calls.specs.declared.call.Call.TheVariants as call
use Rattle.pc_calls.specs.declared.event.Event.{Event}
use Rattle.pc_calls.specs.declared.event.Event.TheVariants as event
use Rattle.pc_calls.specs.declared.event.Reply.{Reply}
use Rattle.pc_calls.specs.declared.event.Reply.TheVariants as replies
use Rattle.pc_calls.specs.declared.refusal.Refusal.{Refusal}
use Rattle.pc_calls.specs.declared.refusal.Refusal.TheVariants as refusals
use Rattle.pc_kernel.specs.PlainKernel.{content}
use Rattle.pc_kernel.specs.Reads.{shown, is_cpu, on}
use Rattle.pc_kernel.specs.Steps as kernel
use Rattle.pc_kernel.specs.Steps.{after, refused}
use Rattle.pc_agent.specs.PlainAgent.{Set, pick_refused, ready_list, taking_in}
use Rattle.pc_agent.specs.Running.{FindsFirst, left_by, takes_over}
use Rattle.std.specs.Prelude.{slice_get, is_some, length}
use Rattle.pc_world.specs.Mending.{clearing, hearing}
use Rattle.pc_world.specs.PlainWorld.{PlainWorld, published, with_agent}
use Rattle.pc_world.specs.Steps.{IsBadCpu, IsCommitted, IsConsumed, IsDelivered, IsPicked, IsPublished, IsRefused, IsStolen, IsTakenOver, IsTried, Runs, Step, stealable}

-- whatever two outcomes of which this holds are the same
abbrev pub Same : (Reply → PlainWorld → Type 0) → Type 0
Same Holds = (t u : Reply) (a b : PlainWorld) → Holds t a → Holds u b → (t ≡ u) × (a ≡ b)

refused_same : (w : PlainWorld) (r : Refusal) → Same (IsRefused w r)
refused_same w r t u a b h k = (h.refused ∙ sym k.refused, h.same ∙ sym k.same)

told_same : (told : Reply) (new : PlainWorld) → Same (λ t a. (t ≡ told) × (a ≡ new))
told_same told new t u a b h k = (h.0 ∙ sym k.0, h.1 ∙ sym k.1)

there_same : (there : Bool) (w : PlainWorld) (Holds : Reply → PlainWorld → Type 0) → Same Holds → Same (λ t a. MatchBool there (Holds t a) (IsBadCpu w t a))
there_same true w Holds same = same
there_same false w Holds same = refused_same w refusals.BadCpu

consume_same : (w : PlainWorld) (c : ℕ) (r : Result Answer Refusal) → Same (IsConsumed w c r)
consume_same w c (Ok answer) =
    let p = w.agents c in
    told_same (replies.Consumed p.sent_items) (record (with_agent w c (record p { sent_items = 0 })) { kernel = after w.kernel (call.Consume c p.sent_items) })
consume_same w c (Err why) = refused_same w why

deliver_same : (w : PlainWorld) (c : ℕ) (o : Option Set) → Same (IsDelivered w c o)
deliver_same w c None = refused_same w refusals.NoDelta
deliver_same w c (Some set) = told_same replies.Done (with_agent w c (taking_in set (w.agents c)))

commit_same : (w : PlainWorld) (c n : ℕ) (names : List ℕ) → Same (IsCommitted w c n names)
commit_same w c n [] t u a b h k = absurd h
commit_same w c n (name ∷ rest) t u a b h k =
    told_same (replies.Committed c name) (record (with_agent w c (record (w.agents c) { list = rest })) { kernel = after w.kernel (commits c name n) }) t u a b h k

pick_same : (w : PlainWorld) (c n : ℕ) (o : Option Refusal) → Same (IsPicked w c n o)
pick_same w c n None = commit_same w c n (ready_list (shown w.kernel) c n (w.agents c).list)
pick_same w c n (Some why) = told_same (replies.Refused why) (with_agent w c (record (w.agents c) { list = left_by why (w.agents c).list }))

one_first : (p q t u : ℕ) → (p < q) ⊎ ((p ≡ q) × (t ≤ u)) → (q < p) ⊎ ((q ≡ p) × (u ≤ t)) → t ≡ u
one_first p q t u e f = grind arith

first_same : (stands : ℕ → Option ℕ) (a b : Option ℕ) → FindsFirst stands a → FindsFirst stands b → a ≡ b
first_same stands None None f g = refl
first_same stands None (Some u) f g = absurd (let none : stands u ≡ None = f u in let some = g.there in let bad : ⊥ = cc in bad)
first_same stands (Some t) None f g = absurd (let none : stands t ≡ None = g t in let some = f.there in let bad : ⊥ = cc in bad)
first_same stands (Some t) (Some u) f g = ap Some (one_first f.place g.place t u (f.first u g.place g.there) (g.first t f.place f.there))

taken_same : (w : PlainWorld) (c t : ℕ) (o : Option Refusal) → Same (IsTakenOver w c t o)
taken_same w c t None =
    let p = w.agents c in
    told_same (replies.Associated c t) (record (with_agent w c (record p { list = p.list ++ t ∷ [] })) { kernel = after w.kernel (takes_over c p t) })
taken_same w c t (Some why) = refused_same w why

tried_same : (w : PlainWorld) (c : ℕ) (o : Option ℕ) → Same (IsTried w c o)
tried_same w c None = refused_same w refusals.NothingToSteal
tried_same w c (Some t) = taken_same w c t (refused (shown w.kernel) (takes_over c (w.agents c) t))

stolen_same : (w : PlainWorld) (c : ℕ) (busy : Bool) → Same (IsStolen w c busy)
stolen_same w c true t u a b h k = refused_same w refusals.Busy t u a b h k
stolen_same w c false t u a b h k =
    let same : h.0 ≡ k.0 = first_same (stealable w c) h.0 k.0 h.1 k.1 in
    tried_same w c k.0 t u a b (subst (λ o. IsTried w c o t a) same h.2) k.2

-- an event of mending
abbrev pub IsOfMending : Event → Type 0
IsOfMending (event.Publish c false) = Unit {0}
IsOfMending (event.Publish c true) = ⊥
IsOfMending (event.Consume c) = Unit {0}
IsOfMending (event.Deliver c k) = Unit {0}
IsOfMending (event.Pick c n) = Unit {0}
IsOfMending (event.Steal c) = Unit {0}
IsOfMending (event.Env made) = ⊥
IsOfMending (event.Agent made) = ⊥
IsOfMending (event.Answer c asker) = ⊥
IsOfMending (event.Crash c) = ⊥

pub step_same : (w : PlainWorld) (e : Event) → IsOfMending e → Same (Step w e)
step_same w (event.Publish c false) is =
    there_same (is_cpu (shown w.kernel) c) w (IsPublished w c false) (told_same (replies.Published (length w.sent) (length (content w.kernel c))) (published w c))
step_same w (event.Publish c true) is = absurd is
step_same w (event.Consume c) is =
    let r = kernel.reply w.kernel (call.Consume c (w.agents c).sent_items) in
    there_same (is_cpu (shown w.kernel) c) w (IsConsumed w c r) (consume_same w c r)
step_same w (event.Deliver c k) is = there_same (is_cpu (shown w.kernel) c) w (IsDelivered w c (slice_get w.sent k)) (deliver_same w c (slice_get w.sent k))
step_same w (event.Pick c n) is =
    let o = pick_refused (shown w.kernel) c n (w.agents c).list in
    there_same (is_cpu (shown w.kernel) c) w (IsPicked w c n o) (pick_same w c n o)
step_same w (event.Steal c) is =
    let busy = is_some (on (shown w.kernel) c) in
    there_same (is_cpu (shown w.kernel) c) w (IsStolen w c busy) (stolen_same w c busy)
step_same w (event.Env made) is = absurd is
step_same w (event.Agent made) is = absurd is
step_same w (event.Answer c asker) is = absurd is
step_same w (event.Crash c) is = absurd is

-- of each event of a list
abbrev pub Each : (Event → Type 0) → List Event → Type 0
Each Is [] = Unit {0}
Each Is (e ∷ events) = Is e × Each Is events

pub each_both : (Is : Event → Type 0) (a b : List Event) → Each Is a → Each Is b → Each Is (a ++ b)
each_both Is [] b h k = k
each_both Is (e ∷ a) b h k = (h.0, each_both Is a b h.1 k)

pub each_clearing : (Is : Event → Type 0) → ((c : ℕ) → Is (event.Publish c false)) → ((c : ℕ) → Is (event.Consume c)) → (n : ℕ) → Each Is (clearing n)
each_clearing Is publish consume zero = tt
each_clearing Is publish consume (suc n) =
    each_both Is (clearing n) (event.Publish n false ∷ event.Consume n ∷ []) (each_clearing Is publish consume n) (publish n, (consume n, tt))

pub each_hearing : (Is : Event → Type 0) (c : ℕ) → ((k : ℕ) → Is (event.Deliver c k)) → (k : ℕ) → Each Is (hearing c k)
each_hearing Is c deliver zero = tt
each_hearing Is c deliver (suc k) = each_both Is (hearing c k) (event.Deliver c k ∷ []) (each_hearing Is c deliver k) (deliver k, tt)

pub runs_same : (w : PlainWorld) (events : List Event) → Each IsOfMending events → (r s : List Reply) (a b : PlainWorld) → Runs w events r a → Runs w events s b → a ≡ b
runs_same w [] is [] [] a b h k = h ∙ sym k
runs_same w [] is [] (u ∷ s) a b h k = absurd k
runs_same w [] is (t ∷ r) s a b h k = absurd h
runs_same w (e ∷ events) is [] s a b h k = absurd h
runs_same w (e ∷ events) is (t ∷ r) [] a b h k = absurd k
runs_same w (e ∷ events) is (t ∷ r) (u ∷ s) a b h k =
    let one = step_same w e is.0 t u h.0 k.0 h.1 k.1 in
    runs_same k.0 events is.1 r s a b (subst (λ x. Runs x events r a) one.1 h.2) k.2
