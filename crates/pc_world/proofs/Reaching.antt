-- What holds of every world that events lead to.
use Rattle.std.proofs.Common.{◌≡◌, ℕ, zero, suc, ◌+◌, ◌-◌, ◌≤◌, ◌==◌, ◌⊎◌, nat_lt, true, false, None, if◌then◌else◌, List, [], ◌∷◌, length, take, Some, Contains, IsTrue, slice_get, sym, ◌∙◌, ap, subst, inl, inr, arith}
use Rattle.std.specs.Prelude.{◌↔◌}
use Rattle.std.specs.List.{filter_map, cons_option}
use Rattle.std.proofs.lemmas.Bool.{cases_eq, cases_lt}
use Rattle.std.proofs.lemmas.Bool.Decides.{nat_tests}
use Rattle.std.proofs.lemmas.List.{length-drop}
use Rattle.pc_messages.specs.Items.{message_in, pairs_in}
use Rattle.pc_messages.specs.declared.message.Message.{Message}
use Rattle.pc_messages.specs.declared.message.Item.{Item}
use Rattle.pc_messages.specs.declared.message.Item.TheVariants.{Thread, Tick}
use Rattle.pc_calls.specs.declared.event.Event.{Event}
use Rattle.pc_calls.specs.declared.limits.Limits.{Limits}
use Rattle.pc_join.specs.Sets.{has}
use Rattle.pc_kernel.specs.Facts.{IsAtHome, messages}
use Rattle.pc_kernel.specs.PlainKernel.{PlainKernel, kinds, number, is_known, content, items_to, aseq}
use Rattle.pc_kernel.specs.Reads.{shown, is_cpu}
use Rattle.pc_kernel.specs.Posted.{WasPosted}
use Rattle.pc_view.specs.Prefixes.{upto}
use Rattle.pc_agent.specs.PlainAgent.{Set}
use Rattle.pc_world.specs.Facts.{HasAll, IsInRun, Waits, WasSent}
use Rattle.pc_world.specs.PlainWorld.{PlainWorld, opened_by}
use Rattle.pc_world.specs.Reached.{Leads, Reached}
use Rattle.pc_world.specs.Inner.Laws.{KernelLaws}
use Rattle.pc_world.proofs.Good.{IsGood, good_next, good_opened}
use Rattle.pc_world.proofs.GoodSteps.{content_in_run, leads_goes}
use Rattle.pc_world.proofs.Pairs.{get_dropped, get_taken, numbered_at, contained, place_of, stands_at, told_at}

leads_good : (laws : KernelLaws) (limits : Limits) (w : PlainWorld) (events : List Event) (new : PlainWorld) → IsGood limits w → Leads w events new → IsGood limits new
leads_good laws limits w [] new h leads = subst (IsGood limits) (sym leads) h
leads_good laws limits w (e ∷ events) new h leads =
    leads_good laws limits leads.0 events new (good_next laws limits w leads.0 h (leads_goes laws limits w h e leads.0 leads.1)) leads.2

pub reached_good : (laws : KernelLaws) (limits : Limits) (w : PlainWorld) → Reached limits w → IsGood limits w
reached_good laws limits w reached = leads_good laws limits (opened_by reached.rules limits) reached.events w (good_opened reached.rules limits) reached.leads

-- no event changes how an agent ranks
leads_ranked : (laws : KernelLaws) (limits : Limits) (w : PlainWorld) (events : List Event) (new : PlainWorld) (c : ℕ) → IsGood limits w → Leads w events new → (new.agents c).rules ≡ (w.agents c).rules
leads_ranked laws limits w [] new c h leads = ap (λ (v : PlainWorld). (v.agents c).rules) leads
leads_ranked laws limits w (e ∷ events) new c h leads =
    let goes = leads_goes laws limits w h e leads.0 leads.1 in
    leads_ranked laws limits leads.0 events new c (good_next laws limits w leads.0 h goes) leads.2 ∙ goes.ranked c

pub reached_ranked : (laws : KernelLaws) (limits : Limits) (w : PlainWorld) (c : ℕ) (reached : Reached limits w) → (w.agents c).rules ≡ reached.rules c
reached_ranked laws limits w c reached = leads_ranked laws limits (opened_by reached.rules limits) reached.events w c (good_opened reached.rules limits) reached.leads

-- the pair of a message, told by the message
at_pair : (F : ℕ → ℕ → Type 0) (m : Message) (t n : ℕ) → m.thread ≡ t → m.number ≡ n → F m.thread m.number → F t n
at_pair F m t n thread number here = subst (F t) number (subst (λ s. F s m.number) thread here)

below : (n m : ℕ) → 1 ≤ m → m ≤ n → nat_lt 0 n ≡ true
below n m low high = grind (arith, nat_tests)

itself : (n : ℕ) → (n == n) ≡ true
itself n = grind (arith, nat_tests)

-- where a message stands, something waits of its thread
waits_there : (items : List Item) (i : ℕ) (m : Message) → slice_get items i ≡ Some (Thread m) → filter_map (message_in m.thread) items ≡ [] → ⊥
waits_there [] i m at none = cc
waits_there (it ∷ items) zero m at none =
    let here : it ≡ Thread m = cc in
    let same : cons_option (message_in m.thread it) (filter_map (message_in m.thread) items) ≡ m ∷ filter_map (message_in m.thread) items =
    ap (λ x. cons_option (message_in m.thread x) (filter_map (message_in m.thread) items)) here
    ∙ ap (λ b. cons_option (if b then Some m else None) (filter_map (message_in m.thread) items)) (itself m.thread) in
    cc
waits_there (Tick cpu ∷ items) (suc i) m at none = waits_there items i m at none
waits_there (Thread n ∷ items) (suc i) m at none = elim (n.thread == m.thread) as (λ b. cons_option (if b then Some n else None) (filter_map (message_in m.thread) items) ≡ [] → ⊥) [
  | true ↦ λ e. cc
  | false ↦ λ e. waits_there items i m at e
] none

module _ (laws : KernelLaws) (limits : Limits) (w : PlainWorld) (h : IsGood limits w) where
  was_posted : (t : ℕ) (m : Message) → Contains (messages w.kernel t) m → WasPosted w.kernel m
  was_posted t m = subst (λ (P : PlainKernel). Contains (messages P t) m → WasPosted P m) (sym h.replayed) (laws.posted limits h.calls t m)

  -- a queue that holds a message is that of a CPU: the home of the message's thread
  there : (q i : ℕ) (m : Message) → slice_get (content w.kernel q) i ≡ Some (Thread m) → is_cpu (shown w.kernel) q ≡ true
  there q i m at =
      let t = m.thread in
      let told = content_in_run laws limits w h q t m.number (told_at (content w.kernel q) i m at) in
      let cpu : is_known w.kernel t ≡ true → is_cpu (shown w.kernel) (w.kernel.home t) ≡ true =
      subst (λ (P : PlainKernel). is_known P t ≡ true → is_cpu (shown P) (P.home t) ≡ true) (sym h.replayed) (laws.homes limits h.calls t) in
      let home : IsAtHome w.kernel t = subst (λ (P : PlainKernel). IsAtHome P t) (sym h.replayed) (laws.home limits h.calls t) in
      elim (cases_eq q (w.kernel.home t)) [
        | inl e ↦ ap (is_cpu (shown w.kernel)) e ∙ cpu (below (number w.kernel t) m.number told.0 told.1)
        | inr o ↦ absurd (waits_there (content w.kernel q) i m at (home.elsewhere q o))
      ]

  -- a message that was posted stands in its queue, or was sent
  found : (q i : ℕ) (m : Message) → slice_get (items_to w.kernel q) i ≡ Some (Thread m) → Waits w m.thread m.number ⊎ WasSent w m.thread m.number
  found q i m posted = elim (cases_lt i (w.kernel.eaten q)) [
    | inl before ↦ inr (h.front q i m (omega arith) posted)
    | inr later ↦
        let e : w.kernel.eaten q + (i - w.kernel.eaten q) ≡ i = omega arith in
        let stands = get_dropped (w.kernel.eaten q) (items_to w.kernel q) (i - w.kernel.eaten q) ∙ ap (slice_get (items_to w.kernel q)) e ∙ posted in
        inl (q, there q (i - w.kernel.eaten q) m stands, told_at (content w.kernel q) (i - w.kernel.eaten q) m stands)
  ]

  pub none_lost : (t n : ℕ) → (Waits w t n ⊎ WasSent w t n) ↔ IsInRun (kinds w.kernel) t n
  none_lost t n = (known, kept)
    where
      known : Waits w t n ⊎ WasSent w t n → IsInRun (kinds w.kernel) t n
      known (inl waits) = content_in_run laws limits w h waits.0 t n waits.2
      known (inr sent) = h.sent sent.0 sent.1 t n sent.2

      kept : IsInRun (kinds w.kernel) t n → Waits w t n ⊎ WasSent w t n
      kept told =
          let low = told.0 in
          let high = told.1 in
          let at = numbered_at t 1 (kinds w.kernel t) n low (omega arith) in
          let posted = was_posted t at.1 (contained (messages w.kernel t) at.0 at.1 at.2) in
          let place = place_of (items_to w.kernel posted.0) (Thread at.1) posted.1 in
          at_pair (λ t n. Waits w t n ⊎ WasSent w t n) at.1 t n at.3 at.4 (found posted.0 place.0 at.1 place.1)

  pub counted_sent : (c t n : ℕ) → has (pairs_in (take (w.agents c).sent_items (content w.kernel c))) t n ≡ true → WasSent w t n
  counted_sent c t n e =
      let P = w.kernel in
      let s = stands_at (take (w.agents c).sent_items (content P c)) t n e in
      let taken = get_taken (w.agents c).sent_items (content P c) s.place (Thread s.message) s.there in
      let low = taken.0 in
      at_pair (WasSent w) s.message t n s.thread s.number
      (h.front c (P.eaten c + s.place) s.message (omega arith) (sym (get_dropped (P.eaten c) (items_to P c) s.place) ∙ taken.1))

  pub counted_short : (c : ℕ) → (w.agents c).sent_items ≤ length (content w.kernel c)
  counted_short c =
      let size : length (content w.kernel c) ≡ aseq w.kernel c - w.kernel.eaten c = length-drop (w.kernel.eaten c) (items_to w.kernel c) in
      let few = h.few c in
      omega arith

  pub all_complete : (greatest : (set : List (ℕ × ℕ)) (t n : ℕ) → (n ≤ upto set t) ↔ ((m : ℕ) → 1 ≤ m → m ≤ n → IsTrue (has set t m)))
      → (set : Set) (t : ℕ) → HasAll w set → number w.kernel t ≤ upto set t
  all_complete greatest set t all = (greatest set t (number w.kernel t)).1 (λ m low high. all t m ((none_lost t m).1 (low, high)))
