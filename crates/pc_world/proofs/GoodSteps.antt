-- Each event keeps what every list of events keeps.
use Rattle.std.proofs.Common.{◌≡◌, ℕ, ◌+◌, ◌-◌, ◌≤◌, ◌==◌, ◌||◌, ◌⊎◌, Bool, true, false, List, [], ◌∷◌, ◌++◌, length, Option, Some, None, Result, Ok, Err, MatchBool, Contains, slice_get, is_some, refl, sym, ◌∙◌, ap, subst, inl, inr, arith, if◌then◌else◌}
use Rattle.std.proofs.lemmas.Bool.{cases_lt}
use Rattle.std.proofs.lemmas.Bool.Decides.{eqb_tells}
use Rattle.std.proofs.lemmas.List.{length-drop}
use Rattle.std.proofs.lemmas.List.Elements.{Contains-append_left, Contains-push, Contains-push_cases}
use Rattle.pc_messages.specs.Items.{pairs_in}
use Rattle.pc_messages.specs.Run.{Run}
use Rattle.pc_messages.specs.declared.message.Message.{Message}
use Rattle.pc_messages.specs.declared.message.Item.TheVariants.{Thread}
use Rattle.pc_calls.specs.AgentCalls.{commits, rouses}
use Rattle.pc_calls.specs.declared.call.Answer.{Answer}
use Rattle.pc_calls.specs.declared.call.Call.{Call}
use Rattle.pc_calls.specs.declared.call.Call.TheVariants as call
use Rattle.pc_calls.specs.declared.event.Event.{Event}
use Rattle.pc_calls.specs.declared.event.Event.TheVariants as event
use Rattle.pc_calls.specs.declared.event.Reply.{Reply}
use Rattle.pc_calls.specs.declared.limits.Limits.{Limits}
use Rattle.pc_calls.specs.declared.refusal.Refusal.{Refusal}
use Rattle.pc_join.specs.Sets.{has}
use Rattle.pc_kernel.specs.Facts.{messages}
use Rattle.pc_kernel.specs.PlainKernel.{PlainKernel, kinds, content, items_to, aseq}
use Rattle.pc_kernel.specs.Posted.{takes}
use Rattle.pc_kernel.specs.Reads.{shown, is_cpu, on}
use Rattle.pc_kernel.specs.Steps as kernel
use Rattle.pc_kernel.specs.Steps.{after, at, refused}
use Rattle.pc_agent.specs.PlainAgent.{PlainAgent, Set, copied, fresh, pick_refused, ready_list, taking_in}
use Rattle.pc_agent.specs.Publishing.{sent_after}
use Rattle.pc_agent.specs.Running.{left_by, takes_over}
use Rattle.pc_world.specs.Facts.{IsInRun, LiesIn}
use Rattle.pc_world.specs.PlainWorld.{PlainWorld, copied_all, published, sending, with_agent}
use Rattle.pc_world.specs.Reached.{IsAnsweredLate, LeadsTo}
use Rattle.pc_world.specs.RanOut.{RanOutInPublish, IsWidened, RanOut}
use Rattle.pc_world.specs.Steps.{IsAnswered, IsBadCpu, IsCommitted, IsConsumed, IsDelivered, IsPicked, IsPublished, IsRefused, IsStolen, IsTakenOver, IsTried, Step, are_cpus}
use Rattle.pc_world.specs.Inner.Laws.{KernelLaws}
use Rattle.pc_world.proofs.Good.{Goes, IsGood, Moves, WereSent, calm, passed, sent_still, taken_le}
use Rattle.pc_world.proofs.Pairs.{contained, get_dropped, has_append, is_numbered, place_of, stands_at, told_at}

at_has : {X : Type 0} (F : X → Type 0) (f : ℕ → X) (c : ℕ) (x : X) → F x → ((n : ℕ) → F (f n)) → (n : ℕ) → F (at f c x n)
at_has F f c x here there n = elim (n == c) as (λ b. F (if b then x else f n)) [ true ↦ here | false ↦ there n ]

-- the agent of a CPU, and the others
sent_items_at : (f : ℕ → PlainAgent) (c : ℕ) (p : PlainAgent) (q : ℕ) → ((q ≡ c) × ((at f c p q).sent_items ≡ p.sent_items)) ⊎ ((q ≡ c → ⊥) × ((at f c p q).sent_items ≡ (f q).sent_items))
sent_items_at f c p q = elim (eqb_tells q c) [ inl e ↦ inl (e.1, rw e.0 refl) | inr e ↦ inr (e.1, rw e.0 refl) ]

rules_at : (f : ℕ → PlainAgent) (c : ℕ) (p : PlainAgent) → p.rules ≡ (f c).rules → (q : ℕ) → (at f c p q).rules ≡ (f q).rules
rules_at f c p e q = elim (eqb_tells q c) [
  | inl same ↦ rw same.0 (e ∙ ap (λ n. (f n).rules) (sym same.1))
  | inr other ↦ rw other.0 refl
]

takes_le : (c n q : ℕ) → takes (call.Consume c n) q ≤ n
takes_le c n q = elim (c == q) as (λ b. (if b then n else 0) ≤ n) [ true ↦ omega arith | false ↦ omega arith ]

takes_none : (c n q : ℕ) → (q ≡ c → ⊥) → takes (call.Consume c n) q ≡ 0
takes_none c n q apart = elim (eqb_tells c q) [ inl e ↦ absurd (apart (sym e.1)) | inr e ↦ rw e.0 refl ]

or_both : (a b : Bool) → (a || b) ≡ true → (a ≡ true) ⊎ (b ≡ true)
or_both true b e = inl refl
or_both false b e = inr e

module _ (laws : KernelLaws) (limits : Limits) (w : PlainWorld) (h : IsGood limits w) where
  abbrev run : Run
  run = kinds w.kernel

  posts_here : (q : ℕ) (m : Message) → Contains (items_to w.kernel q) (Thread m) → Contains (messages w.kernel m.thread) m
  posts_here q m =
      subst (λ (P : PlainKernel). Contains (items_to P q) (Thread m) → Contains (messages P m.thread) m) (sym h.replayed) (laws.posts limits h.calls q m)

  posted_in_run : (q i : ℕ) (m : Message) → slice_get (items_to w.kernel q) i ≡ Some (Thread m) → IsInRun run m.thread m.number
  posted_in_run q i m there =
      let at = place_of (messages w.kernel m.thread) m (posts_here q m (contained (items_to w.kernel q) i (Thread m) there)) in
      let is = is_numbered m.thread 1 (run m.thread) at.0 m at.1 in
      let low = is.low in
      let high = is.high in
      (low, omega arith)

  pub content_in_run : (q : ℕ) → LiesIn run (pairs_in (content w.kernel q))
  content_in_run q t n e =
      let s = stands_at (content w.kernel q) t n e in
      let there : slice_get (items_to w.kernel q) (w.kernel.eaten q + s.place) ≡ Some (Thread s.message) =
      sym (get_dropped (w.kernel.eaten q) (items_to w.kernel q) s.place) ∙ s.there in
      subst (λ m. IsInRun run t m) s.number (subst (λ m. IsInRun run m s.message.number) s.thread (posted_in_run q (w.kernel.eaten q + s.place) s.message there))

  both_in_run : (a b : Set) → LiesIn run a → LiesIn run b → LiesIn run (a ++ b)
  both_in_run a b one other t n e = elim (has_append a b t n e) [ inl s ↦ one t n s | inr s ↦ other t n s ]

  more_known : (c : ℕ) (set : Set) → LiesIn run set → LiesIn run ((w.agents c).known ++ set)
  more_known c set lies = both_in_run (w.agents c).known set (h.known c) lies

  not_eaten : (made : Call) → ((q : ℕ) → takes made q ≡ 0) → (q : ℕ) → (after w.kernel made).eaten q ≡ w.kernel.eaten q
  not_eaten made none q =
      let grown = laws.eaten w.kernel made q in
      let low = taken_le (refused (shown w.kernel) made) (takes made q) in
      let zero = none q in
      omega arith

  same : Goes w w
  same = calm limits w w h (inl refl) h.known (λ set there. there) h.sent (λ q. omega arith) (λ c. refl)

  still : (new : PlainWorld) → new ≡ w → Goes w new
  still new e = subst (Goes w) (sym e) same

  refused_goes : (r : Refusal) (told : Reply) (new : PlainWorld) → IsRefused w r told new → Goes w new
  refused_goes r told new said = still new said.same

  -- another agent on a CPU, who has taken in messages of the run, and another kernel
  own : (c : ℕ) (p : PlainAgent) (Q : PlainKernel) → Moves w.kernel Q → LiesIn run p.known → ((q : ℕ) → Q.eaten q + (at w.agents c p q).sent_items ≤ passed w q) → p.rules ≡ (w.agents c).rules
      → Goes w (record (with_agent w c p) { kernel = Q })
  own c p Q moves seen low ranks =
      calm limits w (record (with_agent w c p) { kernel = Q }) h moves (at_has (λ a. LiesIn run a.known) w.agents c p seen h.known) (λ set there. there) h.sent low (rules_at w.agents c p ranks)

  own_same : (c : ℕ) (p : PlainAgent) (Q : PlainKernel) → Moves w.kernel Q → ((q : ℕ) → Q.eaten q ≡ w.kernel.eaten q) → LiesIn run p.known → p.sent_items ≤ (w.agents c).sent_items → p.rules ≡ (w.agents c).rules
      → Goes w (record (with_agent w c p) { kernel = Q })
  own_same c p Q moves eaten seen low ranks = own c p Q moves seen (λ q.
      let e = eaten q in
      elim (sent_items_at w.agents c p q) [
        | inl s ↦ let here = s.1 in let is : (w.agents q).sent_items ≡ (w.agents c).sent_items = ap (λ n. (w.agents n).sent_items) s.0 in omega arith
        | inr s ↦ let there = s.1 in omega arith
      ]) ranks

  own_agent : (c : ℕ) (p : PlainAgent) → LiesIn run p.known → p.sent_items ≤ (w.agents c).sent_items → p.rules ≡ (w.agents c).rules → Goes w (with_agent w c p)
  own_agent c p seen low ranks = own_same c p w.kernel (inl refl) (λ q. refl) seen low ranks

  called : (made : Call) (new : PlainWorld) → ((q : ℕ) → takes made q ≡ 0) → new ≡ record w { kernel = after w.kernel made } → Goes w new
  called made new none is =
      subst (Goes w) (sym is)
      (calm limits w (record w { kernel = after w.kernel made }) h (inr (made, refl)) h.known (λ set there. there) h.sent
      (λ q. let e = not_eaten made none q in omega arith) (λ c. refl))

  own_call : (made : Call) (c : ℕ) (p : PlainAgent) → ((q : ℕ) → takes made q ≡ 0) → LiesIn run p.known → p.sent_items ≤ (w.agents c).sent_items → p.rules ≡ (w.agents c).rules
      → Goes w (record (with_agent w c p) { kernel = after w.kernel made })
  own_call made c p none seen low ranks = own_same c p (after w.kernel made) (inr (made, refl)) (not_eaten made none) seen low ranks

  -- a publish
  copied_all_goes : (c : ℕ) → Goes w (copied_all w c)
  copied_all_goes c = own_agent c (copied run c (content w.kernel c) (w.agents c)) (more_known c (pairs_in (content w.kernel c)) (content_in_run c)) (omega arith) refl

  published_goes : (c : ℕ) → Goes w (published w c)
  published_goes c =
      let P = w.kernel in
      let items = content P c in
      let p : PlainAgent = sent_after run c items (w.agents c) in
      let size : length items ≡ aseq P c - P.eaten c = length-drop (P.eaten c) (items_to P c) in
      let room = h.few c in
      let more : (set : Set) → Contains w.sent set → Contains (published w c).sent set = λ set there. Contains-append_left w.sent (pairs_in items ∷ []) set there in
      let whole : WereSent P c (P.eaten c + length items) (published w c) = λ i m low there. elim (cases_lt i (P.eaten c)) [
        | inl before ↦ sent_still w (published w c) more m.thread m.number (h.front c i m (omega arith) there)
        | inr later ↦
            let e : P.eaten c + (i - P.eaten c) ≡ i = omega arith in (
              pairs_in items,
              Contains-push w.sent (pairs_in items),
              told_at items (i - P.eaten c) m (get_dropped (P.eaten c) (items_to P c) (i - P.eaten c) ∙ ap (slice_get (items_to P c)) e ∙ there),
            )
      ] in
      record {
        kernel = inl refl;
        known = at_has (λ a. LiesIn run a.known) w.agents c p (more_known c (pairs_in items) (content_in_run c)) h.known;
        sent = λ set there. elim (Contains-push_cases w.sent (pairs_in items) set there) [
          | inl before ↦ h.sent set before
          | inr last ↦ subst (LiesIn run) last (content_in_run c)
        ];
        few = λ q. elim (sent_items_at w.agents c p q) [
          | inl s ↦ let here = s.1 in let is = s.0 in let eaten : P.eaten q ≡ P.eaten c = ap P.eaten is in let all : aseq P q ≡ aseq P c = ap (aseq P) is in omega arith
          | inr s ↦ let there = s.1 in let low = h.few q in omega arith
        ];
        front = λ q. elim (sent_items_at w.agents c p q) [
          | inl s ↦
              subst (λ n. WereSent P q n (published w c)) (ap (λ n. P.eaten q + n) (sym s.1))
              (subst (λ n. WereSent P n (P.eaten n + length items) (published w c)) (sym s.0) whole)
          | inr s ↦ λ i m low there. let is = s.1 in sent_still w (published w c) more m.thread m.number (h.front q i m (omega arith) there)
        ];
        ranked = rules_at w.agents c p refl;
      }

  publish_goes : (c : ℕ) (fails : Bool) (told : Reply) (new : PlainWorld) → IsPublished w c fails told new → Goes w new
  publish_goes c false told new said = subst (Goes w) (sym said.1) (published_goes c)
  publish_goes c true told new said = subst (Goes w) (sym said.1) (copied_all_goes c)

  -- a consume
  consume_goes : (c : ℕ) (r : Result Answer Refusal) (told : Reply) (new : PlainWorld) → IsConsumed w c r told new → Goes w new
  consume_goes c (Err why) told new said = refused_goes why told new said
  consume_goes c (Ok answer) told new said =
      let p = w.agents c in
      let made : Call = call.Consume c p.sent_items in
      subst (Goes w) (sym said.1)
      (own c (record p { sent_items = 0 }) (after w.kernel made) (inr (made, refl)) (h.known c) (λ q.
      let grown = laws.eaten w.kernel made q in
      let low = taken_le (refused (shown w.kernel) made) (takes made q) in
      let most = takes_le c p.sent_items q in
      elim (sent_items_at w.agents c (record p { sent_items = 0 }) q) [
        | inl s ↦ let here = s.1 in let is : (w.agents q).sent_items ≡ p.sent_items = ap (λ n. (w.agents n).sent_items) s.0 in omega arith
        | inr s ↦ let there = s.1 in let none = takes_none c p.sent_items q s.0 in omega arith
      ]) refl)

  -- a delivery, and an answer
  deliver_goes : (c : ℕ) (o : Option Set) (told : Reply) (new : PlainWorld) → ((set : Set) → o ≡ Some set → LiesIn run set) → IsDelivered w c o told new → Goes w new
  deliver_goes c None told new lies said = refused_goes _ told new said
  deliver_goes c (Some set) told new lies said = subst (Goes w) (sym said.1) (own_agent c (taking_in set (w.agents c)) (more_known c set (lies set refl)) (omega arith) refl)

  at_index : (k : ℕ) (set : Set) → slice_get w.sent k ≡ Some set → LiesIn run set
  at_index k set e = h.sent set (contained w.sent k set e)

  sending_goes : (c : ℕ) (set : Set) → ((t n : ℕ) → has set t n ≡ true → has (w.agents c).known t n ≡ true) → Goes w (sending w set)
  sending_goes c set within =
      calm limits w (sending w set) h (inl refl) h.known (λ s there. Contains-append_left w.sent (set ∷ []) s there) (λ s there. elim (Contains-push_cases w.sent set s there) [
        | inl before ↦ h.sent s before
        | inr last ↦ subst (LiesIn run) last (λ t n e. h.known c t n (within t n e))
      ]) (λ q. omega arith) (λ d. refl)

  -- a pick, and a steal
  commit_goes : (c n : ℕ) (names : List ℕ) (told : Reply) (new : PlainWorld) → IsCommitted w c n names told new → Goes w new
  commit_goes c n [] told new said = absurd said
  commit_goes c n (t ∷ rest) told new said =
      subst (Goes w) (sym said.1) (own_call (commits c t n) c (record (w.agents c) { list = rest }) (λ q. refl) (h.known c) (omega arith) refl)

  pick_goes : (c n : ℕ) (o : Option Refusal) (told : Reply) (new : PlainWorld) → IsPicked w c n o told new → Goes w new
  pick_goes c n None told new said = commit_goes c n (ready_list (shown w.kernel) c n (w.agents c).list) told new said
  pick_goes c n (Some why) told new said =
      subst (Goes w) (sym said.1) (own_agent c (record (w.agents c) { list = left_by why (w.agents c).list }) (h.known c) (omega arith) refl)

  take_goes : (c t : ℕ) (o : Option Refusal) (told : Reply) (new : PlainWorld) → IsTakenOver w c t o told new → Goes w new
  take_goes c t (Some why) told new said = refused_goes why told new said
  take_goes c t None told new said =
      subst (Goes w) (sym said.1)
      (own_call (takes_over c (w.agents c) t) c (record (w.agents c) { list = (w.agents c).list ++ t ∷ [] }) (λ q. refl) (h.known c) (omega arith) refl)

  try_goes : (c : ℕ) (o : Option ℕ) (told : Reply) (new : PlainWorld) → IsTried w c o told new → Goes w new
  try_goes c None told new said = refused_goes _ told new said
  try_goes c (Some t) told new said = take_goes c t (refused (shown w.kernel) (takes_over c (w.agents c) t)) told new said

  steal_goes : (c : ℕ) (busy : Bool) (told : Reply) (new : PlainWorld) → IsStolen w c busy told new → Goes w new
  steal_goes c true told new said = refused_goes _ told new said
  steal_goes c false told new said = try_goes c said.0 told new said.2

  crash_goes : (c : ℕ) (new : PlainWorld) → new ≡ record (with_agent w c (fresh (w.agents c).rules)) { kernel = after w.kernel (rouses c) } → Goes w new
  crash_goes c new is = subst (Goes w) (sym is) (own_call (rouses c) c (fresh (w.agents c).rules) (λ q. refl) (λ t n e. cc) (omega arith) refl)

  -- on a CPU that is there, or refused
  if_there : (there : Bool) (told : Reply) (new : PlainWorld) (Holds : Type 0) → (Holds → Goes w new) → MatchBool there Holds (IsBadCpu w told new) → Goes w new
  if_there true told new Holds goes said = goes said
  if_there false told new Holds goes said = refused_goes _ told new said

  step_goes : (e : Event) (told : Reply) (new : PlainWorld) → Step w e told new → Goes w new
  step_goes (event.Env c) told new s = called (call.Env c) new (λ q. refl) s.after
  step_goes (event.Agent c) told new s = called (call.Agent c) new (λ q. refl) s.after
  step_goes (event.Publish cpu fails) told new s = if_there (is_cpu (shown w.kernel) cpu) told new _ (publish_goes cpu fails told new) s
  step_goes (event.Consume cpu) told new s =
      if_there (is_cpu (shown w.kernel) cpu) told new _ (consume_goes cpu (kernel.reply w.kernel (call.Consume cpu (w.agents cpu).sent_items)) told new) s
  step_goes (event.Deliver cpu k) told new s = if_there (is_cpu (shown w.kernel) cpu) told new _ (deliver_goes cpu (slice_get w.sent k) told new (at_index k)) s
  step_goes (event.Answer cpu asker) told new s =
      if_there (are_cpus w cpu asker) told new (IsAnswered w cpu asker told new) (λ a. subst (Goes w) (sym a.after) (sending_goes cpu a.set a.answers.within)) s
  step_goes (event.Pick cpu n) told new s =
      if_there (is_cpu (shown w.kernel) cpu) told new _ (pick_goes cpu n (pick_refused (shown w.kernel) cpu n (w.agents cpu).list) told new) s
  step_goes (event.Steal cpu) told new s = if_there (is_cpu (shown w.kernel) cpu) told new _ (steal_goes cpu (is_some (on (shown w.kernel) cpu)) told new) s
  step_goes (event.Crash cpu) told new s = if_there (is_cpu (shown w.kernel) cpu) told new _ (λ said. crash_goes cpu new said.1) s

  -- without memory, and an answer to an older digest
  widened_goes : (c : ℕ) (more : Set) (new : PlainWorld) → LiesIn run more → IsWidened w c more new → Goes w new
  widened_goes c more new lies said =
      subst (Goes w) (sym said.after)
      (own_agent c (record (w.agents c) { known = said.set }) (λ t n e. elim (or_both (has (w.agents c).known t n) (has more t n) (said.between.at_most (t ∷ n ∷ []) e)) [
        | inl before ↦ h.known c t n before
        | inr added ↦ lies t n added
      ]) (omega arith) refl)

  publish_ran_out_goes : (c : ℕ) (fails : Bool) (new : PlainWorld) → RanOutInPublish w c fails new → Goes w new
  publish_ran_out_goes c true new part = widened_goes c (pairs_in (content w.kernel c)) new (content_in_run c) part
  publish_ran_out_goes c false new (inl part) = widened_goes c (pairs_in (content w.kernel c)) new (content_in_run c) part
  publish_ran_out_goes c false new (inr all) = subst (Goes w) (sym all) (copied_all_goes c)

  ran_out_goes : (e : Event) (new : PlainWorld) → RanOut w e new → Goes w new
  ran_out_goes (event.Env c) new s = still new s.1
  ran_out_goes (event.Agent c) new s = still new s.1
  ran_out_goes (event.Publish cpu fails) new s = publish_ran_out_goes cpu fails new s.1
  ran_out_goes (event.Consume cpu) new s = absurd s
  ran_out_goes (event.Deliver cpu k) new s = widened_goes cpu s.1 new (at_index k s.1 s.2) s.3
  ran_out_goes (event.Answer cpu asker) new s = still new s.1
  ran_out_goes (event.Pick cpu n) new s = absurd s
  ran_out_goes (event.Steal cpu) new s = still new s.4
  ran_out_goes (event.Crash cpu) new s = absurd s

  late_goes : (e : Event) (new : PlainWorld) → IsAnsweredLate w e new → Goes w new
  late_goes (event.Env c) new s = absurd s
  late_goes (event.Agent c) new s = absurd s
  late_goes (event.Publish cpu fails) new s = absurd s
  late_goes (event.Consume cpu) new s = absurd s
  late_goes (event.Deliver cpu k) new s = absurd s
  late_goes (event.Answer cpu asker) new s = let late = s.1 in subst (Goes w) (sym late.after) (sending_goes cpu late.set late.within)
  late_goes (event.Pick cpu n) new s = absurd s
  late_goes (event.Steal cpu) new s = absurd s
  late_goes (event.Crash cpu) new s = absurd s

  pub leads_goes : (e : Event) (new : PlainWorld) → LeadsTo w e new → Goes w new
  leads_goes e new (inl stepped) = step_goes e stepped.0 new stepped.1
  leads_goes e new (inr (inl late)) = late_goes e new late
  leads_goes e new (inr (inr ran_out)) = ran_out_goes e new ran_out
