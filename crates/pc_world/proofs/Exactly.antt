-- What a consume, a steal, a commit and a pick find.
use Rattle.std.proofs.Common.{◌≡◌, ℕ, ◌≤◌, ◌==◌, ◌||◌, Bool, true, false, nat_lt, not, List, [], ◌∷◌, length, take, Option, Some, None, MatchBool, is_none, is_some, refl, sym, ◌∙◌, ap, subst, inl, inr, arith, if◌then◌else◌}
use Rattle.std.specs.List.{filter_map, cons_option, list_any}
use Rattle.std.specs.Option.{option_map_or}
use Rattle.std.proofs.lemmas.Bool.{MatchBool-at_true, cases_eq}
use Rattle.std.proofs.lemmas.Bool.Decides.{nat_tests}
use Rattle.pc_messages.specs.Items.{is_of, message_in}
use Rattle.pc_messages.specs.State.{state_of}
use Rattle.pc_messages.specs.declared.message.Item.{Item}
use Rattle.pc_messages.specs.declared.message.Item.TheVariants as item
use Rattle.pc_calls.specs.AgentCalls.{commits}
use Rattle.pc_calls.specs.Conditions.{first_of}
use Rattle.pc_calls.specs.Events.{told_of}
use Rattle.pc_calls.specs.declared.call.AgentCall.TheVariants as agent_call
use Rattle.pc_calls.specs.declared.call.Answer.TheVariants.{Done}
use Rattle.pc_calls.specs.declared.call.Call.TheVariants as call
use Rattle.pc_calls.specs.declared.event.Event.TheVariants as event
use Rattle.pc_calls.specs.declared.event.Reply.{Reply}
use Rattle.pc_calls.specs.declared.event.Reply.TheVariants as replies
use Rattle.pc_calls.specs.declared.limits.Limits.{Limits}
use Rattle.pc_calls.specs.declared.refusal.Refusal.{Refusal}
use Rattle.pc_calls.specs.declared.refusal.Refusal.TheVariants as refusals
use Rattle.pc_kernel.specs.Exact.{IsExactAssociate, IsExactCommit}
use Rattle.pc_kernel.specs.Facts.{IsAtHome, waiting}
use Rattle.pc_kernel.specs.PlainKernel.{PlainKernel, kinds, is_known, content}
use Rattle.pc_kernel.specs.Reads.{shown, is_cpu, is_pending, on, thread_row}
use Rattle.pc_kernel.specs.Reads as reads
use Rattle.pc_kernel.specs.Rows.{ThreadRow}
use Rattle.pc_kernel.specs.Steps.{refused, reply_of}
use Rattle.pc_view.specs.Prefixes.{upto}
use Rattle.pc_agent.specs.PlainAgent.{from_first, pick_refused, ready_list}
use Rattle.pc_agent.specs.Running.{takes_over}
use Rattle.pc_world.specs.Facts.{IsExactSteal}
use Rattle.pc_world.specs.PlainWorld.{PlainWorld}
use Rattle.pc_world.specs.Steps.{IsBadCpu, IsCommitted, IsConsumed, IsPicked, IsStolen, IsTakenOver, IsTried, Step}
use Rattle.pc_world.specs.Inner.Laws.{KernelLaws}
use Rattle.pc_world.proofs.Good.{IsGood}
use Rattle.pc_world.proofs.Reaching.{counted_short}

not_below : (a b : ℕ) → b ≤ a → nat_lt a b ≡ false
not_below a b e = grind (arith, nat_tests)

no_refusal_associated : (t c : ℕ) (why : Refusal) → ◌≡◌ {A = Reply} (replies.Associated c t) (replies.Refused why) → ⊥
no_refusal_associated t c why e = cc

no_refusal_committed : (t c : ℕ) (why : Refusal) → ◌≡◌ {A = Reply} (replies.Committed c t) (replies.Refused why) → ⊥
no_refusal_committed t c why e = cc

same_associated : (t u c : ℕ) → ◌≡◌ {A = Reply} (replies.Associated c t) (replies.Associated c u) → u ≡ t
same_associated t u c e = cc

same_committed : (t u c : ℕ) → ◌≡◌ {A = Reply} (replies.Committed c t) (replies.Committed c u) → u ≡ t
same_committed t u c e = cc

-- of two conditions neither holds
neither : (a b : Bool) (x y : Refusal) → a ≡ true → b ≡ false → first_of ((not a, x) ∷ (b, y) ∷ []) ≡ None
neither true false x y e f = refl
neither true true x y e f = cc
neither false b x y e f = cc

-- a consume
module _ (laws : KernelLaws) (limits : Limits) (w : PlainWorld) (h : IsGood limits w) (c : ℕ) (there : is_cpu (shown w.kernel) c ≡ true) where
  pub consume_accepted : refused (shown w.kernel) (call.Consume c (w.agents c).sent_items) ≡ None
  consume_accepted =
      let held : length (reads.content_read (shown w.kernel) c) ≡ length (content w.kernel c) = ap length ((laws.reads w.kernel).content c there) in
      let short = counted_short laws limits w h c in
      let enough : nat_lt (length (reads.content_read (shown w.kernel) c)) (w.agents c).sent_items ≡ false = not_below (length (reads.content_read (shown w.kernel) c)) (w.agents c).sent_items (omega arith) in
      neither (is_cpu (shown w.kernel) c) (nat_lt (length (reads.content_read (shown w.kernel) c)) (w.agents c).sent_items) refusals.BadCpu refusals.TooMany there enough

  pub consume_takes : (told : Reply) (new : PlainWorld) → Step w (event.Consume c) told new → told ≡ replies.Consumed (w.agents c).sent_items
  consume_takes told new s =
      let did = MatchBool-at_true (IsConsumed w c (reply_of (refused (shown w.kernel) (call.Consume c (w.agents c).sent_items)) Done) told new) (IsBadCpu w told new) there s in
      (subst (λ o. IsConsumed w c (reply_of o Done) told new) consume_accepted did).0

-- a steal
module _ (w new : PlainWorld) (c t : ℕ) where
  abbrev told : Reply
  told = replies.Associated c t

  abbrev Accepts : ℕ → Type 0
  Accepts u = refused (shown w.kernel) (takes_over c (w.agents c) u) ≡ None

  take_accepted : (u : ℕ) (o : Option Refusal) → IsTakenOver w c u o told new → (o ≡ None) × (u ≡ t)
  take_accepted u None said = (refl, same_associated t u c said.0)
  take_accepted u (Some why) said = absurd (no_refusal_associated t c why said.refused)

  try_accepted : (o : Option ℕ) → IsTried w c o told new → Accepts t
  try_accepted None said = absurd (no_refusal_associated t c refusals.NothingToSteal said.refused)
  try_accepted (Some u) said = let did = take_accepted u (refused (shown w.kernel) (takes_over c (w.agents c) u)) said in subst Accepts did.1 did.0

  steal_accepted : (busy : Bool) → IsStolen w c busy told new → Accepts t
  steal_accepted true said = absurd (no_refusal_associated t c refusals.Busy said.refused)
  steal_accepted false said = try_accepted said.0 said.2

  if_there : (there : Bool) → MatchBool there (IsStolen w c (is_some (on (shown w.kernel) c)) told new) (IsBadCpu w told new) → Accepts t
  if_there true said = steal_accepted (is_some (on (shown w.kernel) c)) said
  if_there false said = absurd (no_refusal_associated t c refusals.BadCpu said.refused)

  pub accepted_steal : Step w (event.Steal c) told new → Accepts t
  accepted_steal s = if_there (is_cpu (shown w.kernel) c) s

-- nothing of the thread waits where nothing is pending at home
none_pending : (t : ℕ) (items : List Item) → list_any (is_of t) items ≡ false → filter_map (message_in t) items ≡ []
none_pending t [] e = refl
none_pending t (item.Tick cpu ∷ items) e = none_pending t items e
none_pending t (item.Thread m ∷ items) e = elim (m.thread == t) as (λ b. (b || list_any (is_of t) items) ≡ false → cons_option (if b then Some m else None) (filter_map (message_in t) items) ≡ []) [
  | true ↦ λ s. cc
  | false ↦ λ s. none_pending t items s
] e

pub home_read : (P : PlainKernel) (t : ℕ) → is_known P t ≡ true → reads.home (shown P) t ≡ P.home t
home_read P t e = ap (λ b. option_map_or (λ (row : ThreadRow). row.home) (if b then Some (thread_row P t) else None) 0) e

pub take_whole : {X : Type 0} (xs : List X) → take (length xs) xs ≡ xs
take_whole [] = refl
take_whole (x ∷ xs) = ap (λ l. x ∷ l) (take_whole xs)

module _ (laws : KernelLaws) (limits : Limits) (w : PlainWorld) (h : IsGood limits w) where
  nowhere : (t n : ℕ) → IsExactAssociate w.kernel t n → (q : ℕ) → waiting w.kernel t q ≡ []
  nowhere t n exact q =
      let P = w.kernel in
      let home : IsAtHome P t = subst (λ P. IsAtHome P t) (sym h.replayed) (laws.home limits h.calls t) in
      let cpu : is_known P t ≡ true → is_cpu (shown P) (P.home t) ≡ true =
      subst (λ (P : PlainKernel). is_known P t ≡ true → is_cpu (shown P) (P.home t) ≡ true) (sym h.replayed) (laws.homes limits h.calls t) in
      let held : reads.content_read (shown P) (reads.home (shown P) t) ≡ content P (P.home t) =
      ap (reads.content_read (shown P)) (home_read P t exact.known) ∙ (laws.reads P).content (P.home t) (cpu exact.known) in
      elim (cases_eq q (P.home t)) [
        | inl e ↦ ap (waiting P t) e ∙ none_pending t (content P (P.home t)) (ap (list_any (is_of t)) (sym held) ∙ exact.nothing_waits)
        | inr o ↦ home.elsewhere q o
      ]

  pub exact_steal : (new : PlainWorld) (c t : ℕ) → Step w (event.Steal c) (replies.Associated c t) new → IsExactSteal w c t
  exact_steal new c t s =
      let exact = laws.associates w.kernel t c (upto (w.agents c).known t) (accepted_steal w new c t s) in
      record {
        whole = exact.current;
        state = ap state_of (ap (λ n. take n (kinds w.kernel t)) exact.current ∙ take_whole (kinds w.kernel t));
        nothing_waits = nowhere t (upto (w.agents c).known t) exact;
      }

-- a commit, and a pick
pub first_passes : (test : ℕ → Bool) (names : List ℕ) (t : ℕ) (rest : List ℕ) → from_first test names ≡ t ∷ rest → test t ≡ true
first_passes test [] t rest e = cc
first_passes test (u ∷ names) t rest e = elim (test u) as (λ b. test u ≡ b → (if b then u ∷ names else from_first test names) ≡ t ∷ rest → test t ≡ true) [
  | true ↦ λ yes s. let same : u ≡ t = cc in subst (λ n. test n ≡ true) same yes
  | false ↦ λ no s. first_passes test names t rest s
] refl e

pub none_is : (o : Option Refusal) → is_none o ≡ true → o ≡ None
none_is None e = refl
none_is (Some why) e = cc

module _ (laws : KernelLaws) (w new : PlainWorld) (c t n : ℕ) where
  abbrev committed : Reply
  committed = replies.Committed c t

  accepted_commit : (o : Option Refusal) → committed ≡ told_of (commits c t n) (reply_of o Done) → o ≡ None
  accepted_commit None e = refl
  accepted_commit (Some why) e = absurd (no_refusal_committed t c why e)

  pub exact_commit : Step w (event.Agent (agent_call.Commit c t n)) committed new → IsExactCommit w.kernel c t n
  exact_commit s = laws.commits w.kernel c t n (accepted_commit (refused (shown w.kernel) (commits c t n)) s.tells)

  picked_first : (names : List ℕ) → ready_list (shown w.kernel) c n (w.agents c).list ≡ names → IsCommitted w c n names committed new → IsExactCommit w.kernel c t n
  picked_first [] e said = absurd said
  picked_first (u ∷ rest) e said =
      let passes = first_passes (λ u. is_none (refused (shown w.kernel) (commits c u n))) (w.agents c).list u rest e in
      subst (λ u. IsExactCommit w.kernel c u n) (same_committed t u c said.0) (laws.commits w.kernel c u n (none_is (refused (shown w.kernel) (commits c u n)) passes))

  picked_unless : (o : Option Refusal) → IsPicked w c n o committed new → IsExactCommit w.kernel c t n
  picked_unless None said = picked_first (ready_list (shown w.kernel) c n (w.agents c).list) refl said
  picked_unless (Some why) said = absurd (no_refusal_committed t c why said.0)

  picked_there : (there : Bool) → MatchBool there (IsPicked w c n (pick_refused (shown w.kernel) c n (w.agents c).list) committed new) (IsBadCpu w committed new) → IsExactCommit w.kernel c t n
  picked_there true said = picked_unless (pick_refused (shown w.kernel) c n (w.agents c).list) said
  picked_there false said = absurd (no_refusal_committed t c refusals.BadCpu said.refused)

  pub exact_pick : Step w (event.Pick c n) committed new → IsExactCommit w.kernel c t n
  exact_pick s = picked_there (is_cpu (shown w.kernel) c) s
