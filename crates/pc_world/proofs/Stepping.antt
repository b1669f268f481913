-- Every event has a step.
use Rattle.std.proofs.Common.{◌≡◌, ℕ, zero, suc, ◌-◌, ◌≤◌, ◌<◌, ◌==◌, ◌&&◌, ◌⊎◌, Bool, true, false, nat_lt, not, cond, List, [], ◌∷◌, ◌++◌, length, Option, Some, None, Result, Ok, Err, MatchBool, All, is_none, is_some, slice_get, refl, sym, ◌∙◌, ap, subst, inl, inr, arith, if◌then◌else◌}
use Rattle.std.proofs.lemmas.Bool.{cases_lt}
use Rattle.std.proofs.lemmas.Bool.Decides.{nat_tests}
use Rattle.std.proofs.lemmas.List.Elements.{All-cons, All-nil}
use Rattle.pc_messages.specs.Run.{Run, kind_at}
use Rattle.pc_messages.specs.declared.kind.Kind.{Kind}
use Rattle.pc_calls.specs.AgentCalls.{commits, rouses}
use Rattle.pc_calls.specs.Conditions.{first_of}
use Rattle.pc_calls.specs.Events.{told_of}
use Rattle.pc_calls.specs.declared.call.Answer.{Answer}
use Rattle.pc_calls.specs.declared.call.Call.{Call}
use Rattle.pc_calls.specs.declared.call.Call.TheVariants as call
use Rattle.pc_calls.specs.declared.event.Event.{Event}
use Rattle.pc_calls.specs.declared.event.Event.TheVariants as event
use Rattle.pc_calls.specs.declared.event.Reply.{Reply}
use Rattle.pc_calls.specs.declared.event.Reply.TheVariants as replies
use Rattle.pc_calls.specs.declared.limits.Limits.{Limits}
use Rattle.pc_calls.specs.declared.refusal.Refusal.{Refusal}
use Rattle.pc_calls.specs.declared.refusal.Refusal.TheVariants as refusals
use Rattle.pc_join.specs.Sets.{has}
use Rattle.pc_kernel.specs.PlainKernel.{PlainKernel, kinds, content, is_known, threads}
use Rattle.pc_kernel.specs.Reads.{shown, is_cpu, on}
use Rattle.pc_kernel.specs.Reads as reads
use Rattle.pc_kernel.specs.Steps as kernel
use Rattle.pc_kernel.specs.Steps.{after, refused}
use Rattle.pc_delta.specs.declared.part.Part.{Part}
use Rattle.pc_delta.specs.declared.part.Part.TheVariants.{One}
use Rattle.pc_delta.specs.Parts.{AreOfRun, IsPartOfRun, pairs_of_parts}
use Rattle.pc_agent.specs.PlainAgent.{Set, fresh, is_empty_list, known_by, pick_refused, ready_list, runs_here, standing, taking_in}
use Rattle.pc_agent.specs.Running.{FindsFirst, left_by, takes_over}
use Rattle.pc_run_queue.specs.Names.{has_name}
use Rattle.pc_world.specs.Facts.{LiesIn}
use Rattle.pc_world.specs.PlainWorld.{PlainWorld, copied_all, published, sending, with_agent}
use Rattle.pc_world.specs.Steps.{IsAnswered, IsBadCpu, IsCommitted, IsConsumed, IsDelivered, IsNewTo, IsPicked, IsPublished, IsStolen, IsTakenOver, IsTried, Step, are_cpus, stealable}
use Rattle.pc_world.specs.Inner.Laws.{KernelLaws}
use Rattle.pc_world.proofs.Good.{IsGood}
use Rattle.pc_world.proofs.Pairs.{has_cons, has_first, has_next}

-- parts of single messages that tell what a digest lacks of a set
pub record Singles (run : Run) (view digest : Set) : Type 0 where
  pub parts : List Part
  pub of_run : AreOfRun run parts
  pub lacking : (t n : ℕ) → has view t n ≡ true → has digest t n ≡ false → has (pairs_of_parts parts) t n ≡ true
  pub within : (t n : ℕ) → has (pairs_of_parts parts) t n ≡ true → has view t n ≡ true
  pub none_spare : All (IsNewTo digest) parts

element : {X : Type 0} (xs : List X) (i : ℕ) → i < length xs → (x : X) × (slice_get xs i ≡ Some x)
element [] i low = absurd (omega arith)
element (x ∷ xs) zero low = (x, refl)
element (x ∷ xs) (suc i) low = element xs i (omega arith)

kind_there : (ks : List Kind) (n : ℕ) → 1 ≤ n → n ≤ length ks → (kind : Kind) × (kind_at ks n ≡ Some kind)
kind_there ks n low high =
    let some : (n == 0) ≡ false = grind (arith, nat_tests) in
    let at = element ks (n - 1) (omega arith) in
    (at.0, ap (λ b. cond b None (slice_get ks (n - 1))) some ∙ at.1)

abbrev single : ℕ → ℕ → Kind → Part
single t n kind = One record { thread = t; number = n; kind = kind }

singles : (run : Run) (view digest : Set) → LiesIn run view → Singles run view digest
singles run [] digest lies =
    record { parts = []; of_run = All-nil (IsPartOfRun run); lacking = λ t n e. cc; within = λ t n e. e; none_spare = All-nil (IsNewTo digest) }
singles run ((a, b) ∷ view) digest lies =
    let rest = singles run view digest (λ t n e. lies t n (has_next (a, b) view t n e)) in
    elim (has digest a b) as (λ known. has digest a b ≡ known → Singles run ((a, b) ∷ view) digest) [
      | true ↦ λ known. record {
        parts = rest.parts;
        of_run = rest.of_run;
        lacking = λ t n e lacks. elim (has_cons (a, b) view t n e) [
          | inl s ↦ let had : has digest t n ≡ true = subst (λ m. has digest t m ≡ true) s.1 (subst (λ m. has digest m b ≡ true) s.0 known) in cc
          | inr s ↦ rest.lacking t n s lacks
        ];
        within = λ t n e. has_next (a, b) view t n (rest.within t n e);
        none_spare = rest.none_spare;
      }
      | false ↦ λ unknown.
          let inside = lies a b (has_first a b view) in
          let kind = kind_there (run a) b inside.0 inside.1 in
          let part : Part = single a b kind.0 in
          record {
            parts = part ∷ rest.parts;
            of_run = All-cons (IsPartOfRun run) part rest.parts kind.1 rest.of_run;
            lacking = λ t n e lacks. elim (has_cons (a, b) view t n e) [
              | inl s ↦
                  subst (λ m. has (pairs_of_parts (part ∷ rest.parts)) t m ≡ true) s.1
                  (subst (λ m. has (pairs_of_parts (part ∷ rest.parts)) m b ≡ true) s.0 (has_first a b (pairs_of_parts rest.parts)))
              | inr s ↦ has_next (a, b) (pairs_of_parts rest.parts) t n (rest.lacking t n s lacks)
            ];
            within = λ t n e. elim (has_cons (a, b) (pairs_of_parts rest.parts) t n e) [
              | inl s ↦ subst (λ m. has ((a, b) ∷ view) t m ≡ true) s.1 (subst (λ m. has ((a, b) ∷ view) m b ≡ true) s.0 (has_first a b view))
              | inr s ↦ has_next (a, b) view t n (rest.within t n s)
            ];
            none_spare = All-cons (IsNewTo digest) part rest.parts (a, b, has_first a b [], unknown) rest.none_spare;
          }
    ] refl

-- the first that stands somewhere of those below a number
abbrev IsFirstBelow : (ℕ → Option ℕ) → ℕ → ℕ → ℕ → Type 0
IsFirstBelow stands n place t =
    (t < n) × (stands t ≡ Some place) × ((other behind : ℕ) → other < n → stands other ≡ Some behind → (place < behind) ⊎ ((place ≡ behind) × (t ≤ other)))

first_of_two : (p q : ℕ) → (q < p) ⊎ ((p < q) ⊎ (p ≡ q))
first_of_two p q = grind arith

before_both : (p q r : ℕ) → p < q → (q < r) ⊎ (q ≡ r) → p < r
before_both p q r e f = grind arith

either : (a b : ℕ) (Q : Type 0) → (a < b) ⊎ ((a ≡ b) × Q) → (a < b) ⊎ (a ≡ b)
either a b Q (inl less) = inl less
either a b Q (inr same) = inr same.0

search_below : (stands : ℕ → Option ℕ) (n : ℕ) → ((t : ℕ) → t < n → stands t ≡ None) ⊎ ((place : ℕ) × (t : ℕ) × IsFirstBelow stands n place t)
search_below stands zero = inl (λ t low. absurd (omega arith))
search_below stands (suc n) = elim (search_below stands n) [
  | inl none ↦ elim (stands n) as (λ o. stands n ≡ o → ((t : ℕ) → t < suc n → stands t ≡ None) ⊎ ((place : ℕ) × (t : ℕ) × IsFirstBelow stands (suc n) place t)) [
    | None ↦ λ no. inl (λ t low. elim (cases_lt t n) [
      | inl before ↦ none t before
      | inr last ↦ let same : t ≡ n = omega arith in ap stands same ∙ no
    ])
    | Some place ↦ λ yes. inr (
      place,
      n,
      (
        omega arith,
        yes,
        λ other behind low e. elim (cases_lt other n) [
          | inl before ↦ absurd (let nowhere : stands other ≡ None = none other before in let no : ⊥ = cc in no)
          | inr last ↦ let same : other ≡ n = omega arith in let here : stands other ≡ Some place = ap stands same ∙ yes in let both : place ≡ behind = cc in inr (both, omega arith)
        ],
      ),
    )
  ] refl
  | inr found ↦ elim (stands n) as (λ o. stands n ≡ o → ((t : ℕ) → t < suc n → stands t ≡ None) ⊎ ((place : ℕ) × (t : ℕ) × IsFirstBelow stands (suc n) place t)) [
    | None ↦ λ no. inr (
      found.0,
      found.1,
      (
        let low = found.2.0 in omega arith,
        found.2.1,
        λ other behind low e. elim (cases_lt other n) [
          | inl before ↦ found.2.2 other behind before e
          | inr last ↦ absurd (let same : other ≡ n = omega arith in let nowhere : stands other ≡ None = ap stands same ∙ no in let none : ⊥ = cc in none)
        ],
      ),
    )
    | Some place ↦ λ yes. elim (first_of_two found.0 place) [
      | inl earlier ↦ inr (
        place,
        n,
        (
          omega arith,
          yes,
          λ other behind low e. elim (cases_lt other n) [
            | inl before ↦ inl (before_both place found.0 behind earlier (either found.0 behind (found.1 ≤ other) (found.2.2 other behind before e)))
            | inr last ↦ let same : other ≡ n = omega arith in let here : stands other ≡ Some place = ap stands same ∙ yes in let both : place ≡ behind = cc in inr (both, omega arith)
          ],
        ),
      )
      | inr later ↦ inr (
        found.0,
        found.1,
        (
          let low = found.2.0 in omega arith,
          found.2.1,
          λ other behind low e. elim (cases_lt other n) [
            | inl before ↦ found.2.2 other behind before e
            | inr last ↦
                let same : other ≡ n = omega arith in
                let here : stands other ≡ Some place = ap stands same ∙ yes in
                let both : place ≡ behind = cc in
                elim later [
                  | inl less ↦ inl (subst (λ m. found.0 < m) both less)
                  | inr even ↦ inr (even ∙ both, let low = found.2.0 in omega arith)
                ]
          ],
        ),
      )
    ]
  ] refl
]

pub finds : (stands : ℕ → Option ℕ) (bound : ℕ) → ((t : ℕ) → bound ≤ t → stands t ≡ None) → (o : Option ℕ) × FindsFirst stands o
finds stands bound above = elim (search_below stands bound) [
  | inl none ↦ (None, λ t. elim (cases_lt t bound) [ inl low ↦ none t low | inr high ↦ above t high ])
  | inr found ↦ (
    Some found.1,
    record {
      place = found.0;
      there = found.2.1;
      first = λ other behind e. elim (cases_lt other bound) [
        | inl low ↦ found.2.2 other behind low e
        | inr high ↦ absurd (let nowhere : stands other ≡ None = above other high in let none : ⊥ = cc in none)
      ];
    },
  )
]

and_false : (a b c : Bool) → b ≡ false → (a && (b && c)) ≡ false
and_false true false c e = refl
and_false true true c e = cc
and_false false b c e = refl

above_all : (a b : ℕ) → b ≤ a → nat_lt a b ≡ false
above_all a b e = grind (arith, nat_tests)

third : (a b c : Bool) (x y z : Refusal) → first_of ((a, x) ∷ (b, y) ∷ (c, z) ∷ []) ≡ None → c ≡ false
third true b c x y z e = cc
third false true c x y z e = cc
third false false true x y z e = cc
third false false false x y z e = refl

-- what a step comes to
abbrev pub Can : (Reply → PlainWorld → Type 0) → Type 0
Can Holds = (told : Reply) × (new : PlainWorld) × Holds told new

module _ (laws : KernelLaws) (limits : Limits) (w : PlainWorld) (h : IsGood limits w) where
  on_cpu : (there : Bool) (Holds : Reply → PlainWorld → Type 0) → Can Holds → Can (λ told new. MatchBool there (Holds told new) (IsBadCpu w told new))
  on_cpu true Holds some = some
  on_cpu false Holds some = (replies.Refused refusals.BadCpu, w, record { refused = refl; same = refl })

  publish_step : (c : ℕ) (fails : Bool) → Can (IsPublished w c fails)
  publish_step c false = (replies.Published (length w.sent) (length (content w.kernel c)), published w c, (refl, refl))
  publish_step c true = (replies.Refused refusals.WireFault, copied_all w c, (refl, refl))

  consume_step : (c : ℕ) (r : Result Answer Refusal) → Can (IsConsumed w c r)
  consume_step c (Ok answer) =
      let p = w.agents c in
      (replies.Consumed p.sent_items, record (with_agent w c (record p { sent_items = 0 })) { kernel = after w.kernel (call.Consume c p.sent_items) }, (refl, refl))
  consume_step c (Err why) = (replies.Refused why, w, record { refused = refl; same = refl })

  deliver_step : (c : ℕ) (o : Option Set) → Can (IsDelivered w c o)
  deliver_step c None = (replies.Refused refusals.NoDelta, w, record { refused = refl; same = refl })
  deliver_step c (Some set) = (replies.Done, with_agent w c (taking_in set (w.agents c)), (refl, refl))

  answer_step : (c asker : ℕ) → Can (IsAnswered w c asker)
  answer_step c asker =
      let s = singles (kinds w.kernel) (w.agents c).known (w.agents asker).known (h.known c) in
      let set : Set = pairs_of_parts s.parts in (
        replies.Answered (length w.sent),
        sending w set,
        record {
          set = set;
          answers = record { parts = s.parts; of_run = s.of_run; pairs = refl; lacking = s.lacking; within = s.within; none_spare = s.none_spare };
          tells = refl;
          after = refl;
        },
      )

  commit_step : (c n : ℕ) (names : List ℕ) → is_empty_list names ≡ false → Can (IsCommitted w c n names)
  commit_step c n [] some = cc
  commit_step c n (t ∷ rest) some =
      (replies.Committed c t, record (with_agent w c (record (w.agents c) { list = rest })) { kernel = after w.kernel (commits c t n) }, (refl, refl))

  pick_step : (c n : ℕ) (o : Option Refusal) → pick_refused (shown w.kernel) c n (w.agents c).list ≡ o → Can (IsPicked w c n o)
  pick_step c n None e =
      let names = ready_list (shown w.kernel) c n (w.agents c).list in
      commit_step c n names
      (third (not (n == reads.aseq_read (shown w.kernel) c)) (is_some (on (shown w.kernel) c)) (is_empty_list names) (refusals.Stale (reads.aseq_read (shown w.kernel) c)) refusals.Busy refusals.NothingReady e)
  pick_step c n (Some why) e = (replies.Refused why, with_agent w c (record (w.agents c) { list = left_by why (w.agents c).list }), (refl, refl))

  take_step : (c t : ℕ) (o : Option Refusal) → Can (IsTakenOver w c t o)
  take_step c t None =
      let p = w.agents c in
      (replies.Associated c t, record (with_agent w c (record p { list = p.list ++ t ∷ [] })) { kernel = after w.kernel (takes_over c p t) }, (refl, refl))
  take_step c t (Some why) = (replies.Refused why, w, record { refused = refl; same = refl })

  try_step : (c : ℕ) (o : Option ℕ) → Can (IsTried w c o)
  try_step c None = (replies.Refused refusals.NothingToSteal, w, record { refused = refl; same = refl })
  try_step c (Some t) = take_step c t (refused (shown w.kernel) (takes_over c (w.agents c) t))

  pub unknown_above : (c t : ℕ) → threads w.kernel ≤ t → stealable w c t ≡ None
  unknown_above c t high =
      let P = w.kernel in
      let dense : is_known P t ≡ nat_lt t (threads P) = subst (λ (P : PlainKernel). is_known P t ≡ nat_lt t (threads P)) (sym h.replayed) (laws.dense limits h.calls t) in
      let unknown : reads.is_known (shown P) t ≡ false = (laws.reads P).known t ∙ dense ∙ above_all t (threads P) high in
      ap (λ b. if b then standing (w.agents c).rules (shown P) (known_by (kinds P) (w.agents c).known) c t else None)
      (and_false (runs_here (kinds P) (w.agents c).known c t && not (has_name (w.agents c).list t)) (reads.is_known (shown P) t) (is_none (reads.place (shown P) t)) unknown)

  steal_step : (c : ℕ) (busy : Bool) → Can (IsStolen w c busy)
  steal_step c true = (replies.Refused refusals.Busy, w, record { refused = refl; same = refl })
  steal_step c false =
      let first = finds (stealable w c) (threads w.kernel) (unknown_above c) in
      let tried = try_step c first.0 in
      (tried.0, tried.1, (first.0, first.1, tried.2))

  crash_step : (c : ℕ) → Can (λ told new. (told ≡ replies.Done) × (new ≡ record (with_agent w c (fresh (w.agents c).rules)) { kernel = after w.kernel (rouses c) }))
  crash_step c = (replies.Done, record (with_agent w c (fresh (w.agents c).rules)) { kernel = after w.kernel (rouses c) }, (refl, refl))

  abbrev called : Call → Reply
  called made = told_of made (kernel.reply w.kernel made)

  abbrev made_by : Call → PlainWorld
  made_by made = record w { kernel = after w.kernel made }

  pub has_step : (e : Event) → Can (Step w e)
  has_step (event.Env c) = (called (call.Env c), made_by (call.Env c), record { tells = refl; after = refl })
  has_step (event.Agent c) = (called (call.Agent c), made_by (call.Agent c), record { tells = refl; after = refl })
  has_step (event.Publish cpu fails) = on_cpu (is_cpu (shown w.kernel) cpu) (IsPublished w cpu fails) (publish_step cpu fails)
  has_step (event.Consume cpu) =
      let r = kernel.reply w.kernel (call.Consume cpu (w.agents cpu).sent_items) in on_cpu (is_cpu (shown w.kernel) cpu) (IsConsumed w cpu r) (consume_step cpu r)
  has_step (event.Deliver cpu k) = on_cpu (is_cpu (shown w.kernel) cpu) (IsDelivered w cpu (slice_get w.sent k)) (deliver_step cpu (slice_get w.sent k))
  has_step (event.Answer cpu asker) = on_cpu (are_cpus w cpu asker) (IsAnswered w cpu asker) (answer_step cpu asker)
  has_step (event.Pick cpu n) =
      let o = pick_refused (shown w.kernel) cpu n (w.agents cpu).list in on_cpu (is_cpu (shown w.kernel) cpu) (IsPicked w cpu n o) (pick_step cpu n o refl)
  has_step (event.Steal cpu) =
      let busy = is_some (on (shown w.kernel) cpu) in on_cpu (is_cpu (shown w.kernel) cpu) (IsStolen w cpu busy) (steal_step cpu busy)
  has_step (event.Crash cpu) =
      on_cpu (is_cpu (shown w.kernel) cpu) (λ told new. (told ≡ replies.Done) × (new ≡ record (with_agent w cpu (fresh (w.agents cpu).rules)) { kernel = after w.kernel (rouses cpu) })) (crash_step cpu)
