-- An agent whose CPU idles can take over each thread that waits for it.
use Rattle.std.proofs.Common.{◌≡◌, ℕ, zero, suc, ◌+◌, ◌≤◌, ◌<◌, ◌==◌, ◌&&◌, ◌||◌, ◌⊎◌, Bool, true, false, not, List, [], ◌∷◌, ◌++◌, length, Option, Some, None, is_none, is_some, refl, sym, ◌∙◌, ap, subst, inl, inr, arith, if◌then◌else◌}
use Rattle.std.specs.Prelude.{◌↔◌, IsTrue}
use Rattle.std.specs.List.{filter_map}
use Rattle.std.specs.Option.{option_and_then}
use Rattle.std.proofs.lemmas.Bool.{cases_lt, false≢true}
use Rattle.std.proofs.lemmas.Bool.Decides.{nat_tests}
use Rattle.std.proofs.lemmas.List.Folds.{list_any-append}
use Rattle.pc_calls.specs.declared.event.Event.TheVariants as event
use Rattle.pc_calls.specs.declared.event.Reply.TheVariants as replies
use Rattle.pc_calls.specs.declared.limits.Limits.{Limits}
use Rattle.pc_calls.specs.declared.refusal.Refusal.TheVariants as refusals
use Rattle.pc_join.specs.Sets.{has}
use Rattle.pc_messages.specs.declared.kind.Kind.{Kind}
use Rattle.pc_kernel.specs.PlainKernel.{PlainKernel, Post, content, is_known, kind_in, kinds, number, place_of, threads}
use Rattle.pc_kernel.specs.Reads.{Reads, shown, is_cpu, thread_row}
use Rattle.pc_kernel.specs.Reads as reads
use Rattle.pc_kernel.specs.Rows.{ThreadRow}
use Rattle.pc_view.specs.Prefixes.{reports, upto}
use Rattle.pc_run_queue.specs.Names.{has_name}
use Rattle.pc_run_queue.specs.Runs.{may_run, rank_told}
use Rattle.pc_agent.specs.PlainAgent.{PlainAgent, is_idle, is_wanted, known_by, may_take, standing, stealing}
use Rattle.pc_agent.specs.Running.{FindsFirst}
use Rattle.pc_world.specs.Facts.{IsInRun}
use Rattle.pc_world.specs.Mending.{IsBack, IsIdle, IsStolenBy, LeadTo, WaitsFor, learning, recovering, robbing}
use Rattle.pc_world.specs.PlainWorld.{PlainWorld}
use Rattle.pc_world.specs.Steps.{IsBadCpu, IsStolen, Runs, Step, stealable}
use Rattle.pc_world.specs.Inner.Laws.{KernelLaws}
use Rattle.pc_world.proofs.Clearing.{Comes, good_after, runs_append}
use Rattle.pc_world.proofs.Good.{IsGood}
use Rattle.pc_world.proofs.Learning.{learns}
use Rattle.pc_world.proofs.Mended.{homed, still_idle}
use Rattle.pc_world.proofs.Picking.{agent_then, both_of, is_free, made, stands, steals_it, y}
use Rattle.pc_world.proofs.Places.{match_true}
use Rattle.pc_world.proofs.Stepping.{finds, unknown_above}
use Rattle.pc_world.proofs.Taken.{at_some, both}

-- how many threads below a number stand somewhere
abbrev pub count_one : Option ℕ → ℕ
count_one None = 0
count_one (Some place) = 1

abbrev pub left : (ℕ → Option ℕ) → ℕ → ℕ
left f zero = 0
left f (suc n) = left f n + count_one (f n)

one_at_most : (o : Option ℕ) → count_one o ≤ 1
one_at_most None = omega arith
one_at_most (Some place) = omega arith

left_few : (f : ℕ → Option ℕ) (n : ℕ) → left f n ≤ n
left_few f zero = omega arith
left_few f (suc n) = let few = left_few f n in let one = one_at_most (f n) in omega arith

left_none : (f : ℕ → Option ℕ) (n : ℕ) → ((t : ℕ) → f t ≡ None) → left f n ≡ 0
left_none f zero none = refl
left_none f (suc n) none = let before = left_none f n none in let here : count_one (f n) ≡ 0 = ap count_one (none n) in omega arith

-- those that stand in the second list stand in the first
abbrev StandStill : (ℕ → Option ℕ) → (ℕ → Option ℕ) → Type 0
StandStill more less = (t place : ℕ) → less t ≡ Some place → more t ≡ Some place

no_more : (more less : Option ℕ) → ((place : ℕ) → less ≡ Some place → more ≡ Some place) → count_one less ≤ count_one more
no_more more None h = omega arith
no_more more (Some place) h = let is : count_one more ≡ 1 = ap count_one (h place refl) in omega arith

left_less : (more less : ℕ → Option ℕ) (n : ℕ) → StandStill more less → left less n ≤ left more n
left_less more less zero h = omega arith
left_less more less (suc n) h = let before = left_less more less n h in let here = no_more (more n) (less n) (h n) in omega arith

left_fewer : (more less : ℕ → Option ℕ) (n u place : ℕ) → StandStill more less → u < n → more u ≡ Some place → less u ≡ None → left less n + 1 ≤ left more n
left_fewer more less zero u place h low there gone = absurd (omega arith)
left_fewer more less (suc n) u place h low there gone = elim (cases_lt u n) [
  | inl below ↦ let before = left_fewer more less n u place h below there gone in let here = no_more (more n) (less n) (h n) in omega arith
  | inr last ↦
      let same : u ≡ n = omega arith in
      let one : count_one (more n) ≡ 1 = ap (λ m. count_one (more m)) (sym same) ∙ ap count_one there in
      let none : count_one (less n) ≡ 0 = ap (λ m. count_one (less m)) (sym same) ∙ ap count_one gone in
      let before = left_less more less n h in
      omega arith
]

none_left : (f : ℕ → Option ℕ) (n t : ℕ) → left f n ≡ 0 → t < n → f t ≡ None
none_left f zero t e low = absurd (omega arith)
none_left f (suc n) t e low = elim (cases_lt t n) [
  | inl below ↦ none_left f n t (omega arith) below
  | inr last ↦ let same : t ≡ n = omega arith in ap f same ∙ by_one (f n) (omega arith)
]
  where
    by_one : (o : Option ℕ) → count_one o ≡ 0 → o ≡ None
    by_one None e = refl
    by_one (Some place) e = absurd (omega arith)

not_before : (a b : Bool) → not (a || b) ≡ true → not a ≡ true
not_before true b e = e
not_before false b e = refl

listed_last : (a b : Bool) → b ≡ true → (a || b) ≡ true
listed_last true b e = refl
listed_last false b e = e

unwanted_there : (a b : Bool) → b ≡ true → (a && not b) ≡ false
unwanted_there true b e = ap not e
unwanted_there false b e = refl

itself : (n : ℕ) → ((n == n) || false) ≡ true
itself n = elim (cases_same n) [ inl e ↦ ap (λ b. b || false) e | inr o ↦ o ]
  where
    cases_same : (n : ℕ) → ((n == n) ≡ true) ⊎ (((n == n) || false) ≡ true)
    cases_same n = inl (grind (arith, nat_tests))

-- a steal takes its thread from those that stand somewhere, and adds none
module _ (laws : KernelLaws) (K : PlainKernel) (c u : ℕ) (a : PlainAgent) where
  abbrev H : PlainKernel
  H = homed K u c

  abbrev b : PlainAgent
  b = record a { list = a.list ++ u ∷ [] }

  place_read : (P : PlainKernel) (t : ℕ) → is_known P t ≡ true → reads.place (shown P) t ≡ place_of P t
  place_read P t e = ap (λ known. option_and_then (λ (row : ThreadRow). row.on) (if known then Some (thread_row P t) else None)) e

  same_standing : (t : ℕ) → standing a.rules (shown H) (known_by (kinds K) a.known) c t ≡ standing a.rules (shown K) (known_by (kinds K) a.known) c t
  same_standing t =
      ap (λ n. if a.rules.exact then (if upto a.known t == n then rank_told a.rules.ranks c t (reports (kinds K) a.known t) else None) else Some 0)
      ((laws.reads H).number t ∙ sym ((laws.reads K).number t))

  abbrev runs : ℕ → Bool
  runs t = may_run (reports (kinds K) a.known t) c

  pub stood : StandStill (stealing (shown K) (kinds K) c a) (stealing (shown H) (kinds K) c b)
  stood t place e =
      let known = known_by (kinds K) a.known in
      let chosen = at_some (may_take (shown H) runs b.list t) (standing a.rules (shown H) known c t) place e in
      let wanted = both (is_wanted runs b.list t) (is_idle (shown H) t) chosen.0 in
      let here = both (runs t) (not (has_name b.list t)) wanted.0 in
      let idle = both (reads.is_known (shown H) t) (is_none (reads.place (shown H) t)) wanted.1 in
      let unlisted = not_before (has_name a.list t) (has_name (u ∷ []) t) (sym (ap not (list_any-append (λ x. x == t) a.list (u ∷ []))) ∙ here.1) in
      let there : is_known K t ≡ true = sym ((laws.reads H).known t) ∙ idle.0 in
      let free : is_none (reads.place (shown K) t) ≡ true = ap is_none (place_read K t there ∙ sym (place_read H t there)) ∙ idle.1 in
      let takes = both_of (is_wanted runs a.list t) (is_idle (shown K) t) (both_of (runs t) (not (has_name a.list t)) here.0 unlisted)
      (both_of (reads.is_known (shown K) t) (is_none (reads.place (shown K) t)) ((laws.reads K).known t ∙ there) free) in
      ap (λ may. if may then standing a.rules (shown K) known c t else None) takes ∙ sym (same_standing t) ∙ chosen.1

  pub gone : stealing (shown H) (kinds K) c b u ≡ None
  gone =
      let known = known_by (kinds K) a.known in
      let listed : has_name b.list u ≡ true = list_any-append (λ x. x == u) a.list (u ∷ []) ∙ listed_last (has_name a.list u) (has_name (u ∷ []) u) (itself u) in
      ap (λ wanted. if wanted && is_idle (shown H) u then standing a.rules (shown H) known c u else None) (unwanted_there (runs u) (has_name b.list u) listed)

-- a world in which an agent stole so many times, where it could: only the homes and its run list differ
pub record IsRobbed (x : PlainWorld) (c k : ℕ) (v : PlainWorld) : Type 0 where
  pub homes : ℕ → ℕ
  pub kernel : v.kernel ≡ record x.kernel { home = homes }
  pub known : (v.agents c).known ≡ (x.agents c).known
  pub rules : (v.agents c).rules ≡ (x.agents c).rules
  pub few : left (stealable v c) (threads x.kernel) + k ≤ threads x.kernel ⊎ (left (stealable v c) (threads x.kernel) ≡ 0)

still_few : (less more k n : ℕ) → less + 1 ≤ more → (more + k ≤ n) ⊎ (more ≡ 0) → (less + (k + 1) ≤ n) ⊎ (less ≡ 0)
still_few less more k n e f = grind arith

module _ (laws : KernelLaws) (limits : Limits) (x : PlainWorld) (h : IsGood limits x) (c : ℕ) (idle : IsIdle x.kernel c)
    (whole : (t : ℕ) → upto (x.agents c).known t ≡ number x.kernel t) (empty : (q : ℕ) → is_cpu (shown x.kernel) q ≡ true → content x.kernel q ≡ []) where
  abbrev N : ℕ
  N = threads x.kernel

  -- one more steal
  module _ (k : ℕ) (v : PlainWorld) (good : IsGood limits v) (was : IsRobbed x c k v) where
    idling : IsIdle v.kernel c
    idling = subst (λ K. IsIdle K c) (sym was.kernel) (record { there = idle.there; idle = idle.idle })

    whole_now : (t : ℕ) → upto (v.agents c).known t ≡ number v.kernel t
    whole_now t = ap (λ known. upto known t) was.known ∙ whole t ∙ sym (ap (λ (K : PlainKernel). number K t) was.kernel)

    empty_now : (q : ℕ) → is_cpu (shown v.kernel) q ≡ true → content v.kernel q ≡ []
    empty_now q there = ap (λ (K : PlainKernel). content K q) was.kernel ∙ empty q (sym (ap (λ (K : PlainKernel). is_cpu (shown K) q) was.kernel) ∙ there)

    same_threads : threads v.kernel ≡ N
    same_threads = ap threads was.kernel

    by_first : (o : Option ℕ) → FindsFirst (stealable v c) o → Comes limits v (event.Steal c ∷ []) (IsRobbed x c (k + 1))
    by_first None none =
        let told = replies.Refused refusals.NothingToSteal in
        let step : Step v (event.Steal c) told v =
        match_true (is_cpu (shown v.kernel) c) (IsStolen v c (is_some (reads.on (shown v.kernel) c)) told v) (IsBadCpu v told v) idling.there
        (subst (λ b. IsStolen v c b told v) (sym (is_free laws v c idling whole_now empty_now)) (None, none, record { refused = refl; same = refl })) in
        record {
          replies = told ∷ [];
          new = v;
          runs = (v, step, refl);
          good = good;
          holds = record { homes = was.homes; kernel = was.kernel; known = was.known; rules = was.rules; few = inr (left_none (stealable v c) N none) };
        }
    by_first (Some u) found =
        let next = y laws v c idling whole_now empty_now u found in
        let step = steals_it laws v c idling whole_now empty_now u found in
        let kernel = made laws v c idling whole_now empty_now u found in
        let agent = agent_then laws v c idling whole_now empty_now u found in
        let told = replies.Associated c u in
        let homed_is : record v.kernel { home = (homed v.kernel u c).home } ≡ record x.kernel { home = (homed v.kernel u c).home } = ap (λ (K : PlainKernel). record K { home = (homed v.kernel u c).home }) was.kernel in
        let stands_now : stealable next c ≡ stealing (shown (homed v.kernel u c)) (kinds v.kernel) c (record (v.agents c) { list = (v.agents c).list ++ u ∷ [] }) =
        λ i. stealing (shown (kernel i)) (kinds (kernel i)) c (agent i) in
        let low : u < N = elim (cases_lt u N) [
          | inl below ↦ below
          | inr above ↦ absurd (let none : stealable v c u ≡ None = unknown_above laws limits v good c u (let same = same_threads in omega arith) in let some = found.there in let bad : ⊥ = cc in bad)
        ] in
        let fewer : left (stealable next c) N + 1 ≤ left (stealable v c) N =
        subst (λ f. left f N + 1 ≤ left (stealable v c) N) (sym stands_now)
        (left_fewer (stealable v c) (stealing (shown (homed v.kernel u c)) (kinds v.kernel) c (record (v.agents c) { list = (v.agents c).list ++ u ∷ [] })) N u found.place
        (stood laws v.kernel c u (v.agents c)) low found.there (gone laws v.kernel c u (v.agents c))) in
        record {
          replies = told ∷ [];
          new = next;
          runs = (next, step, refl);
          good = good_after laws limits v good (event.Steal c) told next step;
          holds = record {
            homes = (homed v.kernel u c).home;
            kernel = kernel ∙ homed_is;
            known = ap (λ (p : PlainAgent). p.known) agent ∙ was.known;
            rules = ap (λ (p : PlainAgent). p.rules) agent ∙ was.rules;
            few = still_few (left (stealable next c) N) (left (stealable v c) N) k N fewer was.few;
          };
        }

    one_more : Comes limits v (event.Steal c ∷ []) (IsRobbed x c (k + 1))
    one_more = let first = finds (stealable v c) (threads v.kernel) (unknown_above laws limits v good c) in by_first first.0 first.1

  rob : (k : ℕ) → Comes limits x (robbing c k) (IsRobbed x c k)
  rob zero = record {
    replies = [];
    new = x;
    runs = refl;
    good = h;
    holds = record { homes = x.kernel.home; kernel = refl; known = refl; rules = refl; few = inl (let few = left_few (stealable x c) N in omega arith) };
  }
  rob (suc k) =
      let before = rob k in
      let more = one_more k before.new before.good before.holds in
      let last : IsRobbed x c (suc k) more.new = subst (λ n. IsRobbed x c n more.new) (omega arith) more.holds in
      record {
        replies = before.replies ++ more.replies;
        new = more.new;
        runs = runs_append x before.new more.new (robbing c k) (event.Steal c ∷ []) before.replies more.replies before.runs more.runs;
        good = more.good;
        holds = last;
      }

  -- then no thread is left that waits
  pub all_robbed : Comes limits x (robbing c N) (λ v. (v.kernel.posts ≡ x.kernel.posts) × ((v.agents c).known ≡ (x.agents c).known)
      × ((t : ℕ) → WaitsFor v.kernel c t → IsStolenBy (v.agents c).rules v.kernel c t → has_name (v.agents c).list t ≡ true))
  all_robbed =
      let robbed = rob N in
      let v = robbed.new in
      let was = robbed.holds in
      let none : left (stealable v c) N ≡ 0 = elim was.few [ inl few ↦ omega arith | inr none_left_now ↦ none_left_now ] in
      record {
        replies = robbed.replies;
        new = v;
        runs = robbed.runs;
        good = robbed.good;
        holds = (
          ap (λ (K : PlainKernel). K.posts) was.kernel,
          was.known,
          λ t waits stolen. by_listed (has_name (v.agents c).list t) refl (λ unlisted.
              let some = stands laws v.kernel c (v.agents c) (whole_now N v robbed.good was) t waits unlisted stolen in
              let gone : stealable v c t ≡ None = elim (cases_lt t N) [
                | inl below ↦ none_left (stealable v c) N t none below
                | inr above ↦ unknown_above laws limits v robbed.good c t (let same = same_threads N v robbed.good was in omega arith)
              ] in
              false≢true (sym (ap is_some gone) ∙ some)),
        );
      }
    where
      by_listed : (b : Bool) {n : Bool} → n ≡ b → (n ≡ false → ⊥) → n ≡ true
      by_listed true e f = e
      by_listed false e f = absurd (f e)

-- every queue is cleared, the agent takes in all that was sent, and steals as often as there are threads
module _ (laws : KernelLaws) (greatest : (set : List (ℕ × ℕ)) (t n : ℕ) → (n ≤ upto set t) ↔ ((m : ℕ) → 1 ≤ m → m ≤ n → IsTrue (has set t m))) (limits : Limits) (w : PlainWorld) (h : IsGood limits w)
    (c : ℕ) (idle : IsIdle w.kernel c) where
  pub come_back : LeadTo w (recovering w c) (IsBack c)
  come_back =
      let learnt = learns laws greatest limits w h c idle.there in
      let u = learnt.new in
      let idling : IsIdle u.kernel c = subst (λ K. IsIdle K c) (sym learnt.kernel) (still_idle w.kernel learnt.eaten c idle) in
      let robbed = all_robbed laws limits u learnt.good c idling learnt.whole learnt.empty in
      let x = robbed.new in
      let count : threads u.kernel ≡ threads w.kernel = ap threads learnt.kernel in
      let robs : Runs u (robbing c (threads w.kernel)) robbed.replies x = subst (λ n. Runs u (robbing c n) robbed.replies x) count robbed.runs in
      record {
        replies = learnt.replies ++ robbed.replies;
        new = x;
        runs = runs_append w u x (learning w c) (robbing c (threads w.kernel)) learnt.replies robbed.replies learnt.runs robs;
        holds = record {
          knows = λ t n.
              let all = learnt.knows t n in (
                λ e. robbed.good.known c t n e,
                λ e.
                    let earlier : IsInRun (kinds u.kernel) t n = same_run (kinds u.kernel) (kinds x.kernel) t n (run_of x u robbed.holds.0 t) e in
                    ap (λ known. has known t n) robbed.holds.1 ∙ all.1 earlier,
              );
          listed = robbed.holds.2;
        };
      }
    where
      same_run : (shorter longer : ℕ → List Kind) (t n : ℕ) → longer t ≡ shorter t → IsInRun longer t n → IsInRun shorter t n
      same_run shorter longer t n e told = (told.0, subst (λ ks. n ≤ length ks) e told.1)

      run_of : (x u : PlainWorld) → x.kernel.posts ≡ u.kernel.posts → (t : ℕ) → kinds x.kernel t ≡ kinds u.kernel t
      run_of x u e t = ap (λ posts. filter_map (λ (post : Post). kind_in t post.item) posts) e
