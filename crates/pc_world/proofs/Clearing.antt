-- Every queue can be cleared, and an agent can take in all that was sent.
use Rattle.std.proofs.Common.{◌≡◌, ℕ, zero, suc, ◌+◌, ◌-◌, ◌≤◌, ◌<◌, ◌==◌, ◌&&◌, ◌||◌, true, false, nat_lt, List, [], ◌∷◌, ◌++◌, length, drop, Option, Some, None, slice_get, refl, sym, ◌∙◌, ap, subst, inl, inr, arith, length-append}
use Rattle.std.specs.Prelude.{◌↔◌, IsTrue}
use Rattle.std.proofs.Math.ListN.{drop_of_length-le}
use Rattle.std.proofs.lemmas.Bool.{cases_lt, cases_eq, false≢true}
use Rattle.std.proofs.lemmas.Bool.Decides.{nat_tests}
use Rattle.std.proofs.lemmas.List.{length-drop}
use Rattle.std.proofs.lemmas.List.Folds.{list_any-append}
use Rattle.pc_messages.specs.Items.{pairs_in}
use Rattle.pc_messages.specs.declared.message.Item.{Item}
use Rattle.pc_calls.specs.declared.call.Answer.TheVariants.{Done}
use Rattle.pc_calls.specs.declared.call.Call.TheVariants as call
use Rattle.pc_calls.specs.declared.event.Event.{Event}
use Rattle.pc_calls.specs.declared.event.Event.TheVariants as event
use Rattle.pc_calls.specs.declared.event.Reply.{Reply}
use Rattle.pc_calls.specs.declared.event.Reply.TheVariants as replies
use Rattle.pc_calls.specs.declared.limits.Limits.{Limits}
use Rattle.pc_join.specs.Sets.{has}
use Rattle.pc_kernel.specs.PlainKernel.{PlainKernel, content, items_to, kinds, number}
use Rattle.pc_kernel.specs.Reads.{shown, is_cpu}
use Rattle.pc_kernel.specs.Steps as kernel
use Rattle.pc_kernel.specs.Steps.{after, after_of, at, changed, refused, reply_of}
use Rattle.pc_view.specs.Prefixes.{upto}
use Rattle.pc_agent.specs.PlainAgent.{PlainAgent, Set, taking_in}
use Rattle.pc_agent.specs.Publishing.{sent_after}
use Rattle.pc_world.specs.Facts.{HasAll, IsInRun, Waits, WasSent}
use Rattle.pc_world.specs.Mending.{IsAllKnown, LeadTo, all_hearing, all_learning, clearing, hearing}
use Rattle.pc_world.specs.PlainWorld.{PlainWorld, published, with_agent}
use Rattle.pc_world.specs.Steps.{IsBadCpu, IsConsumed, IsDelivered, IsPublished, Runs, Step}
use Rattle.pc_world.specs.Inner.Laws.{KernelLaws}
use Rattle.pc_messages.proofs.Bools.{or_left, or_right}
use Rattle.pc_world.proofs.Exactly.{consume_accepted}
use Rattle.pc_world.proofs.Good.{IsGood, good_next}
use Rattle.pc_world.proofs.GoodSteps.{leads_goes}
use Rattle.pc_world.proofs.Pairs.{place_of}
use Rattle.pc_world.proofs.Places.{at_other, at_same, match_true}
use Rattle.pc_world.proofs.Reaching.{all_complete, none_lost}

-- events that were done, and others after them
pub runs_append : (w v u : PlainWorld) (before rest : List Event) (told more : List Reply) → Runs w before told v → Runs v rest more u → Runs w (before ++ rest) (told ++ more) u
runs_append w v u [] rest [] more ran runs = subst (λ x. Runs x rest more u) ran runs
runs_append w v u [] rest (t ∷ told) more ran runs = absurd ran
runs_append w v u (e ∷ before) rest [] more ran runs = absurd ran
runs_append w v u (e ∷ before) rest (t ∷ told) more ran runs = (ran.0, ran.1, runs_append ran.0 v u before rest told more ran.2 runs)

-- events that lead from a good world to a good one, of which this holds
pub record Comes (limits : Limits) (w : PlainWorld) (events : List Event) (Holds : PlainWorld → Type 0) : Type 0 where
  pub replies : List Reply
  pub new : PlainWorld
  pub runs : Runs w events replies new
  pub good : IsGood limits new
  pub holds : Holds new

-- the world with so many queues cleared: only what was eaten differs in the kernel
pub record IsCleared (w : PlainWorld) (n : ℕ) (v : PlainWorld) : Type 0 where
  pub eaten : ℕ → ℕ
  pub kernel : v.kernel ≡ record w.kernel { eaten = eaten }
  pub sent : length v.sent ≡ length w.sent + n
  pub empty : (q : ℕ) → q < n → content v.kernel q ≡ []
  pub rules : (c : ℕ) → (v.agents c).rules ≡ (w.agents c).rules

is_below : (a b : ℕ) → a < b → nat_lt a b ≡ true
is_below a b e = grind (arith, nat_tests)

all_gone : (k : ℕ) (items : List Item) → drop (k + length (drop k items)) items ≡ []
all_gone k items =
    let left : length (drop k items) ≡ length items - k = length-drop k items in
    drop_of_length-le items (omega arith)

-- the world once an agent took in the first so many deltas: only that agent differs, and it knows what they tell
pub record HasHeard (v : PlainWorld) (c k : ℕ) (u : PlainWorld) : Type 0 where
  pub kernel : u.kernel ≡ v.kernel
  pub sent : u.sent ≡ v.sent
  pub others : (d : ℕ) → (d ≡ c → ⊥) → u.agents d ≡ v.agents d
  pub kept : (t n : ℕ) → has (v.agents c).known t n ≡ true → has (u.agents c).known t n ≡ true
  pub told : (i : ℕ) (set : Set) (t n : ℕ) → i < k → slice_get v.sent i ≡ Some set → has set t n ≡ true → has (u.agents c).known t n ≡ true
  pub list : (u.agents c).list ≡ (v.agents c).list
  pub rules : (u.agents c).rules ≡ (v.agents c).rules

module _ (laws : KernelLaws) (limits : Limits) where
  module _ (v : PlainWorld) (h : IsGood limits v) where
    -- one step leads to a good world
    pub good_after : (e : Event) (told : Reply) (new : PlainWorld) → Step v e told new → IsGood limits new
    good_after e told new step = good_next laws limits v new h (leads_goes laws limits v h e new (inl (told, step)))

    pub rules_after : (e : Event) (told : Reply) (new : PlainWorld) → Step v e told new → (c : ℕ) → (new.agents c).rules ≡ (v.agents c).rules
    rules_after e told new step c = (leads_goes laws limits v h e new (inl (told, step))).ranked c

  -- the queue of one CPU is cleared
  module _ (v : PlainWorld) (h : IsGood limits v) (c : ℕ) (there : is_cpu (shown v.kernel) c ≡ true) where
    abbrev items : List Item
    items = content v.kernel c

    abbrev between : PlainWorld
    between = published v c

    publishes : Step v (event.Publish c false) (replies.Published (length v.sent) (length items)) between
    publishes = match_true (is_cpu (shown v.kernel) c) (IsPublished v c false (replies.Published (length v.sent) (length items)) between) (IsBadCpu v (replies.Published (length v.sent) (length items)) between) there (refl, refl)

    good_between : IsGood limits between
    good_between = good_after v h (event.Publish c false) (replies.Published (length v.sent) (length items)) between publishes

    abbrev count : ℕ
    count = (between.agents c).sent_items

    abbrev made : PlainKernel
    made = after v.kernel (call.Consume c count)

    abbrev behind : PlainWorld
    behind = record (with_agent between c (record (between.agents c) { sent_items = 0 })) { kernel = made }

    accepted : refused (shown v.kernel) (call.Consume c count) ≡ None
    accepted = consume_accepted laws limits between good_between c there

    consumes : Step between (event.Consume c) (replies.Consumed count) behind
    consumes =
        match_true (is_cpu (shown v.kernel) c) (IsConsumed between c (kernel.reply v.kernel (call.Consume c count)) (replies.Consumed count) behind) (IsBadCpu between (replies.Consumed count) behind) there
        (subst (λ o. IsConsumed between c (reply_of o Done) (replies.Consumed count) behind) (sym accepted) (refl, refl))

    all_counted : count ≡ length items
    all_counted = ap (λ (p : PlainAgent). p.sent_items) (at_same v.agents c (sent_after (kinds v.kernel) c items (v.agents c)))

    pub made_is : made ≡ record v.kernel { eaten = at v.kernel.eaten c (v.kernel.eaten c + length items) }
    made_is =
        ap (λ o. after_of o (changed v.kernel (call.Consume c count)) v.kernel) accepted
        ∙ ap (λ n. record v.kernel { eaten = at v.kernel.eaten c (v.kernel.eaten c + n) }) all_counted

    pub cleared_here : content made c ≡ []
    cleared_here =
        ap (λ (P : PlainKernel). content P c) made_is
        ∙ ap (λ n. drop n (items_to v.kernel c)) (at_same v.kernel.eaten c (v.kernel.eaten c + length items))
        ∙ all_gone (v.kernel.eaten c) (items_to v.kernel c)

    pub kept_elsewhere : (q : ℕ) → (q ≡ c → ⊥) → content made q ≡ content v.kernel q
    kept_elsewhere q other =
        ap (λ (P : PlainKernel). content P q) made_is
        ∙ ap (λ n. drop n (items_to v.kernel q)) (at_other v.kernel.eaten c q (v.kernel.eaten c + length items) other)

    pub clears : Comes limits v (event.Publish c false ∷ event.Consume c ∷ []) (λ new. new ≡ behind)
    clears = record {
      replies = replies.Published (length v.sent) (length items) ∷ replies.Consumed count ∷ [];
      new = behind;
      runs = (between, publishes, (behind, consumes, refl));
      good = good_after between good_between (event.Consume c) (replies.Consumed count) behind consumes;
      holds = refl;
    }

    pub rules_kept : (d : ℕ) → (behind.agents d).rules ≡ (v.agents d).rules
    rules_kept d =
        rules_after between good_between (event.Consume c) (replies.Consumed count) behind consumes d
        ∙ rules_after v h (event.Publish c false) (replies.Published (length v.sent) (length items)) between publishes d

    pub sent_more : length behind.sent ≡ length v.sent + 1
    sent_more = length-append v.sent (pairs_in items ∷ [])

  -- the queues of all CPUs below a number are cleared
  module _ (w : PlainWorld) (h : IsGood limits w) where
    pub clear : (n : ℕ) → n ≤ w.kernel.limits.cpus → Comes limits w (clearing n) (IsCleared w n)
    clear zero low = record {
      replies = [];
      new = w;
      runs = refl;
      good = h;
      holds = record { eaten = w.kernel.eaten; kernel = refl; sent = omega arith; empty = λ q none. absurd (omega arith); rules = λ c. refl };
    }
    clear (suc n) low =
        let before = clear n (omega arith) in
        let v = before.new in
        let was = before.holds in
        let there : is_cpu (shown v.kernel) n ≡ true = ap (λ (P : PlainKernel). is_cpu (shown P) n) was.kernel ∙ is_below n w.kernel.limits.cpus (omega arith) in
        let cleared = clears v before.good n there in
        let items = content v.kernel n in
        record {
          replies = before.replies ++ cleared.replies;
          new = cleared.new;
          runs = runs_append w v cleared.new (clearing n) (event.Publish n false ∷ event.Consume n ∷ []) before.replies cleared.replies before.runs cleared.runs;
          good = cleared.good;
          holds = record {
            eaten = at was.eaten n (was.eaten n + length items);
            kernel =
                ap (λ (x : PlainWorld). x.kernel) cleared.holds
                ∙ made_is v before.good n there
                ∙ ap (λ (P : PlainKernel). record P { eaten = at P.eaten n (P.eaten n + length items) }) was.kernel;
            sent = ap (λ (x : PlainWorld). length x.sent) cleared.holds ∙ sent_more v before.good n there ∙ (let s = was.sent in omega arith);
            empty = λ q below. ap (λ (x : PlainWorld). content x.kernel q) cleared.holds ∙ elim (cases_eq q n) [
              | inl same ↦ ap (content (made v before.good n there)) same ∙ cleared_here v before.good n there
              | inr other ↦ kept_elsewhere v before.good n there q other ∙ was.empty q (omega (arith, other))
            ];
            rules = λ c. ap (λ (x : PlainWorld). (x.agents c).rules) cleared.holds ∙ rules_kept v before.good n there c ∙ was.rules c;
          };
        }

pairs_of_both : (a b : Set) (t n : ℕ) → has (a ++ b) t n ≡ (has a t n || has b t n)
pairs_of_both a b t n = list_any-append (λ p. (p.0 == t) && (p.1 == n)) a b

has_left : (a b : Set) (t n : ℕ) → has a t n ≡ true → has (a ++ b) t n ≡ true
has_left a b t n e = pairs_of_both a b t n ∙ or_left (has a t n) (has b t n) e

has_right : (a b : Set) (t n : ℕ) → has b t n ≡ true → has (a ++ b) t n ≡ true
has_right a b t n e = pairs_of_both a b t n ∙ or_right (has a t n) (has b t n) e

pub get_at : {X : Type 0} (xs : List X) (k : ℕ) → k < length xs → (x : X) × (slice_get xs k ≡ Some x)
get_at [] k low = absurd (omega arith)
get_at (x ∷ xs) zero low = (x, refl)
get_at (x ∷ xs) (suc k) low = get_at xs k (omega arith)

got_below : {X : Type 0} (xs : List X) (k : ℕ) (x : X) → slice_get xs k ≡ Some x → k < length xs
got_below [] k x e = cc
got_below (y ∷ xs) zero x e = omega arith
got_below (y ∷ xs) (suc k) x e = let low : k < length xs = got_below xs k x e in omega arith

module _ (laws : KernelLaws) (limits : Limits) (v : PlainWorld) (h : IsGood limits v) (c : ℕ) (there : is_cpu (shown v.kernel) c ≡ true) where
  pub hear : (k : ℕ) → k ≤ length v.sent → Comes limits v (hearing c k) (HasHeard v c k)
  hear zero low = record {
    replies = [];
    new = v;
    runs = refl;
    good = h;
    holds = record { kernel = refl; sent = refl; others = λ d other. refl; kept = λ t n e. e; told = λ i set t n none. absurd (omega arith); list = refl; rules = refl };
  }
  hear (suc k) low =
      let before = hear k (omega arith) in
      let u = before.new in
      let was = before.holds in
      let got = get_at v.sent k (omega arith) in
      let set : Set = got.0 in
      let p : PlainAgent = taking_in set (u.agents c) in
      let new : PlainWorld = with_agent u c p in
      let here : is_cpu (shown u.kernel) c ≡ true = ap (λ (P : PlainKernel). is_cpu (shown P) c) was.kernel ∙ there in
      let delivered : Step u (event.Deliver c k) replies.Done new =
      match_true (is_cpu (shown u.kernel) c) (IsDelivered u c (slice_get u.sent k) replies.Done new) (IsBadCpu u replies.Done new) here
      (subst (λ o. IsDelivered u c o replies.Done new) (sym (ap (λ l. slice_get l k) was.sent ∙ got.1)) (refl, refl)) in
      let agent : new.agents c ≡ p = at_same u.agents c p in
      record {
        replies = before.replies ++ replies.Done ∷ [];
        new = new;
        runs = runs_append v u new (hearing c k) (event.Deliver c k ∷ []) before.replies (replies.Done ∷ []) before.runs (new, delivered, refl);
        good = good_after laws limits u before.good (event.Deliver c k) replies.Done new delivered;
        holds = record {
          kernel = was.kernel;
          sent = was.sent;
          others = λ d other. at_other u.agents c d p other ∙ was.others d other;
          kept = λ t n e. ap (λ (a : PlainAgent). has a.known t n) agent ∙ has_left (u.agents c).known set t n (was.kept t n e);
          told = λ i s t n below at e. ap (λ (a : PlainAgent). has a.known t n) agent ∙ elim (cases_lt i k) [
            | inl less ↦ has_left (u.agents c).known set t n (was.told i s t n less at e)
            | inr last ↦
                let same : i ≡ k = omega arith in
                let both : ◌≡◌ {A = Option Set} (Some s) (Some set) = sym at ∙ ap (slice_get v.sent) same ∙ got.1 in
                let is : s ≡ set = cc in
                has_right (u.agents c).known set t n (subst (λ x. has x t n ≡ true) is e)
          ];
          list = ap (λ (a : PlainAgent). a.list) agent ∙ was.list;
          rules = ap (λ (a : PlainAgent). a.rules) agent ∙ was.rules;
        };
      }

-- who heard all of a world whose queues are cleared knows exactly the messages of the run
module _ (laws : KernelLaws) (limits : Limits) (v u : PlainWorld) (c k : ℕ) (h : IsGood limits u) (sent_same : u.sent ≡ v.sent)
    (told : (i : ℕ) (set : Set) (t n : ℕ) → i < k → slice_get v.sent i ≡ Some set → has set t n ≡ true → has (u.agents c).known t n ≡ true) (all : length v.sent ≤ k)
    (empty : (q : ℕ) → is_cpu (shown u.kernel) q ≡ true → content u.kernel q ≡ []) where
  from_waiting : (t n : ℕ) → Waits u t n → has (u.agents c).known t n ≡ true
  from_waiting t n waits =
      absurd (let none : has [] t n ≡ true = sym (ap (λ items. has (pairs_in items) t n) (empty waits.0 waits.1)) ∙ waits.2 in false≢true none)

  from_sent : (t n : ℕ) → WasSent u t n → has (u.agents c).known t n ≡ true
  from_sent t n sent =
      let at = place_of u.sent sent.0 sent.1 in
      let before : slice_get v.sent at.0 ≡ Some sent.0 = sym (ap (λ l. slice_get l at.0) sent_same) ∙ at.1 in
      let below : at.0 < length v.sent = got_below v.sent at.0 sent.0 before in
      told at.0 sent.0 t n (omega arith) before sent.2

  pub has_all : HasAll u (u.agents c).known
  has_all t n (inl waits) = from_waiting t n waits
  has_all t n (inr sent) = from_sent t n sent

  pub knows_all : (t n : ℕ) → (has (u.agents c).known t n ≡ true) ↔ IsInRun (kinds u.kernel) t n
  knows_all t n = (h.known c t n, λ is_in. has_all t n ((none_lost laws limits u h t n).1 is_in))

  module _ (greatest : (set : List (ℕ × ℕ)) (t n : ℕ) → (n ≤ upto set t) ↔ ((m : ℕ) → 1 ≤ m → m ≤ n → IsTrue (has set t m))) where
    within : (t n : ℕ) → n ≤ upto (u.agents c).known t → n ≤ number u.kernel t
    within t zero low = omega arith
    within t (suc n) low =
        let there : has (u.agents c).known t (suc n) ≡ true = (greatest (u.agents c).known t (suc n)).0 low (suc n) (omega arith) (omega arith) in
        (h.known c t (suc n) there).1

    pub is_whole : (t : ℕ) → upto (u.agents c).known t ≡ number u.kernel t
    is_whole t =
        let enough : number u.kernel t ≤ upto (u.agents c).known t = all_complete laws limits u h greatest (u.agents c).known t has_all in
        let most : upto (u.agents c).known t ≤ number u.kernel t = within t (upto (u.agents c).known t) (omega arith) in
        omega arith

-- the world once the agents below a number took in the first so many deltas
pub record AllHeard (v : PlainWorld) (n k : ℕ) (u : PlainWorld) : Type 0 where
  pub kernel : u.kernel ≡ v.kernel
  pub sent : u.sent ≡ v.sent
  pub told : (d i : ℕ) (set : Set) (t m : ℕ) → d < n → i < k → slice_get v.sent i ≡ Some set → has set t m ≡ true → has (u.agents d).known t m ≡ true

module _ (laws : KernelLaws) (limits : Limits) (v : PlainWorld) (h : IsGood limits v) (k : ℕ) (low : k ≤ length v.sent) where
  all_hear : (n : ℕ) → n ≤ v.kernel.limits.cpus → Comes limits v (all_hearing n k) (AllHeard v n k)
  all_hear zero few = record {
    replies = [];
    new = v;
    runs = refl;
    good = h;
    holds = record { kernel = refl; sent = refl; told = λ d i set t m none. absurd (omega arith) };
  }
  all_hear (suc n) few =
      let before = all_hear n (omega arith) in
      let u = before.new in
      let was = before.holds in
      let there : is_cpu (shown u.kernel) n ≡ true = ap (λ (P : PlainKernel). is_cpu (shown P) n) was.kernel ∙ is_below n v.kernel.limits.cpus (omega arith) in
      let size : length u.sent ≡ length v.sent = ap length was.sent in
      let heard = hear laws limits u before.good n there k (omega arith) in
      let now = heard.holds in
      record {
        replies = before.replies ++ heard.replies;
        new = heard.new;
        runs = runs_append v u heard.new (all_hearing n k) (hearing n k) before.replies heard.replies before.runs heard.runs;
        good = heard.good;
        holds = record {
          kernel = now.kernel ∙ was.kernel;
          sent = now.sent ∙ was.sent;
          told = λ d i set t m below at there_at e. elim (cases_eq d n) [
            | inl same ↦ subst (λ x. has (heard.new.agents x).known t m ≡ true) (sym same) (now.told i set t m at (ap (λ l. slice_get l i) was.sent ∙ there_at) e)
            | inr other ↦ ap (λ (a : PlainAgent). has a.known t m) (now.others d other) ∙ was.told d i set t m (omega (arith, other)) at there_at e
          ];
        };
      }

test_below : (a b : ℕ) → nat_lt a b ≡ true → a < b
test_below a b e = grind (arith, nat_tests)

-- every queue is cleared, and every agent takes in all that was sent
module _ (laws : KernelLaws) (limits : Limits) (w : PlainWorld) (h : IsGood limits w) where
  abbrev cpus : ℕ
  cpus = w.kernel.limits.cpus

  abbrev most : ℕ
  most = length w.sent + cpus

  pub all_known : LeadTo w (all_learning w) (IsAllKnown w)
  all_known =
      let cleared = clear laws limits w h cpus (omega arith) in
      let v = cleared.new in
      let was = cleared.holds in
      let many : length v.sent ≡ most = was.sent in
      let count : v.kernel.limits.cpus ≡ cpus = ap (λ (P : PlainKernel). P.limits.cpus) was.kernel in
      let heard = all_hear laws limits v cleared.good most (omega arith) cpus (omega arith) in
      let u = heard.new in
      let now = heard.holds in
      let empty : (q : ℕ) → is_cpu (shown u.kernel) q ≡ true → content u.kernel q ≡ [] =
      λ q there. ap (λ (P : PlainKernel). content P q) now.kernel ∙ was.empty q (test_below q cpus (sym (ap (λ (P : PlainKernel). is_cpu (shown P) q) (now.kernel ∙ was.kernel)) ∙ there)) in
      record {
        replies = cleared.replies ++ heard.replies;
        new = u;
        runs = runs_append w v u (clearing cpus) (all_hearing cpus most) cleared.replies heard.replies cleared.runs heard.runs;
        holds = record {
          know = λ c t n there.
              let below : c < cpus = test_below c cpus (sym (ap (λ (P : PlainKernel). nat_lt c P.limits.cpus) (now.kernel ∙ was.kernel)) ∙ there) in
              knows_all laws limits v u c most heard.good now.sent (λ i set s m. now.told c i set s m below) (omega arith) empty t n;
          empty = empty;
          posts = ap (λ (P : PlainKernel). P.posts) (now.kernel ∙ was.kernel);
        };
      }
