-- Every queue can be cleared, and then an agent knows exactly the messages of the run.
use Rattle.std.proofs.Common.{◌≡◌, ℕ, ◌+◌, ◌≤◌, true, List, [], ◌++◌, length, sym, ◌∙◌, ap, arith}
use Rattle.std.specs.Prelude.{◌↔◌, IsTrue}
use Rattle.pc_calls.specs.declared.event.Reply.{Reply}
use Rattle.pc_calls.specs.declared.limits.Limits.{Limits}
use Rattle.pc_join.specs.Sets.{has}
use Rattle.pc_kernel.specs.PlainKernel.{PlainKernel, content, kinds, number}
use Rattle.pc_kernel.specs.Reads.{shown, is_cpu}
use Rattle.pc_view.specs.Prefixes.{upto}
use Rattle.pc_world.specs.Facts.{IsInRun}
use Rattle.pc_world.specs.Mending.{clearing, hearing, learning}
use Rattle.pc_world.specs.PlainWorld.{PlainWorld}
use Rattle.pc_world.specs.Steps.{Runs}
use Rattle.pc_world.specs.Inner.Laws.{KernelLaws}
use Rattle.pc_world.proofs.Clearing.{clear, hear, is_whole, knows_all, runs_append}
use Rattle.pc_world.proofs.Good.{IsGood}
use Rattle.pc_world.proofs.Mended.{below_test, eating}

-- the world once every queue was cleared, and an agent took in all that was sent
pub record Learnt (limits : Limits) (w : PlainWorld) (c : ℕ) : Type 0 where
  pub replies : List Reply
  pub new : PlainWorld
  pub runs : Runs w (learning w c) replies new
  pub good : IsGood limits new
  pub eaten : ℕ → ℕ
  pub kernel : new.kernel ≡ eating w.kernel eaten
  pub rules : (new.agents c).rules ≡ (w.agents c).rules
  pub empty : (q : ℕ) → is_cpu (shown new.kernel) q ≡ true → content new.kernel q ≡ []
  pub whole : (t : ℕ) → upto (new.agents c).known t ≡ number new.kernel t
  pub knows : (t n : ℕ) → (has (new.agents c).known t n ≡ true) ↔ IsInRun (kinds new.kernel) t n

module _ (laws : KernelLaws) (greatest : (set : List (ℕ × ℕ)) (t n : ℕ) → (n ≤ upto set t) ↔ ((m : ℕ) → 1 ≤ m → m ≤ n → IsTrue (has set t m))) (limits : Limits) (w : PlainWorld) (h : IsGood limits w)
    (c : ℕ) (stands : is_cpu (shown w.kernel) c ≡ true) where
  pub learns : Learnt limits w c
  learns =
      let cpus = w.kernel.limits.cpus in
      let most = length w.sent + cpus in
      let cleared = clear laws limits w h cpus (omega arith) in
      let v = cleared.new in
      let was = cleared.holds in
      let many : length v.sent ≡ most = was.sent in
      let there : is_cpu (shown v.kernel) c ≡ true = ap (λ (K : PlainKernel). is_cpu (shown K) c) was.kernel ∙ stands in
      let heard = hear laws limits v cleared.good c there most (omega arith) in
      let u = heard.new in
      let now = heard.holds in
      let same : u.kernel ≡ eating w.kernel was.eaten = now.kernel ∙ was.kernel in
      let empty : (q : ℕ) → is_cpu (shown u.kernel) q ≡ true → content u.kernel q ≡ [] =
      λ q at. ap (λ (K : PlainKernel). content K q) now.kernel ∙ was.empty q (below_test q cpus (sym (ap (λ (K : PlainKernel). is_cpu (shown K) q) same) ∙ at)) in
      record {
        replies = cleared.replies ++ heard.replies;
        new = u;
        runs = runs_append w v u (clearing cpus) (hearing c most) cleared.replies heard.replies cleared.runs heard.runs;
        good = heard.good;
        eaten = was.eaten;
        kernel = same;
        rules = now.rules ∙ was.rules c;
        empty = empty;
        whole = is_whole laws limits v u c most heard.good now.sent now.told (omega arith) empty greatest;
        knows = λ t n. knows_all laws limits v u c most heard.good now.sent now.told (omega arith) empty t n;
      }
