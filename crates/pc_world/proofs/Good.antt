-- What every list of events keeps, and what keeps it.
use Rattle.std.proofs.Common.{◌≡◌, ℕ, ◌+◌, ◌≤◌, ◌<◌, ◌⊎◌, List, [], ◌∷◌, ◌++◌, length, Option, Some, None, Contains, slice_get, refl, sym, ◌∙◌, ap, subst, inl, inr, arith, length-append}
use Rattle.std.proofs.lemmas.List.{append-nil}
use Rattle.pc_messages.specs.declared.message.Message.{Message}
use Rattle.pc_messages.specs.declared.message.Item.{Item}
use Rattle.pc_messages.specs.declared.message.Item.TheVariants.{Thread}
use Rattle.pc_messages.specs.Run.{Run, Extends}
use Rattle.pc_calls.specs.declared.call.Call.{Call}
use Rattle.pc_calls.specs.declared.limits.Limits.{Limits}
use Rattle.pc_calls.specs.declared.refusal.Refusal.{Refusal}
use Rattle.pc_kernel.specs.PlainKernel.{PlainKernel, start, kinds, items_to, aseq}
use Rattle.pc_kernel.specs.Posted.{taken}
use Rattle.pc_kernel.specs.Steps.{after, replay}
use Rattle.pc_policy.specs.Rules.{Rules}
use Rattle.pc_agent.specs.PlainAgent.{Set}
use Rattle.pc_world.specs.PlainWorld.{PlainWorld, opened_by}
use Rattle.pc_world.specs.Facts.{IsInRun, LiesIn, WasSent}
use Rattle.pc_world.specs.Inner.Laws.{KernelLaws}
use Rattle.pc_world.proofs.Pairs.{get_appended}

-- how many items of a queue were eaten, or sent by its agent
abbrev pub passed : PlainWorld → ℕ → ℕ
passed w q = w.kernel.eaten q + (w.agents q).sent_items

-- the messages of the first so many items of a queue are in sets that were sent
abbrev pub WereSent : PlainKernel → ℕ → ℕ → PlainWorld → Type 0
WereSent P q count w = (i : ℕ) (m : Message) → i < count → slice_get (items_to P q) i ≡ Some (Thread m) → WasSent w m.thread m.number

pub record IsGood (limits : Limits) (w : PlainWorld) : Type 0 where
  pub calls : List Call
  pub replayed : w.kernel ≡ replay (start limits) calls
  pub known : (c : ℕ) → LiesIn (kinds w.kernel) (w.agents c).known
  pub sent : (set : Set) → Contains w.sent set → LiesIn (kinds w.kernel) set
  pub few : (q : ℕ) → passed w q ≤ aseq w.kernel q
  pub front : (q : ℕ) → WereSent w.kernel q (passed w q) w

-- the kernel is as it was, or made a call
abbrev pub Moves : PlainKernel → PlainKernel → Type 0
Moves P Q = (Q ≡ P) ⊎ ((call : Call) × (Q ≡ after P call))

-- what an event does, in terms of the kernel before it
pub record Goes (w new : PlainWorld) : Type 0 where
  pub kernel : Moves w.kernel new.kernel
  pub known : (c : ℕ) → LiesIn (kinds w.kernel) (new.agents c).known
  pub sent : (set : Set) → Contains new.sent set → LiesIn (kinds w.kernel) set
  pub few : (q : ℕ) → passed new q ≤ aseq w.kernel q
  pub front : (q : ℕ) → WereSent w.kernel q (passed new q) new
  pub ranked : (c : ℕ) → (new.agents c).rules ≡ (w.agents c).rules

longer_run : (longer shorter : Run) (t n : ℕ) → Extends longer shorter → IsInRun shorter t n → IsInRun longer t n
longer_run longer shorter t n extends h =
    let more = extends t in
    let size : length (longer t) ≡ length (shorter t) + length more.0 = ap length more.1 ∙ length-append (shorter t) more.0 in
    let high = h.1 in
    (h.0, omega arith)

replay_more : (P : PlainKernel) (calls : List Call) (call : Call) → replay P (calls ++ call ∷ []) ≡ after (replay P calls) call
replay_more P [] call = refl
replay_more P (c ∷ calls) call = replay_more (after P c) calls call

module _ (laws : KernelLaws) where
  moves_extend : (P Q : PlainKernel) → Moves P Q → Extends (kinds Q) (kinds P)
  moves_extend P Q (inl same) = subst (λ R. Extends (kinds R) (kinds P)) (sym same) (λ t. ([], sym (append-nil (kinds P t))))
  moves_extend P Q (inr made) = subst (λ R. Extends (kinds R) (kinds P)) (sym made.1) (laws.extend P made.0)

  moves_items : (P Q : PlainKernel) (q : ℕ) → Moves P Q → (more : List Item) × (items_to Q q ≡ items_to P q ++ more)
  moves_items P Q q (inl same) = ([], ap (λ R. items_to R q) same ∙ sym (append-nil (items_to P q)))
  moves_items P Q q (inr made) = let more = laws.items P made.0 q in (more.0, ap (λ R. items_to R q) made.1 ∙ more.1)

  moves_replay : (limits : Limits) (P Q : PlainKernel) (calls : List Call) → P ≡ replay (start limits) calls → Moves P Q → (more : List Call) × (Q ≡ replay (start limits) more)
  moves_replay limits P Q calls was (inl same) = (calls, same ∙ was)
  moves_replay limits P Q calls was (inr made) =
      (calls ++ made.0 ∷ [], made.1 ∙ ap (λ R. after R made.0) was ∙ sym (replay_more (start limits) calls made.0))

  pub good_next : (limits : Limits) (w new : PlainWorld) → IsGood limits w → Goes w new → IsGood limits new
  good_next limits w new h goes =
      let P = w.kernel in
      let Q = new.kernel in
      let extends = moves_extend P Q goes.kernel in
      let again = moves_replay limits P Q h.calls h.replayed goes.kernel in
      record {
        calls = again.0;
        replayed = again.1;
        known = λ c t n e. longer_run (kinds Q) (kinds P) t n extends (goes.known c t n e);
        sent = λ set there t n e. longer_run (kinds Q) (kinds P) t n extends (goes.sent set there t n e);
        few = λ q.
            let more = moves_items P Q q goes.kernel in
            let size : aseq Q q ≡ aseq P q + length more.0 = ap length more.1 ∙ length-append (items_to P q) more.0 in
            let low = goes.few q in
            omega arith;
        front = λ q i m low there.
            let more = moves_items P Q q goes.kernel in
            let few = goes.few q in
            let inside : i < length (items_to P q) = omega arith in
            let was : slice_get (items_to P q) i ≡ Some (Thread m) =
            sym (get_appended (items_to P q) more.0 i inside) ∙ sym (ap (λ l. slice_get l i) more.1) ∙ there in
            goes.front q i m low was;
      }

-- an event that sends nothing of its own queue
pub sent_still : (w new : PlainWorld) → ((set : Set) → Contains w.sent set → Contains new.sent set) → (t n : ℕ) → WasSent w t n → WasSent new t n
sent_still w new more t n was = (was.0, more was.0 was.1, was.2)

pub calm : (limits : Limits) (w new : PlainWorld) → IsGood limits w → Moves w.kernel new.kernel → ((c : ℕ) → LiesIn (kinds w.kernel) (new.agents c).known)
    → ((set : Set) → Contains w.sent set → Contains new.sent set) → ((set : Set) → Contains new.sent set → LiesIn (kinds w.kernel) set)
    → ((q : ℕ) → passed new q ≤ passed w q) → ((c : ℕ) → (new.agents c).rules ≡ (w.agents c).rules) → Goes w new
calm limits w new h kernel seen more sent low ranked =
    record {
      kernel = kernel;
      known = seen;
      sent = sent;
      few = λ q. let a = h.few q in let b = low q in omega arith;
      front = λ q i m below there. let b = low q in sent_still w new more m.thread m.number (h.front q i m (omega arith) there);
      ranked = ranked;
    }

-- nothing was posted, taken in or sent
pub good_opened : (ranks : ℕ → Rules) (limits : Limits) → IsGood limits (opened_by ranks limits)
good_opened ranks limits =
    record {
      calls = [];
      replayed = refl;
      known = λ c t n e. cc;
      sent = λ set there t n e. absurd (none set there);
      few = λ q. omega arith;
      front = λ q i m low there. cc;
    }
  where
    none : (set : Set) → Contains {X = Set} [] set → ⊥
    none set (i, low, e) = omega (arith, low)

pub taken_le : (o : Option Refusal) (n : ℕ) → taken o n ≤ n
taken_le None n = omega arith
taken_le (Some why) n = omega arith
