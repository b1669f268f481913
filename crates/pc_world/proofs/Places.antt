-- Lists of agents, and a world in which one of them is another.
use Rattle.std.proofs.Common.{◌≡◌, ℕ, zero, suc, ◌<◌, ◌⊎◌, Bool, true, false, List, [], ◌∷◌, length, Some, MatchBool, slice_get, get_or, set, refl, sym, ◌∙◌, ap, subst, inl, inr, arith, append-nil}
use Rattle.std.proofs.lemmas.Bool.{cases_eq}
use Rattle.std.proofs.lemmas.Bool.Decides.{eqb_tells}
use Rattle.std.proofs.lemmas.Option.{same_Some}
use Rattle.pc_messages.specs.Run.{Run, Extends}
use Rattle.pc_kernel.specs.Answers.{Shows}
use Rattle.pc_kernel.specs.PlainKernel.{PlainKernel, kinds}
use Rattle.pc_kernel.specs.Reads.{seen, shown, is_cpu}
use Rattle.pc_kernel.specs.Rows.{KernelRows}
use Rattle.pc_kernel.specs.Steps.{at}
use Rattle.pc_delta.specs.declared.part.Part.{Part}
use Rattle.pc_agent.specs.declared.agent.Agent.{Agent}
use Rattle.pc_agent.specs.PlainAgent.{PlainAgent, Set}
use Rattle.pc_agent.specs.Shows.{ShowsAgent, cpu_of}
use Rattle.pc_world.specs.declared.parts.Parts.{Parts}
use Rattle.pc_world.specs.PlainWorld.{PlainWorld}
use Rattle.pc_world.specs.Shows.{AreSent, KeepsSent, ShowsWorld, deltas_of}
use Rattle.pc_world.specs.Inner.Agents.{AreOwn}
use Rattle.pc_world.specs.Inner.Laws.{RunsGoOn}
use Rattle.pc_world.specs.Inner.Places.{IsPlace}
use Rattle.pc_world.proofs.Sent.{sent_stays}

pub at_same : {X : Type 0} (f : ℕ → X) (n : ℕ) (x : X) → at f n x n ≡ x
at_same f n x = elim (eqb_tells n n) [ inl h ↦ rw h.0 refl | inr h ↦ absurd (h.1 refl) ]

pub at_other : {X : Type 0} (f : ℕ → X) (place n : ℕ) (x : X) → (n ≡ place → ⊥) → at f place x n ≡ f n
at_other f place n x o = elim (eqb_tells n place) [ inl e ↦ absurd (o e.1) | inr e ↦ rw e.0 refl ]

get_set_same : (xs : List Agent) (i : ℕ) (y a : Agent) → slice_get (set xs i y) i ≡ Some a → a ≡ y
get_set_same [] i y a e = cc
get_set_same (x ∷ xs) zero y a e = sym (same_Some y a e)
get_set_same (x ∷ xs) (suc i) y a e = get_set_same xs i y a e

pub get_set_other : (xs : List Agent) (i j : ℕ) (y : Agent) → (j ≡ i → ⊥) → slice_get (set xs i y) j ≡ slice_get xs j
get_set_other [] i j y o = refl
get_set_other (x ∷ xs) zero zero y o = absurd (o refl)
get_set_other (x ∷ xs) zero (suc j) y o = refl
get_set_other (x ∷ xs) (suc i) zero y o = refl
get_set_other (x ∷ xs) (suc i) (suc j) y o = get_set_other xs i j y (λ e. o (ap suc e))

item_at : (xs : List Agent) (i : ℕ) (a d : Agent) → i < length xs → a ≡ get_or xs i d → slice_get xs i ≡ Some a
item_at [] i a d low e = absurd (omega arith)
item_at (x ∷ xs) zero a d low e = ap Some (sym e)
item_at (x ∷ xs) (suc i) a d low e = item_at xs i a d (omega arith) e

pub match_true : (b : Bool) (P Q : Type 0) → b ≡ true → P → MatchBool b P Q
match_true b P Q e p = subst (λ c. MatchBool c P Q) (sym e) p

pub match_false : (b : Bool) (P Q : Type 0) → b ≡ false → Q → MatchBool b P Q
match_false b P Q e q = subst (λ c. MatchBool c P Q) (sym e) q

-- a run goes on from itself
pub same_run : (run : Run) → Extends run run
same_run run t = ([], sym (append-nil (run t)))

-- what was sent stays, and nothing follows
pub kept_same : (old new : Parts) → deltas_of new ≡ deltas_of old → KeepsSent old new
kept_same old new e = ([], e ∙ sym (append-nil (deltas_of old)))

-- what the kernel shows of a CPU, the plain kernel has
pub plain_cpu : (k : KernelRows) (P : PlainKernel) (c : ℕ) (b : Bool) → Shows k P → is_cpu (seen k) c ≡ b → is_cpu (shown P) c ≡ b
plain_cpu k P c b shows e = ap (λ r. is_cpu r c) (sym shows.reads) ∙ e

-- the agent at its place
pub agent_at : (world : Parts) (c place : ℕ) (agent d : Agent) → IsPlace world c place → agent ≡ get_or world.agents.items place d → slice_get world.agents.items c ≡ Some agent
agent_at world c place agent d h e = ap (slice_get world.agents.items) (sym h.is) ∙ item_at world.agents.items place agent d h.low e

pub agent_cpu : (world : Parts) (c : ℕ) (agent : Agent) → slice_get world.agents.items c ≡ Some agent → cpu_of agent ≡ c
agent_cpu world c agent there = world.own c agent there

-- the same kernel, agents and deltas
pub unchanged : (old new : Parts) (w : PlainWorld) → new.kernel ≡ old.kernel → new.agents.items ≡ old.agents.items → deltas_of new ≡ deltas_of old → ShowsWorld old w → ShowsWorld new w
unchanged old new w kernel agents sent h = record {
  kernel = subst (λ k. Shows k w.kernel) (sym kernel) h.kernel;
  agents = λ d a e. h.agents d a (ap (λ l. slice_get l d) (sym agents) ∙ e);
  sent = subst (AreSent (kinds w.kernel) w.sent) (sym sent) h.sent;
}

-- the world after an event of one agent: another kernel, whose run goes on from the one before, another agent on its CPU, and what was sent
pub world_after : (goes : RunsGoOn) (old new : Parts) (w : PlainWorld) (c place : ℕ) (more : Agent) (Q : PlainKernel) (p : PlainAgent) (sent : List Set) → ShowsWorld old w → IsPlace old c place
    → new.agents.items ≡ set old.agents.items place more → Shows new.kernel Q → Extends (kinds Q) (kinds w.kernel) → ShowsAgent (kinds Q) p more → AreSent (kinds Q) sent (deltas_of new)
    → ShowsWorld new (record { kernel = Q; agents = at w.agents c p; sent = sent })
world_after goes old new w c place more Q p sent h where_is agents kernel extends here told = record {
  kernel = kernel;
  agents = λ d a e. elim (cases_eq d c) [
    | inl same ↦
        let is : a ≡ more = get_set_same old.agents.items c more a (ap (λ l. slice_get l c) (sym items) ∙ subst (λ n. slice_get new.agents.items n ≡ Some a) same e) in
        subst (λ n. ShowsAgent (kinds Q) (at w.agents c p n) a) (sym same) (subst (λ q. ShowsAgent (kinds Q) q a) (sym (at_same w.agents c p)) (subst (ShowsAgent (kinds Q) p) (sym is) here))
    | inr other ↦
        subst (λ q. ShowsAgent (kinds Q) q a) (sym (at_other w.agents c d p other))
        (goes.agents (kinds Q) (kinds w.kernel) (w.agents d) a extends (h.agents d a (sym (get_set_other old.agents.items c d more other) ∙ ap (λ l. slice_get l d) (sym items) ∙ e)))
  ];
  sent = told;
}
  where
    items : new.agents.items ≡ set old.agents.items c more
    items = agents ∙ ap (λ i. set old.agents.items i more) where_is.is

-- a list with its own element put back is the same list
pub put_back : (xs : List Agent) (i : ℕ) (d : Agent) → i < length xs → set xs i (get_or xs i d) ≡ xs
put_back [] i d low = absurd (omega arith)
put_back (x ∷ xs) zero d low = refl
put_back (x ∷ xs) (suc i) d low = ap (λ l. x ∷ l) (put_back xs i d (omega arith))

-- the deltas that were sent are of each run that goes on
pub sent_goes_on : (goes : RunsGoOn) (longer shorter : Run) (sets : List Set) (deltas : List (List Part)) → Extends longer shorter → AreSent shorter sets deltas → AreSent longer sets deltas
sent_goes_on goes longer shorter sets deltas extends told = sent_stays shorter longer sets deltas (λ parts. goes.deltas longer shorter parts extends) told

-- an agent is that which was put at its place, or one that stood there before
got_set : (xs : List Agent) (i : ℕ) (x : Agent) (j : ℕ) (y : Agent) → slice_get (set xs i x) j ≡ Some y → ((j ≡ i) × (y ≡ x)) ⊎ (slice_get xs j ≡ Some y)
got_set [] i x j y e = inr e
got_set (a ∷ xs) zero x zero y e = inl (refl, let is : y ≡ x = cc in is)
got_set (a ∷ xs) zero x (suc j) y e = inr e
got_set (a ∷ xs) (suc i) x zero y e = inr e
got_set (a ∷ xs) (suc i) x (suc j) y e = elim (got_set xs i x j y e) [ inl s ↦ inl (ap suc s.0, s.1) | inr s ↦ inr s ]

-- an agent of the same CPU is put in its place
pub own_after : (xs : List Agent) (i : ℕ) (x : Agent) → AreOwn xs → cpu_of x ≡ i → AreOwn (set xs i x)
own_after xs i x own cpu c y there = elim (got_set xs i x c y there) [
  | inl s ↦ ap cpu_of s.1 ∙ cpu ∙ sym s.0
  | inr s ↦ own c y s
]
