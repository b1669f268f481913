-- What a new world shows.
use Rattle.std.proofs.Common.{◌≡◌, ℕ, zero, suc, ◌+◌, ◌<◌, ◌≤◌, ◌⊎◌, List, [], ◌∷◌, ◌++◌, length, Option, Some, None, get_or, slice_get, refl, sym, ◌∙◌, ap, subst, length-append, inl, inr, arith}
use Rattle.std.specs.Option.{option_map}
use Rattle.std.proofs.lemmas.Option.{same_Some}
use Rattle.pc_messages.specs.Run.{Run}
use Rattle.pc_calls.specs.declared.limits.Limits.{Limits}
use Rattle.pc_kernel.specs.Answers.{Shows}
use Rattle.pc_kernel.specs.PlainKernel.{start, kinds}
use Rattle.pc_policy.specs.Rules.{Rules, rules_of, usual}
use Rattle.pc_policy.specs.declared.agent_policy.AgentPolicy.{AgentPolicy}
use Rattle.pc_agent.specs.Counts.{none_counted}
use Rattle.pc_agent.specs.declared.agent.Agent.{Agent}
use Rattle.pc_agent.specs.declared.counts.Counts.{Counts}
use Rattle.pc_agent.specs.PlainAgent.{fresh}
use Rattle.pc_agent.specs.Shows.{ShowsAgent, counts_of, cpu_of}
use Rattle.pc_world.specs.declared.parts.Parts.{Parts}
use Rattle.pc_world.specs.PlainWorld.{opened_by, rules_at}
use Rattle.pc_world.specs.Shows.{AreSent, ShowsWorld, deltas_of}
use Rattle.pc_world.specs.Inner.Agents.{AreNew}

-- an item of a list with one more is one of the list, or the last
at_push : (xs : List Agent) (x a : Agent) (i : ℕ) → slice_get (xs ++ x ∷ []) i ≡ Some a → (slice_get xs i ≡ Some a) ⊎ ((i ≡ length xs) × (a ≡ x))
at_push [] x a zero e = inr (refl, sym (same_Some x a e))
at_push [] x a (suc i) e = cc
at_push (y ∷ ys) x a zero e = inl e
at_push (y ∷ ys) x a (suc i) e = elim (at_push ys x a i e) [ inl h ↦ inl h | inr h ↦ inr (ap suc h.0, h.1) ]

pub new_more : (ranks : ℕ → Rules) (n : ℕ) (agents : List Agent) (agent : Agent) → AreNew ranks n agents → cpu_of agent ≡ n → ((run : Run) → ShowsAgent run (fresh (ranks n)) agent) → counts_of agent ≡ none_counted → AreNew ranks (n + 1) (agents ++ agent ∷ [])
new_more ranks n agents agent h cpu starts none =
    let size = h.count_is in
    record {
      count_is = length-append agents (agent ∷ []) ∙ ap (λ k. k + 1) size;
      own = λ c a e. elim (at_push agents agent a c e) [
        | inl before ↦ h.own c a before
        | inr last ↦ ap cpu_of last.1 ∙ cpu ∙ sym (last.0 ∙ size)
      ];
      fresh = λ c a e. elim (at_push agents agent a c e) [
        | inl before ↦ h.fresh c a before
        | inr last ↦ λ run. subst (ShowsAgent run (fresh (ranks c))) (sym last.1) (subst (λ n. ShowsAgent run (fresh (ranks n)) agent) (sym (last.0 ∙ size)) (starts run))
      ];
      uncounted = λ c a e. elim (at_push agents agent a c e) [
        | inl before ↦ h.uncounted c a before
        | inr last ↦ ap counts_of last.1 ∙ none
      ];
    }

pub new_world : (world : Parts) (ranks : ℕ → Rules) (limits : Limits) (count : ℕ) → Shows world.kernel (start limits) → AreNew ranks count world.agents.items → deltas_of world ≡ [] → ShowsWorld world (opened_by ranks limits)
new_world world ranks limits count kernel agents sent = record {
  kernel = kernel;
  agents = λ c agent e. agents.fresh c agent e (kinds (start limits));
  sent = subst (AreSent (kinds (start limits)) []) (sym sent) tt;
}

-- each of its agents has counted nothing
pub new_counts : (agents : List Agent) (ranks : ℕ → Rules) (count : ℕ) → AreNew ranks count agents → (c : ℕ) (counts : Counts) → option_map counts_of (slice_get agents c) ≡ Some counts → counts ≡ none_counted
new_counts agents ranks count new c counts e = by_agent (slice_get agents c) refl e
  where
    by_agent : (o : Option Agent) → slice_get agents c ≡ o → option_map counts_of o ≡ Some counts → counts ≡ none_counted
    by_agent None is e = cc
    by_agent (Some agent) is e = sym (same_Some (counts_of agent) counts e) ∙ new.uncounted c agent is

-- the policy of a CPU, and of one for which none is given
pub policy_there : (policies : List AgentPolicy) (c : ℕ) (policy : AgentPolicy) → c < length policies → policy ≡ get_or policies c policy → rules_of policy ≡ rules_at policies c
policy_there [] c policy lt e = absurd (omega arith)
policy_there (p ∷ ps) zero policy lt e = ap rules_of e
policy_there (p ∷ ps) (suc c) policy lt e = policy_there ps c policy (omega arith) e

pub no_policy : (policies : List AgentPolicy) (c : ℕ) → length policies ≤ c → usual ≡ rules_at policies c
no_policy [] c le = refl
no_policy (p ∷ ps) zero le = absurd (omega arith)
no_policy (p ∷ ps) (suc c) le = no_policy ps c (omega arith)
