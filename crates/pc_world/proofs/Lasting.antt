-- A world that events lead to is still one after a further event.
use Rattle.std.proofs.Common.{ℕ, ◌≡◌, true, List, [], ◌∷◌, ◌++◌, Some, None, Result, Ok, Err, refl, sym, ◌∙◌, ap, subst, inl, inr}
use Rattle.pc_calls.specs.declared.call.AgentCall.TheVariants as agent_call
use Rattle.pc_calls.specs.declared.call.Call.{Call}
use Rattle.pc_calls.specs.declared.call.Call.TheVariants as call
use Rattle.pc_calls.specs.declared.call.EnvCall.{EnvCall}
use Rattle.pc_calls.specs.declared.call.EnvCall.TheVariants as env
use Rattle.pc_calls.specs.declared.event.Event.{Event}
use Rattle.pc_calls.specs.declared.event.Event.TheVariants as event
use Rattle.pc_calls.specs.declared.event.Reply.{Reply}
use Rattle.pc_calls.specs.declared.limits.Limits.{Limits}
use Rattle.pc_join.specs.declared.join.OutOfMemory.{OutOfMemory}
use Rattle.pc_kernel.specs.Answers.{Shows}
use Rattle.pc_kernel.specs.PlainKernel.{PlainKernel, start}
use Rattle.pc_kernel.specs.Reads.{Reads, is_cpu, shown}
use Rattle.pc_kernel.specs.Rows.{KernelRows}
use Rattle.pc_kernel.specs.Steps.{after, after_of, changed, posting, refused, replay}
use Rattle.pc_world.specs.declared.parts.Parts.{Parts}
use Rattle.pc_policy.specs.Rules.{Rules}
use Rattle.pc_world.specs.PlainWorld.{PlainWorld, opened_by}
use Rattle.pc_world.specs.Reached.{IsSentLate, Leads, LeadsTo, Reached}
use Rattle.pc_world.specs.Shows.{IsReached, KeepsSent, ShowsTheSame, ShowsWorld}
use Rattle.pc_world.specs.Inner.Handling.{Handles, Outcome}
use Rattle.pc_world.specs.Inner.Laws.{KernelLaws}
use Rattle.pc_world.proofs.Reaching.{reached_good, reached_ranked}
use Rattle.pc_messages.proofs.Bools.{both}

-- no call changes the limits
env_limits : (P : PlainKernel) (made : EnvCall) → (posting P made).before.limits ≡ P.limits
env_limits P (env.Create queue ready mask) = refl
env_limits P (env.Wake t) = refl
env_limits P (env.Block cpu ran) = refl
env_limits P (env.YieldNow cpu ran) = refl
env_limits P (env.Preempt cpu ran) = refl
env_limits P (env.Die cpu ran) = refl
env_limits P (env.SetAffinity t mask) = refl
env_limits P (env.SetPriority t level) = refl
env_limits P (env.Tick cpu) = refl

changed_limits : (P : PlainKernel) (made : Call) → (changed P made).limits ≡ P.limits
changed_limits P (call.Env made) = env_limits P made
changed_limits P (call.Consume cpu count) = refl
changed_limits P (call.Agent (agent_call.Associate t queue n)) = refl
changed_limits P (call.Agent (agent_call.Commit cpu t n)) = refl
changed_limits P (call.Agent (agent_call.Sleep cpu n)) = refl
changed_limits P (call.Agent (agent_call.Rouse cpu)) = refl
changed_limits P (call.Agent (agent_call.Config queue None)) = refl
changed_limits P (call.Agent (agent_call.Config queue (Some cpu))) = refl

after_limits : (P : PlainKernel) (made : Call) → (after P made).limits ≡ P.limits
after_limits P made = elim (refused (shown P) made) as (λ o. (after_of o (changed P made) P).limits ≡ P.limits) [ None ↦ changed_limits P made | Some why ↦ refl ]

replay_limits : (P : PlainKernel) (calls : List Call) → (replay P calls).limits ≡ P.limits
replay_limits P [] = refl
replay_limits P (made ∷ calls) = replay_limits (after P made) calls ∙ after_limits P made

shown_limits : (k : KernelRows) (P : PlainKernel) → Shows k P → k.limits ≡ P.limits
shown_limits k P h = ap (λ (r : Reads). r.limits) h.reads

-- one event more
pub leads_more : (w : PlainWorld) (events : List Event) (mid new : PlainWorld) (event : Event) → Leads w events mid → LeadsTo mid event new → Leads w (events ++ event ∷ []) new
leads_more w [] mid new event leads to = (new, subst (λ from. LeadsTo from event new) leads to, refl)
leads_more w (e ∷ events) mid new event leads to = (leads.0, leads.1, leads_more leads.0 events mid new event leads.2 to)

leads_to : (w : PlainWorld) (event : Event) (result : Result Reply OutOfMemory) (new : PlainWorld) → Outcome w event result new → LeadsTo w event new
leads_to w event (Ok told) new done = inl (told, done)
leads_to w event (Err fault) new left = inr (inr left)

pub reached_start : (world : Parts) (ranks : ℕ → Rules) (limits : Limits) → ShowsWorld world (opened_by ranks limits) → IsReached world
reached_start world ranks limits shows =
    let same : world.kernel.limits ≡ limits = shown_limits world.kernel (start limits) shows.kernel in
    record {
      plain = opened_by ranks limits;
      reached = record { rules = ranks; events = []; leads = ap (opened_by ranks) (sym same) };
      shows = shows;
      rules = λ c agent there. (shows.agents c agent there).rules;
    }

-- what an event leads to from a reached world is reached, and so a world that shows it
pub reached_by : (laws : KernelLaws) (event : Event) (old new : Parts) (h : IsReached old) (w : PlainWorld) → LeadsTo h.plain event w → ShowsWorld new w → IsReached new
reached_by laws event old new h w to shows =
    let limits : Limits = old.kernel.limits in
    let ranks : ℕ → Rules = h.reached.rules in
    let leads = leads_more (opened_by ranks limits) h.reached.events h.plain w event h.reached.leads to in
    let again : Reached limits w = record { rules = ranks; events = h.reached.events ++ event ∷ []; leads = leads } in
    let good = reached_good laws limits w again in
    let same : new.kernel.limits ≡ limits =
    shown_limits new.kernel w.kernel shows.kernel ∙ ap (λ (P : PlainKernel). P.limits) good.replayed ∙ replay_limits (start limits) good.calls in
    record {
      plain = w;
      reached = record {
        rules = ranks;
        events = h.reached.events ++ event ∷ [];
        leads = subst (λ l. Leads (opened_by ranks l) (h.reached.events ++ event ∷ []) w) (sym same) leads;
      };
      shows = shows;
      rules = λ c agent there. (shows.agents c agent there).rules ∙ reached_ranked laws limits w c again;
    }

pub reached_on : (laws : KernelLaws) (event : Event) (result : Result Reply OutOfMemory) (old new : Parts) → Handles event result old new → IsReached old → IsReached new
reached_on laws event result old new handles h =
    let did = handles h.plain h.shows in reached_by laws event old new h did.0 (leads_to h.plain event result did.0 did.1) did.2

-- an answer to an older digest is sent from a reached world
pub reached_late : (laws : KernelLaws) (c : ℕ) (old new : Parts) (h : IsReached old) (w : PlainWorld) → is_cpu (shown h.plain.kernel) c ≡ true → IsSentLate h.plain c w → ShowsWorld new w → IsReached new
reached_late laws c old new h w there late shows =
    reached_by laws (event.Answer c c) old new h w (inr (inl (both (is_cpu (shown h.plain.kernel) c) (is_cpu (shown h.plain.kernel) c) there there, late))) shows

-- a world that shows the same is reached
pub reached_same : (laws : KernelLaws) (old new : Parts) → new.kernel ≡ old.kernel → ShowsTheSame old new → IsReached old → IsReached new
reached_same laws old new kernel same h = record {
  plain = h.plain;
  reached = record {
    rules = h.reached.rules;
    events = h.reached.events;
    leads = subst (λ (k : KernelRows). Leads (opened_by h.reached.rules k.limits) h.reached.events h.plain) (sym kernel) h.reached.leads;
  };
  shows = same h.plain h.shows;
  rules = λ c agent there. ((same h.plain h.shows).agents c agent there).rules ∙ reached_ranked laws old.kernel.limits h.plain c h.reached;
}

-- what was sent stays sent
pub keeps_sent : (event : Event) (result : Result Reply OutOfMemory) (old new : Parts) → Handles event result old new → IsReached old → KeepsSent old new
keeps_sent event result old new handles h = (handles h.plain h.shows).3
