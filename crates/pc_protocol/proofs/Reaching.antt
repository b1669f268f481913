-- The world of each state is reached.
use Rattle.std.proofs.Common.{◌≡◌, ◌⊎◌, ℕ, Bool, true, false, nat_lt, List, [], ◌∷◌, ◌++◌, length, if◌then◌else◌, refl, sym, ◌∙◌, ap, subst, inl, inr}
use Rattle.pc_calls.specs.declared.call.AgentCall.TheVariants.{Sleep}
use Rattle.pc_calls.specs.declared.event.Event.{Event}
use Rattle.pc_calls.specs.declared.event.Event.TheVariants as event
use Rattle.pc_calls.specs.declared.event.Reply.{Reply}
use Rattle.pc_calls.specs.declared.event.Reply.TheVariants as reply
use Rattle.pc_calls.specs.declared.refusal.Refusal.TheVariants as refusal
use Rattle.pc_calls.specs.declared.limits.Limits.{Limits}
use Rattle.pc_kernel.specs.Reads.{shown, is_cpu}
use Rattle.pc_policy.specs.Rules.{Rules}
use Rattle.pc_world.specs.PlainWorld.{PlainWorld, opened_by}
use Rattle.pc_world.specs.Reached.{Leads, Reached}
use Rattle.pc_world.specs.Steps.{Runs, Step}
use Rattle.pc_world.proofs.Picking.{both_of}
use Rattle.std.proofs.lemmas.Bool.{cases_eq}
use Rattle.pc_kernel.specs.PlainKernel.{PlainKernel}
use Rattle.pc_kernel.specs.Steps.{at, posting, woken}
use Rattle.pc_agent.specs.PlainAgent.{Set}
use Rattle.pc_world.specs.Inner.Laws.{KernelLaws}
use Rattle.pc_world.proofs.Places.{at_other, at_same}
use Rattle.pc_protocol.specs.Protocol.{Acts, Comes, Goes, IsAct, IsCalledByEnv, IsForgotten, IsLook, IsPut, IsTake, Note, Protocol, Takes, TakesIn, answer, answers, asks, goes_on, learns, news, summoned, telling, picked, refused, roused, starts, stole, telling_others, wake}
use Rattle.pc_protocol.proofs.Among.{IsAmong, among_rest, among_middle}
use Rattle.pc_protocol.proofs.Boxes.{others_before, roused_before, told_before}
use Rattle.pc_protocol.proofs.Calm.{acts_calm, calm_on, sleep_calm}
use Rattle.pc_protocol.proofs.Forgetting.{forgets_before}
use Rattle.pc_protocol.proofs.Stepping.{EnvDoes, env_does, is_before, looks, taken, taken_in, there_on}

news_ask : (asker : ℕ) (digest : Set) → news ≡ asks asker digest → ⊥
news_ask asker digest e = cc

answer_ask : (k asker : ℕ) (digest : Set) → answer k ≡ asks asker digest → ⊥
answer_ask k asker digest e = cc

wake_ask : (asker : ℕ) (digest : Set) → wake ≡ asks asker digest → ⊥
wake_ask asker digest e = cc

same_asker : (a b : ℕ) (x y : Set) → asks a x ≡ asks b y → a ≡ b
same_asker a b x y e = cc

-- some events lead to it
abbrev pub Leads_to : PlainWorld → PlainWorld → Type 0
Leads_to w new = (events : List Event) × Leads w events new

leads_append : (w v u : PlainWorld) (before rest : List Event) → Leads w before v → Leads v rest u → Leads w (before ++ rest) u
leads_append w v u [] rest led leads = subst (λ x. Leads x rest u) led leads
leads_append w v u (e ∷ before) rest led leads = (led.0, led.1, leads_append led.0 v u before rest led.2 leads)

runs_lead : (w v : PlainWorld) (events : List Event) (told : List Reply) → Runs w events told v → Leads w events v
runs_lead w v [] [] ran = ran
runs_lead w v [] (t ∷ told) ran = absurd ran
runs_lead w v (e ∷ events) [] ran = absurd ran
runs_lead w v (e ∷ events) (t ∷ told) ran = (ran.0, inl (t, ran.1), runs_lead ran.0 v events told ran.2)

pub one_leads : (w v : PlainWorld) (e : Event) (told : Reply) → Step w e told v → Leads_to w v
one_leads w v e told step = (e ∷ [], (v, inl (told, step), refl))

pub reach_more : (limits : Limits) (w new : PlainWorld) → Reached limits w → Leads_to w new → Reached limits new
reach_more limits w new h more = record {
  rules = h.rules;
  events = h.events ++ more.0;
  leads = leads_append (opened_by h.rules limits) w new h.events more.0 h.leads more.1;
}

then_leads : (w v u : PlainWorld) → Leads_to w v → Leads_to v u → Leads_to w u
then_leads w v u first next = (first.0 ++ next.0, leads_append w v u first.0 next.0 first.1 next.1)

-- what an agent does leads to the world behind it
pub acts_lead : (w : PlainWorld) (c n : ℕ) (asking : Bool) (new : PlainWorld) → Acts w c n asking new → Leads_to w new
acts_lead w c n asking new (picked taken told ran other) =
    (event.Consume c ∷ event.Pick c n ∷ [], runs_lead w new (event.Consume c ∷ event.Pick c n ∷ []) (taken ∷ told ∷ []) ran)
acts_lead w c n asking new (stole taken told again queue thread ran) =
    let events = event.Consume c ∷ event.Pick c n ∷ event.Steal c ∷ event.Pick c n ∷ [] in
    (events, runs_lead w new events (taken ∷ reply.Refused refusal.NothingReady ∷ reply.Associated queue thread ∷ again ∷ []) ran)
acts_lead w c n asking new (refused taken r ran) =
    let events = event.Consume c ∷ event.Pick c n ∷ event.Steal c ∷ [] in
    (events, runs_lead w new events (taken ∷ reply.Refused refusal.NothingReady ∷ reply.Refused r ∷ []) ran)

takes_lead : (w : PlainWorld) (c : ℕ) (boxes : ℕ → List Note) (note : Note) (new : PlainWorld) (out : ℕ → List Note) → is_cpu (shown w.kernel) c ≡ true
    → ((asker : ℕ) (digest : Set) → note ≡ asks asker digest → is_cpu (shown w.kernel) asker ≡ true) → Takes w c boxes note new out → Leads_to w new
takes_lead w c boxes note new out there asking roused = ([], refl)
takes_lead w c boxes note new out there asking summoned = ([], refl)
takes_lead w c boxes note new out there asking (learns k told step) = one_leads w new (event.Deliver c k) told step
takes_lead w c boxes note new out there asking (answers asker digest set so) = (
  event.Answer c asker ∷ [],
  (new, inr (inl (both_of (is_cpu (shown w.kernel) c) (is_cpu (shown w.kernel) asker) there (asking asker digest refl), record { set = set; within = so.within; after = refl })), refl),
)

pub takes_in_lead : (w : PlainWorld) (c : ℕ) (ks : List ℕ) (new : PlainWorld) → TakesIn c w ks new → Leads_to w new
takes_in_lead w c [] new e = ([], e)
takes_in_lead w c (k ∷ rest) new h = then_leads w h.0 new (one_leads w h.0 (event.Deliver c k) h.1 h.2) (takes_in_lead h.0 c rest new h.3)

-- who asks is there
abbrev pub AskersAreThere : Protocol → Type 0
AskersAreThere p = (d asker : ℕ) (digest : Set) → IsAmong (asks asker digest) (p.boxes d) → is_cpu (shown p.world.kernel) asker ≡ true

pub takes_asked : (w : PlainWorld) (c : ℕ) (boxes : ℕ → List Note) (note : Note) (new : PlainWorld) (out : ℕ → List Note) → Takes w c boxes note new out
    → (d asker : ℕ) (digest : Set) → IsAmong (asks asker digest) (out d) → IsAmong (asks asker digest) (boxes d)
takes_asked w c boxes note new out roused d asker digest h = h
takes_asked w c boxes note new out summoned d asker digest h = h
takes_asked w c boxes note new out (learns k told step) d asker digest h = h
takes_asked w c boxes note new out (answers other lacks set so) d asker digest h = elim (told_before other (answer (length w.sent)) boxes d (asks asker digest) h) [
  | inl e ↦ absurd (answer_ask (length w.sent) asker digest e)
  | inr was ↦ was
]

module _ (laws : KernelLaws) (p new : Protocol) (h : AskersAreThere p) where
  abbrev w : PlainWorld
  w = p.world

  asked_on : new.world.kernel.limits ≡ w.kernel.limits → ((d asker : ℕ) (digest : Set) → IsAmong (asks asker digest) (new.boxes d) → IsAmong (asks asker digest) (p.boxes d) ⊎ (is_cpu (shown w.kernel) asker ≡ true)) → AskersAreThere new
  asked_on limits was d asker digest isin = ap (λ (l : Limits). nat_lt asker l.cpus) limits ∙ elim (was d asker digest isin) [ inl before ↦ h d asker digest before | inr there ↦ there ]

  asked_env : (called : IsCalledByEnv p new) → EnvDoes p called.call new → AskersAreThere new
  asked_env called (inl same) d asker digest isin =
      asked_on (ap (λ (v : PlainWorld). v.kernel.limits) same.0) (λ d asker digest isin. inl (subst (λ (b : ℕ → List Note). IsAmong (asks asker digest) (b d)) same.1 isin)) d asker digest isin
  asked_env called (inr post) d asker digest isin =
      let post_of = posting w.kernel called.call in
      let o = woken post_of.before post_of.queue in
      asked_on (ap (λ (v : PlainWorld). v.kernel.limits) post.world ∙ (is_before w.kernel called.call).limits)
      (λ d asker digest isin. elim (roused_before o p.boxes d (asks asker digest) (subst (λ (b : ℕ → List Note). IsAmong (asks asker digest) (b d)) post.boxes isin)) [
        | inl e ↦ absurd (wake_ask asker digest e)
        | inr was ↦ inl was
      ]) d asker digest isin

  asked_forgotten : IsForgotten p new → AskersAreThere new
  asked_forgotten f = asked_on (ap (λ (v : PlainWorld). v.kernel.limits) f.world) (λ d asker digest isin. inl (forgets_before p new f d (asks asker digest) isin))

  module _ (c : ℕ) (there : is_cpu (shown w.kernel) c ≡ true) where
    asked_look : IsLook p c new → AskersAreThere new
    asked_look look = asked_on (ap (λ (v : PlainWorld). v.kernel.limits) (looks w c look.told new.world there look.step)) (λ d asker digest isin. inl (subst (λ (b : ℕ → List Note). IsAmong (asks asker digest) (b d)) look.boxes isin))

    asked_put : IsPut p c new → AskersAreThere new
    asked_put put = asked_on (ap (λ (v : PlainWorld). v.kernel.limits) put.world) (λ d asker digest isin. inl (by_quiet put.quiet d asker digest (subst (λ (b : ℕ → List Note). IsAmong (asks asker digest) (b d)) put.boxes isin)))
      where
        by_quiet : (b : Bool) (d asker : ℕ) (digest : Set) → IsAmong (asks asker digest) ((if b then p.boxes else telling put.to news p.boxes) d) → IsAmong (asks asker digest) (p.boxes d)
        by_quiet true d asker digest isin = isin
        by_quiet false d asker digest isin = elim (told_before put.to news p.boxes d (asks asker digest) isin) [
          | inl e ↦ absurd (news_ask asker digest e)
          | inr was ↦ was
        ]

    asked_act : IsAct p c new → AskersAreThere new
    asked_act act = asked_on (calm_on c w act.acted new.world (acts_calm laws w c act.n act.asking act.acted act.acts) (sleep_calm c act.n act.acted new.world act.told act.sleeps)).limits before
      where
        before : (d asker : ℕ) (digest : Set) → IsAmong (asks asker digest) (new.boxes d) → IsAmong (asks asker digest) (p.boxes d) ⊎ (is_cpu (shown w.kernel) asker ≡ true)
        before d asker digest isin = by_asking act.asking (subst (λ (b : ℕ → List Note). IsAmong (asks asker digest) (b d)) act.boxes isin)
          where
            known : Set
            known = (act.acted.agents c).known

            by_asking : (b : Bool) → IsAmong (asks asker digest) ((if b then telling_others c (asks c known) p.boxes else p.boxes) d) → IsAmong (asks asker digest) (p.boxes d) ⊎ (is_cpu (shown w.kernel) asker ≡ true)
            by_asking false isin = inl isin
            by_asking true isin = elim (others_before c (asks c known) p.boxes d (asks asker digest) isin) [
              | inl e ↦ inr (ap (is_cpu (shown w.kernel)) (sym (same_asker c asker known digest e)) ∙ there)
              | inr was ↦ inl was
            ]

    reads_kernel : (take : IsTake p c new) → take.read.kernel ≡ w.kernel
    reads_kernel take = (taken_in w c p.boxes (p.mails c) take.read there take.reads).kernel

    asked_take : IsTake p c new → AskersAreThere new
    asked_take take =
        let rest = take.before ++ take.behind in
        asked_on (ap (λ (P : PlainKernel). P.limits) ((taken take.read c (at p.boxes c rest) take.note new.world new.boxes (there_on w take.read c (reads_kernel take) there) take.takes).kernel ∙ reads_kernel take))
        (λ d asker digest isin. inl (by_cpu d asker digest (cases_eq d c) (takes_asked take.read c (at p.boxes c rest) take.note new.world new.boxes take.takes d asker digest isin)))
      where
        by_cpu : (d asker : ℕ) (digest : Set) → (d ≡ c) ⊎ (d ≡ c → ⊥) → IsAmong (asks asker digest) (at p.boxes c (take.before ++ take.behind) d) → IsAmong (asks asker digest) (p.boxes d)
        by_cpu d asker digest (inr o) isin = subst (IsAmong (asks asker digest)) (at_other p.boxes c d (take.before ++ take.behind) o) isin
        by_cpu d asker digest (inl own) isin =
            let rest = take.before ++ take.behind in
            let here = subst (IsAmong (asks asker digest)) (ap (at p.boxes c rest) own ∙ at_same p.boxes c rest) isin in
            subst (IsAmong (asks asker digest)) (sym (ap p.boxes own ∙ take.in_box)) (among_rest (asks asker digest) take.note take.before take.behind here)

    asked_agent : IsLook p c new ⊎ (IsPut p c new ⊎ (IsAct p c new ⊎ IsTake p c new)) → AskersAreThere new
    asked_agent (inl look) = asked_look look
    asked_agent (inr (inl put)) = asked_put put
    asked_agent (inr (inr (inl act))) = asked_act act
    asked_agent (inr (inr (inr take))) = asked_take take

    agent_leads : IsLook p c new ⊎ (IsPut p c new ⊎ (IsAct p c new ⊎ IsTake p c new)) → Leads_to w new.world
    agent_leads (inl look) = one_leads w new.world (event.Publish c false) look.told look.step
    agent_leads (inr (inl put)) = ([], put.world)
    agent_leads (inr (inr (inl act))) =
        then_leads w act.acted new.world (acts_lead w c act.n act.asking act.acted act.acts) (one_leads act.acted new.world (event.Agent (Sleep c act.n)) act.told act.sleeps)
    agent_leads (inr (inr (inr take))) =
        let kernel = reads_kernel take in
        then_leads w take.read new.world (takes_in_lead w c (p.mails c) take.read take.reads)
        (takes_lead take.read c (at p.boxes c (take.before ++ take.behind)) take.note new.world new.boxes (there_on w take.read c kernel there)
        (λ asker digest is. there_on w take.read asker kernel (h c asker digest (subst (IsAmong (asks asker digest)) (sym take.in_box) (subst (λ n. IsAmong n (take.before ++ take.note ∷ take.behind)) is (among_middle take.note take.before take.behind))))) take.takes)

  goes_leads : Goes p new → Leads_to w new.world
  goes_leads (inl env) = one_leads w new.world (event.Env env.call) env.told env.step
  goes_leads (inr (inl f)) = ([], f.world)
  goes_leads (inr (inr of)) = agent_leads of.0 of.1.there of.1.step

  asked_goes : Goes p new → AskersAreThere new
  asked_goes (inl called) = asked_env called (env_does p new called)
  asked_goes (inr (inl f)) = asked_forgotten f
  asked_goes (inr (inr of)) = asked_agent of.0 of.1.there of.1.step

pub askers : KernelLaws → (rules : ℕ → Rules) (limits : Limits) (p : Protocol) → Comes rules limits p → AskersAreThere p
askers laws rules limits p starts d asker digest isin = absurd isin
askers laws rules limits p (goes_on {p = old} comes goes) d asker digest isin = asked_goes laws old p (askers laws rules limits old comes) goes d asker digest isin

pub leads : KernelLaws → (rules : ℕ → Rules) (limits : Limits) (p : Protocol) → Comes rules limits p → Leads_to (opened_by rules limits) p.world
leads laws rules limits p starts = ([], refl)
leads laws rules limits p (goes_on {p = old} comes goes) =
    then_leads (opened_by rules limits) old.world p.world (leads laws rules limits old comes) (goes_leads laws old p (askers laws rules limits old comes) goes)

abbrev pub reaches : KernelLaws → (rules : ℕ → Rules) (limits : Limits) (p : Protocol) → Comes rules limits p → Reached limits p.world
reaches laws rules limits p comes = let led = leads laws rules limits p comes in record { rules = rules; events = led.0; leads = led.1 }
