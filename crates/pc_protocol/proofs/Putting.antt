-- What is to be put stands in the sender's queue, and is to be put to others alone; what is in a mailbox was put by another.
use Rattle.std.proofs.Common.{◌≡◌, ◌⊎◌, ◌≤◌, ℕ, nat_lt, Bool, true, false, List, [], ◌∷◌, ◌++◌, length, drop, Some, slice_get, if◌then◌else◌, sym, ◌∙◌, ap, subst, inl, inr, arith}
use Rattle.std.specs.List.{filter_map}
use Rattle.std.proofs.lemmas.Bool.{cases_eq}
use Rattle.std.proofs.lemmas.List.{drop-append-le}
use Rattle.pc_messages.specs.Items.{pairs_in}
use Rattle.pc_calls.specs.declared.limits.Limits.{Limits}
use Rattle.pc_join.specs.Sets.{has}
use Rattle.pc_kernel.specs.PlainKernel.{PlainKernel, aseq, content, items_to, item_to}
use Rattle.pc_kernel.specs.Reads.{shown, is_cpu}
use Rattle.pc_kernel.specs.Steps.{at, changed, posting}
use Rattle.pc_calls.specs.declared.call.Call.TheVariants as call
use Rattle.pc_calls.specs.declared.call.EnvCall.{EnvCall}
use Rattle.pc_kernel.proofs.Posting.{if_to}
use Rattle.pc_agent.specs.PlainAgent.{Set}
use Rattle.pc_policy.specs.Rules.{Rules}
use Rattle.pc_world.specs.PlainWorld.{PlainWorld, published}
use Rattle.pc_world.specs.Inner.Laws.{KernelLaws}
use Rattle.pc_world.proofs.Good.{IsGood}
use Rattle.pc_world.proofs.Places.{at_other, at_same}
use Rattle.pc_world.proofs.Reaching.{reached_good}
use Rattle.pc_protocol.specs.Protocol.{Comes, Goes, IsAct, IsCalledByEnv, IsLook, IsPut, IsTake, Protocol, Stage, begins, behind_sleep, goes_on, opening, others, puts, starts, tells_none}
use Rattle.pc_protocol.proofs.Among.{IsAmong, among_rest, among_middle}
use Rattle.pc_protocol.proofs.Reaching.{reaches}
use Rattle.pc_protocol.proofs.Sleeping.{IsKept, act_calm, kept, stage_of, take_does}
use Rattle.pc_protocol.proofs.Spreading.{get_last, items_after, others_not, pairs_append}
use Rattle.pc_protocol.proofs.Stepping.{EnvDoes, begins_not_puts, behind_not_puts, env_does, has_more, is_before, looks, same_index, same_left, sent_more}

-- what was sent with this index stands in the queue
abbrev pub StandsIn : PlainWorld → ℕ → ℕ → Type 0
StandsIn w c k = (set : Set) × (slice_get w.sent k ≡ Some set) × ((t n : ℕ) → has set t n ≡ true → has (pairs_in (content w.kernel c)) t n ≡ true)

pub record IsPutting (p : Protocol) : Type 0 where
  pub there : (c n k : ℕ) (l : List ℕ) → p.stages c ≡ puts n k l → is_cpu (shown p.world.kernel) c ≡ true
  pub other : (c n k d : ℕ) (l : List ℕ) → p.stages c ≡ puts n k l → IsAmong d l → d ≡ c → ⊥
  pub stands : (c n k d : ℕ) (l : List ℕ) → p.stages c ≡ puts n k l → IsAmong d l → StandsIn p.world c k
  pub mail : (d k : ℕ) → IsAmong k (p.mails d) → (e : ℕ) × (is_cpu (shown p.world.kernel) e ≡ true) × (e ≡ d → ⊥)

putting_start : (rules : ℕ → Rules) (limits : Limits) → IsPutting (opening rules limits)
putting_start rules limits = record {
  there = λ c n k l e. absurd (begins_not_puts n k l e);
  other = λ c n k d l e. absurd (begins_not_puts n k l e);
  stands = λ c n k d l e. absurd (begins_not_puts n k l e);
  mail = λ d k h. absurd h;
}

module _ (laws : KernelLaws) (limits : Limits) (p new : Protocol) (good : IsGood limits p.world) (keeps : IsKept p) (h : IsPutting p) where
  abbrev w : PlainWorld
  w = p.world

  cpu_on : new.world.kernel.limits ≡ w.kernel.limits → (c : ℕ) → is_cpu (shown w.kernel) c ≡ true → is_cpu (shown new.world.kernel) c ≡ true
  cpu_on limits c there = ap (λ (l : Limits). nat_lt c l.cpus) limits ∙ there

  -- where stages and mailboxes stay
  putting_same : new.world.kernel.limits ≡ w.kernel.limits → new.stages ≡ p.stages → new.mails ≡ p.mails → ((c k : ℕ) → StandsIn w c k → StandsIn new.world c k) → IsPutting new
  putting_same limits stages mails stands = record {
    there = λ c n k l e. cpu_on limits c (h.there c n k l (sym (ap (λ (s : ℕ → Stage). s c) stages) ∙ e));
    other = λ c n k d l e. h.other c n k d l (sym (ap (λ (s : ℕ → Stage). s c) stages) ∙ e);
    stands = λ c n k d l e among. stands c k (h.stands c n k d l (sym (ap (λ (s : ℕ → Stage). s c) stages) ∙ e) among);
    mail = λ d k isin. let m = h.mail d k (subst (λ (m : ℕ → List ℕ). IsAmong k (m d)) mails isin) in (m.0, cpu_on limits m.0 m.1, m.2);
  }

  putting_env : (called : IsCalledByEnv p new) → EnvDoes p called.call new → IsPutting new
  putting_env called (inl same) =
      putting_same (ap (λ (v : PlainWorld). v.kernel.limits) same.0) called.stages called.mails (λ c k. subst (λ v. StandsIn v c k) (sym same.0))
  putting_env called (inr post) =
      let made = called.call in
      putting_same (ap (λ (v : PlainWorld). v.kernel.limits) post.world ∙ (is_before w.kernel made).limits) called.stages called.mails
      (λ c k s. (
        s.0,
        ap (λ (v : PlainWorld). slice_get v.sent k) post.world ∙ s.1,
        λ t n told.
            let few = good.few c in
            let low : w.kernel.eaten c ≤ length (items_to w.kernel c) = omega arith in
            ap (λ (v : PlainWorld). has (pairs_in (content v.kernel c)) t n) post.world
            ∙ ap (λ (f : ℕ → ℕ). has (pairs_in (drop (f c) (items_to (kernel_after made) c))) t n) (is_before w.kernel made).eaten
            ∙ ap (λ is. has (pairs_in (drop (w.kernel.eaten c) is)) t n) (items_after w.kernel made c)
            ∙ ap (λ is. has (pairs_in is) t n) (drop-append-le (w.kernel.eaten c) (items_to w.kernel c) (if_to (posting w.kernel made).queue c (posting w.kernel made).item) low)
            ∙ ap (λ s. has s t n) (pairs_append (content w.kernel c) (if_to (posting w.kernel made).queue c (posting w.kernel made).item))
            ∙ has_more (pairs_in (content w.kernel c)) (pairs_in (if_to (posting w.kernel made).queue c (posting w.kernel made).item)) t n (s.2 t n told),
      ))
    where
      kernel_after : EnvCall → PlainKernel
      kernel_after made = changed w.kernel (call.Env made)

  module _ (c : ℕ) (there : is_cpu (shown w.kernel) c ≡ true) where
    abbrev to_put : Bool → List ℕ
    to_put b = if b then [] else others c w.kernel.limits.cpus

    -- to the others alone
    to_others : (b : Bool) (d : ℕ) → IsAmong d (to_put b) → d ≡ c → ⊥
    to_others true d among = absurd among
    to_others false d among = others_not c w.kernel.limits.cpus d among

    putting_look : IsLook p c new → IsPutting new
    putting_look look =
        let is : new.world ≡ published w c = looks w c look.told new.world there look.step in
        let b = tells_none (pairs_in (content w.kernel c)) in
        let s = puts (aseq w.kernel c) (length w.sent) (to_put b) in
        let limits_same : new.world.kernel.limits ≡ w.kernel.limits = ap (λ (v : PlainWorld). v.kernel.limits) is in
        let stage = stage_of laws limits p new good keeps c there s look.stages in
        record {
          there = λ d n k l e. elim (stage d (puts n k l) e) [
            | inl own ↦ cpu_on limits_same d (ap (is_cpu (shown w.kernel)) own.0 ∙ there)
            | inr o ↦ cpu_on limits_same d (h.there d n k l o.1)
          ];
          other = λ d n k f l e among. elim (stage d (puts n k l) e) [
            | inl own ↦ λ same. to_others b f (subst (IsAmong f) (sym (same_left (aseq w.kernel c) n (length w.sent) k (to_put b) l own.1)) among) (same ∙ own.0)
            | inr o ↦ h.other d n k f l o.1 among
          ];
          stands = λ d n k f l e among. elim (stage d (puts n k l) e) [
            | inl own ↦ subst (λ v. StandsIn v d k) (sym is) (subst (λ m. StandsIn (published w c) m k) (sym own.0) (subst (StandsIn (published w c) c) (same_index (aseq w.kernel c) n (length w.sent) k (to_put b) l own.1)
                (pairs_in (content w.kernel c), get_last w.sent (pairs_in (content w.kernel c)), λ t n told. told)))
            | inr o ↦ let s = h.stands d n k f l o.1 among in subst (λ v. StandsIn v d k) (sym is) (s.0, sent_more w.sent (pairs_in (content w.kernel c) ∷ []) k s.0 s.1, s.2)
          ];
          mail = λ d k isin. let m = h.mail d k (subst (λ (m : ℕ → List ℕ). IsAmong k (m d)) look.mails isin) in (m.0, cpu_on limits_same m.0 m.1, m.2);
        }

    putting_put : IsPut p c new → IsPutting new
    putting_put put =
        let rest = put.before ++ put.behind in
        let left = put.before ++ put.to ∷ put.behind in
        let stage = stage_of laws limits p new good keeps c there (puts put.n put.k rest) put.stages in
        let limits_same : new.world.kernel.limits ≡ w.kernel.limits = ap (λ (v : PlainWorld). v.kernel.limits) put.world in
        record {
          there = λ d n k l e. elim (stage d (puts n k l) e) [
            | inl own ↦ cpu_on limits_same d (ap (is_cpu (shown w.kernel)) own.0 ∙ there)
            | inr o ↦ cpu_on limits_same d (h.there d n k l o.1)
          ];
          other = λ d n k f l e among. elim (stage d (puts n k l) e) [
            | inl own ↦ λ same. h.other c put.n put.k f left put.at_put (among_rest f put.to put.before put.behind (subst (IsAmong f) (sym (same_left put.n n put.k k rest l own.1)) among)) (same ∙ own.0)
            | inr o ↦ h.other d n k f l o.1 among
          ];
          stands = λ d n k f l e among. subst (λ v. StandsIn v d k) (sym put.world) (elim (stage d (puts n k l) e) [
            | inl own ↦ subst (λ m. StandsIn w m k) (sym own.0) (subst (StandsIn w c) (same_index put.n n put.k k rest l own.1)
                (h.stands c put.n put.k f left put.at_put (among_rest f put.to put.before put.behind (subst (IsAmong f) (sym (same_left put.n n put.k k rest l own.1)) among))))
            | inr o ↦ h.stands d n k f l o.1 among
          ]);
          mail = λ d k isin. let m = by_mail put d k (cases_eq d put.to) (subst (λ (m : ℕ → List ℕ). IsAmong k (m d)) put.mails isin) in (m.0, cpu_on limits_same m.0 m.1, m.2);
        }
      where
        by_mail : (put : IsPut p c new) (d k : ℕ) → (d ≡ put.to) ⊎ (d ≡ put.to → ⊥) → IsAmong k (at p.mails put.to (p.mails put.to ++ put.k ∷ []) d) → (e : ℕ) × (is_cpu (shown w.kernel) e ≡ true) × (e ≡ d → ⊥)
        by_mail put d k (inr o) isin = h.mail d k (subst (IsAmong k) (at_other p.mails put.to d (p.mails put.to ++ put.k ∷ []) o) isin)
        by_mail put d k (inl own) isin = (c, there, λ e. h.other c put.n put.k put.to (put.before ++ put.to ∷ put.behind) put.at_put (among_middle put.to put.before put.behind) (sym own ∙ sym e))

    putting_act : IsAct p c new → IsPutting new
    putting_act act =
        let calm = act_calm laws limits p new good keeps c there act in
        let stage = stage_of laws limits p new good keeps c there (behind_sleep act.told) act.stages in
        record {
          there = λ d n k l e. elim (stage d (puts n k l) e) [
            | inl own ↦ absurd (behind_not_puts act.told n k l own.1)
            | inr o ↦ cpu_on calm.limits d (h.there d n k l o.1)
          ];
          other = λ d n k f l e among. elim (stage d (puts n k l) e) [
            | inl own ↦ absurd (behind_not_puts act.told n k l own.1)
            | inr o ↦ h.other d n k f l o.1 among
          ];
          stands = λ d n k f l e among. elim (stage d (puts n k l) e) [
            | inl own ↦ absurd (behind_not_puts act.told n k l own.1)
            | inr o ↦
                let s = h.stands d n k f l o.1 among in (
                  s.0,
                  ap (λ sent. slice_get sent k) calm.sent ∙ s.1,
                  λ t m told.
                      ap (λ a. has (pairs_in (drop a (items_to new.world.kernel d))) t m) (calm.eaten d o.0) ∙ ap (λ posts. has (pairs_in (drop (w.kernel.eaten d) (filter_map (item_to d) posts))) t m) calm.posts ∙ s.2 t m told,
                )
          ];
          mail = λ d k isin. let m = h.mail d k (subst (λ (m : ℕ → List ℕ). IsAmong k (m d)) act.mails isin) in (m.0, cpu_on calm.limits m.0 m.1, m.2);
        }

    putting_take : IsTake p c new → IsPutting new
    putting_take take =
        let did = take_does laws limits p new good keeps c there take in
        let limits_same : new.world.kernel.limits ≡ w.kernel.limits = ap (λ (P : PlainKernel). P.limits) did.kernel in
        let stage = stage_of laws limits p new good keeps c there begins take.stages in
        record {
          there = λ d n k l e. elim (stage d (puts n k l) e) [
            | inl own ↦ absurd (begins_not_puts n k l own.1)
            | inr o ↦ cpu_on limits_same d (h.there d n k l o.1)
          ];
          other = λ d n k f l e among. elim (stage d (puts n k l) e) [
            | inl own ↦ absurd (begins_not_puts n k l own.1)
            | inr o ↦ h.other d n k f l o.1 among
          ];
          stands = λ d n k f l e among. elim (stage d (puts n k l) e) [
            | inl own ↦ absurd (begins_not_puts n k l own.1)
            | inr o ↦
                let s = h.stands d n k f l o.1 among in
                (s.0, did.sent k s.0 s.1, λ t m told. ap (λ (P : PlainKernel). has (pairs_in (content P d)) t m) did.kernel ∙ s.2 t m told)
          ];
          mail = λ d k isin. let m = by_mail take d k (cases_eq d c) (subst (λ (m : ℕ → List ℕ). IsAmong k (m d)) take.mails isin) in (m.0, cpu_on limits_same m.0 m.1, m.2);
        }
      where
        by_mail : (take : IsTake p c new) (d k : ℕ) → (d ≡ c) ⊎ (d ≡ c → ⊥) → IsAmong k (at p.mails c [] d) → (e : ℕ) × (is_cpu (shown w.kernel) e ≡ true) × (e ≡ d → ⊥)
        by_mail take d k (inr o) isin = h.mail d k (subst (IsAmong k) (at_other p.mails c d [] o) isin)
        by_mail take d k (inl own) isin = let none : IsAmong k [] = subst (IsAmong k) (ap (at p.mails c []) own ∙ at_same p.mails c []) isin in absurd none

    putting_agent : IsLook p c new ⊎ (IsPut p c new ⊎ (IsAct p c new ⊎ IsTake p c new)) → IsPutting new
    putting_agent (inl look) = putting_look look
    putting_agent (inr (inl put)) = putting_put put
    putting_agent (inr (inr (inl act))) = putting_act act
    putting_agent (inr (inr (inr take))) = putting_take take

  putting_goes : Goes p new → IsPutting new
  putting_goes (inl called) = putting_env called (env_does p new called)
  putting_goes (inr (inl f)) = putting_same (ap (λ (v : PlainWorld). v.kernel.limits) f.world) f.stages f.mails (λ c k. subst (λ v. StandsIn v c k) (sym f.world))
  putting_goes (inr (inr of)) = putting_agent of.0 of.1.there of.1.step

pub putting : KernelLaws → (rules : ℕ → Rules) (limits : Limits) (p : Protocol) → Comes rules limits p → IsPutting p
putting laws rules limits p starts = putting_start rules limits
putting laws rules limits p (goes_on {p = old} comes goes) =
    putting_goes laws limits old p (reached_good laws limits old.world (reaches laws rules limits old comes)) (kept laws rules limits old comes) (putting laws rules limits old comes) goes
