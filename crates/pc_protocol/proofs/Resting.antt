-- What holds at rest: nothing waits, though news waits in mailboxes.
use Rattle.std.proofs.Common.{◌≡◌, ◌⊎◌, ◌<◌, ℕ, false, true, List, [], Option, Some, None, sym, ◌∙◌, ap, subst, inl, inr}
use Rattle.std.specs.Prelude.{◌↔◌}
use Rattle.std.specs.Option.{option_map_or}
use Rattle.std.proofs.lemmas.Bool.{false≢true}
use Rattle.pc_messages.specs.Items.{pairs_in}
use Rattle.pc_messages.specs.Mask.{allows}
use Rattle.pc_messages.specs.State.{level_of, mask_of, phase_of, ran_of}
use Rattle.pc_calls.specs.declared.limits.Limits.{Limits}
use Rattle.pc_join.specs.Sets.{has}
use Rattle.pc_kernel.specs.PlainKernel.{PlainKernel, items_to, kinds}
use Rattle.pc_kernel.specs.Reads.{shown, is_cpu}
use Rattle.pc_policy.specs.Rules.{Rules}
use Rattle.pc_world.specs.Facts.{IsInRun}
use Rattle.pc_world.specs.Mending.{AllAreEmpty, IsIdle, IsStolenBy, WaitsFor}
use Rattle.pc_world.specs.PlainWorld.{PlainWorld}
use Rattle.pc_world.specs.Inner.Laws.{KernelLaws}
use Rattle.pc_world.proofs.Good.{IsGood}
use Rattle.pc_world.proofs.Mended.{below_test}
use Rattle.pc_world.proofs.Reaching.{reached_good, reached_ranked}
use Rattle.pc_protocol.specs.Protocol.{Comes, Note, Protocol, TakesIn, cpus_of, waits}
use Rattle.pc_protocol.specs.Resting.{IsAtRest, IsInMail}
use Rattle.pc_protocol.proofs.Among.{IsAmong, among_contains, not_empty}
use Rattle.pc_protocol.proofs.Calm.{has_behind}
use Rattle.pc_protocol.proofs.Acting.{IsGreatest, may_by}
use Rattle.pc_protocol.proofs.Putting.{putting}
use Rattle.pc_protocol.proofs.Quieting.{May, hushed, tells_run}
use Rattle.pc_protocol.proofs.Reaching.{reach_more, reaches, takes_in_lead}
use Rattle.pc_protocol.proofs.Settling.{IsAsked, IsSettled, above_test, queue_is_there, settled}
use Rattle.pc_protocol.proofs.Sleeping.{kept}
use Rattle.pc_protocol.proofs.Spreading.{IsToBePut, IsUnsent, Tells, reads_known, spread}
use Rattle.pc_protocol.proofs.Stepping.{Taken, taken_in, waits_not_puts}

-- where every agent waits, and every queue is empty
module _ (laws : KernelLaws) (rules : ℕ → Rules) (limits : Limits) (p : Protocol) (comes : Comes rules limits p)
    (waiting : (c : ℕ) → c < cpus_of p → p.stages c ≡ waits) (empty : AllAreEmpty p.world) where
  good_here : IsGood limits p.world
  good_here = reached_good laws limits p.world (reaches laws rules limits p comes)

  none_unsent : (t n : ℕ) → IsUnsent p.world t n → ⊥
  none_unsent t n u =
      let w = p.world in
      let q = u.0 in
      let held = has_behind (w.kernel.eaten q) (w.agents q).sent_items (items_to w.kernel q) t n u.1 in
      let none = empty q (queue_is_there laws limits w good_here q t n held) in
      false≢true (sym (ap (λ is. has (pairs_in is) t n) none) ∙ held)

  none_put : (c k : ℕ) → IsToBePut p c k → ⊥
  none_put c k put =
      let cpu = (putting laws rules limits p comes).there put.sender put.n k put.left put.at_put in
      waits_not_puts put.n k put.left (sym (waiting put.sender (below_test put.sender (cpus_of p) cpu)) ∙ put.at_put)

  -- each message is known, or lies in the mailbox
  pub known_or_mail : (c t n : ℕ) → is_cpu (shown p.world.kernel) c ≡ true → IsInRun (kinds p.world.kernel) t n
      → (has (p.world.agents c).known t n ≡ true) ⊎ ((k : ℕ) × IsAmong k (p.mails c) × Tells p.world.sent k t n)
  known_or_mail c t n there told = elim (spread laws rules limits p comes c t n there told) [
    | inl k ↦ inl k
    | inr o ↦ elim o [
      | inl u ↦ absurd (none_unsent t n u)
      | inr s ↦ elim s.there [
        | inl put ↦ absurd (none_put c s.k put)
        | inr mail ↦ inr (s.k, mail, s.tells)
      ]
    ]
  ]

  -- of a thread that may run on the CPU its agent knows all, where no note is under way to it
  pub its_known : IsGreatest → (c t n : ℕ) → is_cpu (shown p.world.kernel) c ≡ true → p.boxes c ≡ [] → May p.world c t → IsInRun (kinds p.world.kernel) t n → has (p.world.agents c).known t n ≡ true
  its_known greatest c t n there none may told = elim (known_or_mail c t n there told) [
    | inl k ↦ k
    | inr mail ↦ elim ((hushed laws greatest rules limits p comes).hushed c t there may) [
      | inl clean ↦ absurd (clean none mail.0 n mail.1 mail.2)
      | inr coming ↦ elim coming [
        | inl u ↦ absurd (none_unsent t u.0 u.1)
        | inr k ↦ absurd (none_put c k.0 k.3)
      ]
    ]
  ]

no_thread : (o : Option ℕ) (t : ℕ) → o ≡ None → o ≡ Some t → ⊥
no_thread o t e f = cc

module _ (laws : KernelLaws) (rules : ℕ → Rules) (limits : Limits) (p : Protocol) (comes : Comes rules limits p) (rest : IsAtRest p) where
  abbrev cpus : ℕ
  cpus = cpus_of p

  good : IsGood limits p.world
  good = reached_good laws limits p.world (reaches laws rules limits p comes)

  pub queues_are_empty : AllAreEmpty p.world
  queues_are_empty q there = let low = below_test q cpus there in ((kept laws rules limits p comes).asleep q (rest.waiting q low) (rest.empty q low)).empty

  pub threads_known : IsGreatest → (c t n : ℕ) → c < cpus → May p.world c t → IsInRun (kinds p.world.kernel) t n → has (p.world.agents c).known t n ≡ true
  threads_known greatest c t n low may told =
      its_known laws rules limits p comes rest.waiting queues_are_empty greatest c t n (above_test c cpus low) (rest.empty c low) may told

  -- known, or in the mailbox
  in_run : (c t n : ℕ) → (has (p.world.agents c).known t n ≡ true) ⊎ IsInMail p c t n → IsInRun (kinds p.world.kernel) t n
  in_run c t n (inl k) = good.known c t n k
  in_run c t n (inr mail) = tells_run limits p good mail.index t n (mail.set, mail.was_sent, mail.tells)

  is_held : (c t n : ℕ) → c < cpus → IsInRun (kinds p.world.kernel) t n → (has (p.world.agents c).known t n ≡ true) ⊎ IsInMail p c t n
  is_held c t n low told = elim (known_or_mail laws rules limits p comes rest.waiting queues_are_empty c t n (above_test c cpus low) told) [
    | inl k ↦ inl k
    | inr mail ↦ inr record {
      index = mail.0;
      is_there = among_contains mail.0 (p.mails c) mail.1;
      set = mail.2.0;
      was_sent = mail.2.1;
      tells = mail.2.2;
    }
  ]

  pub held_exactly : (c t n : ℕ) → c < cpus → ((has (p.world.agents c).known t n ≡ true) ⊎ IsInMail p c t n) ↔ IsInRun (kinds p.world.kernel) t n
  held_exactly c t n low = (λ held. in_run c t n held, λ told. is_held c t n low told)

  -- behind the mail
  no_boxes : ℕ → List Note
  no_boxes c = []

  module _ (c : ℕ) (new : PlainWorld) (low : c < cpus) (reads : TakesIn c p.world (p.mails c) new) where
    there : is_cpu (shown p.world.kernel) c ≡ true
    there = above_test c cpus low

    did : Taken p.world c no_boxes new no_boxes
    did = taken_in p.world c no_boxes (p.mails c) new there reads

    then_known : (t n : ℕ) → IsInRun (kinds p.world.kernel) t n → has (new.agents c).known t n ≡ true
    then_known t n told = elim (known_or_mail laws rules limits p comes rest.waiting queues_are_empty c t n there told) [
      | inl k ↦ did.known c t n k
      | inr mail ↦ reads_known p.world c (p.mails c) new there reads mail.0 t n mail.1 mail.2
    ]

    good_then : IsGood limits new
    good_then = reached_good laws limits new (reach_more limits p.world new (reaches laws rules limits p comes) (takes_in_lead p.world c (p.mails c) new reads))

    pub knows_exactly : (t n : ℕ) → (has (new.agents c).known t n ≡ true) ↔ IsInRun (kinds p.world.kernel) t n
    knows_exactly t n = (λ k. subst (λ (P : PlainKernel). IsInRun (kinds P) t n) did.kernel (good_then.known c t n k), λ told. then_known t n told)

  pub may_run_there : (c t : ℕ) → WaitsFor p.world.kernel c t → May p.world c t
  may_run_there c t h =
      let ks = kinds p.world.kernel t in
      may_by (phase_of ks) (mask_of ks) (ran_of ks) (level_of ks) c h.ready
      (ap (λ ks. option_map_or (λ mask. allows mask c) (mask_of ks) false) (sym ((laws.reads p.world.kernel).kinds t)) ∙ h.allowed)

  pub nothing_waits : IsGreatest → (c t : ℕ) → IsIdle p.world.kernel c → WaitsFor p.world.kernel c t → IsStolenBy (rules c) p.world.kernel c t → ⊥
  nothing_waits greatest c t idle waiting stolen =
      let low = below_test c cpus idle.there in
      by_settled (settled laws greatest rules limits p comes c idle.there (rest.waiting c low) (rest.empty c low))
    where
      by_settled : IsAsked p c ⊎ IsSettled p.world c → ⊥
      by_settled (inl asked) = not_empty _ (p.boxes asked.0) asked.3 (rest.empty asked.0 (below_test asked.0 cpus asked.2))
      by_settled (inr (inl busy)) = no_thread (p.world.kernel.on c) busy.0 idle.idle busy.1
      by_settled (inr (inr none)) =
          let behind = none t waiting (subst (λ (r : Rules). IsStolenBy r p.world.kernel c t) (sym (reached_ranked laws limits p.world c (reaches laws rules limits p comes))) stolen) in
          false≢true (sym behind.2 ∙ threads_known greatest c t behind.0 (below_test c cpus idle.there) (may_run_there c t waiting) behind.1)
