-- What the calls of a run do to a kernel: whose kinds they add to, who runs then, and which CPUs a mask has.
use Rattle.std.proofs.Common.{◌≡◌, ◌⊎◌, ◌+◌, ◌^◌, ◌≤◌, ◌<◌, ◌==◌, ℕ, zero, suc, nat_le, nat_lt, true, false, List, [], ◌∷◌, ◌++◌, length, Option, Some, None, unwrap_or, refl, sym, ◌∙◌, ap, subst, inl, inr, arith}
use Rattle.std.specs.Int.{bit_at}
use Rattle.std.specs.List.{cons_option}
use Rattle.std.specs.Option.{option_map_or}
use Rattle.std.proofs.lemmas.Bool.{cases_eq}
use Rattle.std.proofs.lemmas.Bool.Decides.{nat_tests}
use Rattle.std.proofs.lemmas.List.{append-nil}
use Rattle.std.proofs.lemmas.Nat.Bits.{bit_at-lt, bit_at-zero, same_from_bits_below}
use Rattle.pc_messages.specs.Mask.{allows}
use Rattle.pc_messages.specs.State.{last_given, level_given, mask_given, mask_of, phase_given, phase_of}
use Rattle.pc_messages.specs.declared.kind.Kind.{Kind}
use Rattle.pc_messages.specs.declared.kind.Kind.TheVariants as kind
use Rattle.pc_messages.specs.declared.message.Item.TheVariants as item
use Rattle.pc_messages.specs.declared.message.Message.{Message}
use Rattle.pc_messages.specs.declared.reported.Phase.TheVariants as phase
use Rattle.pc_messages.proofs.States.{last_given-push}
use Rattle.pc_calls.specs.Effects.{phase_behind}
use Rattle.pc_calls.specs.Events.{told_of}
use Rattle.pc_calls.specs.Leavings.{call_for}
use Rattle.pc_calls.specs.declared.call.Call.TheVariants as call
use Rattle.pc_calls.specs.declared.call.EnvCall.{EnvCall}
use Rattle.pc_calls.specs.declared.call.EnvCall.TheVariants as env
use Rattle.pc_calls.specs.declared.call.Posted.{Posted}
use Rattle.pc_calls.specs.declared.event.Reply.TheVariants as reply
use Rattle.pc_calls.specs.declared.leaving.Leaving.{Leaving}
use Rattle.pc_calls.specs.declared.leaving.Leaving.TheVariants as how
use Rattle.pc_calls.specs.declared.limits.Limits.{Limits}
use Rattle.pc_calls.specs.declared.refusal.Refusal.{Refusal}
use Rattle.pc_kernel.specs.PlainKernel.{PlainKernel, is_known, kind_in, kinds, number, start, threads}
use Rattle.pc_kernel.specs.Reads.{shown}
use Rattle.pc_kernel.specs.Steps.{accepted, after_of, at, changed, posting, refusals, refused, reply_of}
use Rattle.pc_kernel.proofs.Posting.{quiet_other, telling_same, threads-posted_new}
use Rattle.pc_kernel.proofs.Refusals.{none_hold}
use Rattle.pc_protocol.specs.Protocol.{Protocol}
use Rattle.pc_protocol.specs.Running.{IsAccepted}
use Rattle.pc_protocol.proofs.Spreading.{kinds_after}

-- an accepted call changes the kernel alone
pub record Accepts (p : Protocol) (made : EnvCall) (new : Protocol) : Type 0 where
  pub none : refused (shown p.world.kernel) (call.Env made) ≡ None
  pub world : new.world ≡ record p.world { kernel = changed p.world.kernel (call.Env made) }

not_posted : (posted : Posted) (why : Refusal) → reply.Posted posted ≡ reply.Refused why → ⊥
not_posted posted why e = cc

pub accepts : (p : Protocol) (made : EnvCall) (new : Protocol) → IsAccepted p made new → Accepts p made new
accepts p made new h = subst (λ c. Accepts p c new) h.is_made (by_refused (refused (shown p.world.kernel) (call.Env h.called.call)) refl)
  where
    by_refused : (o : Option Refusal) → refused (shown p.world.kernel) (call.Env h.called.call) ≡ o → Accepts p h.called.call new
    by_refused None none = record {
      none = none;
      world = h.called.step.after ∙ ap (λ o. record p.world { kernel = after_of o (changed p.world.kernel (call.Env h.called.call)) p.world.kernel }) none;
    }
    by_refused (Some why) some =
        absurd (not_posted h.posted why (sym h.answered ∙ h.called.step.tells ∙ ap (λ o. told_of (call.Env h.called.call) (reply_of o (accepted p.world.kernel (call.Env h.called.call)))) some))

-- a message of one thread is posted
pub record Adds (P Q : PlainKernel) (s : ℕ) (k : Kind) : Type 0 where
  pub own : kinds Q s ≡ kinds P s ++ k ∷ []
  pub other : (t : ℕ) → (t ≡ s → ⊥) → kinds Q t ≡ kinds P t

adds_of : (P : PlainKernel) (made : EnvCall) (m : Message) → (posting P made).item ≡ item.Thread m → Adds P (changed P (call.Env made)) m.thread m.kind
adds_of P made m is = record {
  own = kinds_after P made m.thread ∙ ap (λ o. kinds P m.thread ++ cons_option o []) (ap (kind_in m.thread) is ∙ (telling_same m).kind);
  other = λ t o. kinds_after P made t ∙ ap (λ o. kinds P t ++ cons_option o []) (ap (kind_in t) is ∙ (quiet_other t m (λ e. o (sym e))).kind) ∙ append-nil (kinds P t);
}

-- the kind of the message by which a thread leaves its CPU
abbrev pub kind_by : Leaving → ℕ → Kind
kind_by how.Yield ran = kind.Yield ran
kind_by how.Block ran = kind.Blocked ran
kind_by how.Preempt ran = kind.Preempted ran
kind_by how.Die ran = kind.Dead ran

abbrev said : PlainKernel → ℕ → Kind → Message
said P s k = record { thread = s; number = number P s + 1; kind = k }

item_by : (P : PlainKernel) (leaving : Leaving) (c ran : ℕ) → (posting P (call_for leaving c ran)).item ≡ item.Thread (said P (unwrap_or (P.on c) 0) (kind_by leaving ran))
item_by P how.Yield c ran = refl
item_by P how.Block c ran = refl
item_by P how.Preempt c ran = refl
item_by P how.Die c ran = refl

pub leaving_adds : (P : PlainKernel) (leaving : Leaving) (c ran s : ℕ) → P.on c ≡ Some s → Adds P (changed P (call.Env (call_for leaving c ran))) s (kind_by leaving ran)
leaving_adds P leaving c ran s e =
    subst (λ t. Adds P (changed P (call.Env (call_for leaving c ran))) t (kind_by leaving ran)) (ap (λ o. unwrap_or o 0) e)
    (adds_of P (call_for leaving c ran) (said P (unwrap_or (P.on c) 0) (kind_by leaving ran)) (item_by P leaving c ran))

pub leaving_on : (P : PlainKernel) (leaving : Leaving) (c ran d : ℕ) → (changed P (call.Env (call_for leaving c ran))).on d ≡ at P.on c None d
leaving_on P how.Yield c ran d = refl
leaving_on P how.Block c ran d = refl
leaving_on P how.Preempt c ran d = refl
leaving_on P how.Die c ran d = refl

pub leaving_limits : (P : PlainKernel) (leaving : Leaving) (c ran : ℕ) → (changed P (call.Env (call_for leaving c ran))).limits ≡ P.limits
leaving_limits P how.Yield c ran = refl
leaving_limits P how.Block c ran = refl
leaving_limits P how.Preempt c ran = refl
leaving_limits P how.Die c ran = refl

pub wake_adds : (P : PlainKernel) (t : ℕ) → Adds P (changed P (call.Env (env.Wake t))) t kind.Wakeup
wake_adds P t = adds_of P (env.Wake t) (said P t kind.Wakeup) refl

pub create_adds : (P : PlainKernel) (queue mask : ℕ) → Adds P (changed P (call.Env (env.Create queue true mask))) (threads P) (kind.Created true mask)
create_adds P queue mask = adds_of P (env.Create queue true mask) (said P (threads P) (kind.Created true mask)) refl

-- what these kinds give
pub phase_left : (leaving : Leaving) (ran : ℕ) (ks : List Kind) → phase_of (ks ++ kind_by leaving ran ∷ []) ≡ Some (phase_behind leaving)
phase_left how.Yield ran ks = last_given-push phase_given ks (kind.Yield ran)
phase_left how.Block ran ks = last_given-push phase_given ks (kind.Blocked ran)
phase_left how.Preempt ran ks = last_given-push phase_given ks (kind.Preempted ran)
phase_left how.Die ran ks = last_given-push phase_given ks (kind.Dead ran)

pub mask_left : (leaving : Leaving) (ran : ℕ) (ks : List Kind) → mask_of (ks ++ kind_by leaving ran ∷ []) ≡ mask_of ks
mask_left how.Yield ran ks = last_given-push mask_given ks (kind.Yield ran)
mask_left how.Block ran ks = last_given-push mask_given ks (kind.Blocked ran)
mask_left how.Preempt ran ks = last_given-push mask_given ks (kind.Preempted ran)
mask_left how.Die ran ks = last_given-push mask_given ks (kind.Dead ran)

pub level_left : (leaving : Leaving) (ran : ℕ) (ks : List Kind) → last_given level_given (ks ++ kind_by leaving ran ∷ []) ≡ last_given level_given ks
level_left how.Yield ran ks = last_given-push level_given ks (kind.Yield ran)
level_left how.Block ran ks = last_given-push level_given ks (kind.Blocked ran)
level_left how.Preempt ran ks = last_given-push level_given ks (kind.Preempted ran)
level_left how.Die ran ks = last_given-push level_given ks (kind.Dead ran)

-- masks
below_two : (b : ℕ) → b < 2 → (b ≡ 1) ⊎ (b ≡ 0)
below_two zero low = inr refl
below_two (suc zero) low = inl refl
below_two (suc (suc b)) low = absurd (omega arith)

some_bit : (n mask : ℕ) → ((c : ℕ) × (c < n) × (bit_at mask c ≡ 1)) ⊎ ((c : ℕ) → c < n → bit_at mask c ≡ 0)
some_bit zero mask = inr (λ c low. absurd (omega arith))
some_bit (suc n) mask = elim (some_bit n mask) [
  | inl some ↦ let low = some.1 in inl (some.0, omega arith, some.2)
  | inr none ↦ elim (below_two (bit_at mask n) (bit_at-lt mask n)) [
    | inl set ↦ inl (n, omega arith, set)
    | inr clear ↦ inr (λ c low. elim (cases_eq c n) [
      | inl last ↦ ap (bit_at mask) last ∙ clear
      | inr other ↦ none c (omega (arith, other))
    ])
  ]
]

not_zero : (n : ℕ) → (n == 0) ≡ false → n ≡ 0 → ⊥
not_zero n e f = grind (arith, nat_tests)

not_le : (a b : ℕ) → nat_le a b ≡ false → b < a
not_le a b e = grind (arith, nat_tests)

mask_cpu : (cpus mask : ℕ) → (mask == 0) ≡ false → nat_le (2 ^ cpus) mask ≡ false → (c : ℕ) × (c < cpus) × (allows mask c ≡ true)
mask_cpu cpus mask some wide = elim (some_bit cpus mask) [
  | inl bit ↦ (bit.0, bit.1, ap (λ b. b == 1) bit.2)
  | inr none ↦
      let low = not_le (2 ^ cpus) mask wide in
      absurd (not_zero mask some (same_from_bits_below cpus mask 0 low (omega arith) (λ c below. none c below ∙ sym (bit_at-zero c))))
]

-- some CPU that is there is one on which the thread may run
abbrev pub IsAllowed : PlainKernel → ℕ → Type 0
IsAllowed P t = (c : ℕ) × (c < P.limits.cpus) × (option_map_or (λ mask. allows mask c) (mask_of (kinds P t)) false ≡ true)

pub allowed_on : (P Q : PlainKernel) (t : ℕ) → Q.limits ≡ P.limits → mask_of (kinds Q t) ≡ mask_of (kinds P t) → IsAllowed P t → IsAllowed Q t
allowed_on P Q t limits mask h =
    (h.0, subst (λ (l : Limits). h.0 < l.cpus) (sym limits) h.1, ap (λ m. option_map_or (λ mask. allows mask h.0) m false) mask ∙ h.2)

-- so many threads were created, all ready, and no CPU runs any
pub record HasCreated (P : PlainKernel) (n : ℕ) : Type 0 where
  pub count : threads P ≡ n
  pub ready : (t : ℕ) → t < n → phase_of (kinds P t) ≡ Some phase.Ready
  pub allowed : (t : ℕ) → t < n → IsAllowed P t
  pub absent : (t : ℕ) → n ≤ t → kinds P t ≡ []
  pub level : (t : ℕ) → last_given level_given (kinds P t) ≡ None
  pub idle : (c : ℕ) → P.on c ≡ None

pub none_created : (limits : Limits) → HasCreated (start limits) 0
none_created limits = record {
  count = refl;
  ready = λ t low. absurd (omega arith);
  allowed = λ t low. absurd (omega arith);
  absent = λ t low. refl;
  level = λ t. refl;
  idle = λ c. refl;
}

module _ (P : PlainKernel) (n queue mask : ℕ) (h : HasCreated P n) (none : refused (shown P) (call.Env (env.Create queue true mask)) ≡ None) where
  abbrev Q : PlainKernel
  Q = changed P (call.Env (env.Create queue true mask))

  abbrev k : Kind
  k = kind.Created true mask

  adds : Adds P Q (threads P) k
  adds = create_adds P queue mask

  own : kinds Q n ≡ kinds P n ++ k ∷ []
  own = subst (λ t. kinds Q t ≡ kinds P t ++ k ∷ []) h.count adds.own

  other : (t : ℕ) → (t ≡ n → ⊥) → kinds Q t ≡ kinds P t
  other t o = adds.other t (λ e. o (e ∙ h.count))

  cpu : (c : ℕ) × (c < P.limits.cpus) × (allows mask c ≡ true)
  cpu =
      let hold = none_hold (refusals (shown P) (call.Env (env.Create queue true mask))) none in
      mask_cpu P.limits.cpus mask hold.1.0 hold.1.1.0

  new_name : is_known P (threads P) ≡ false
  new_name = ap (λ (ks : List Kind). nat_lt 0 (length ks)) (h.absent (threads P) (let same = h.count in omega arith))

  create_level : (t : ℕ) → last_given level_given (kinds Q t) ≡ None
  create_level t = elim (cases_eq t n) [
    | inl same ↦ ap (λ t. last_given level_given (kinds Q t)) same ∙ ap (last_given level_given) own ∙ last_given-push level_given (kinds P n) k ∙ h.level n
    | inr o ↦ ap (last_given level_given) (other t o) ∙ h.level t
  ]

  create_allowed : (t : ℕ) → t < suc n → IsAllowed Q t
  create_allowed t low = elim (cases_eq t n) [
    | inl same ↦ subst (IsAllowed Q) (sym same) (cpu.0, cpu.1, ap (λ m. option_map_or (λ mask. allows mask cpu.0) m false) (ap mask_of own ∙ last_given-push mask_given (kinds P n) k) ∙ cpu.2)
    | inr o ↦ allowed_on P Q t refl (ap mask_of (other t o)) (h.allowed t (omega (arith, o)))
  ]

  create_ready : (t : ℕ) → t < suc n → phase_of (kinds Q t) ≡ Some phase.Ready
  create_ready t low = elim (cases_eq t n) [
    | inl same ↦ ap (λ t. phase_of (kinds Q t)) same ∙ ap phase_of own ∙ last_given-push phase_given (kinds P n) k
    | inr o ↦ ap phase_of (other t o) ∙ h.ready t (omega (arith, o))
  ]

  pub one_created : HasCreated Q (suc n)
  one_created = record {
    count = threads-posted_new (record P { home = at P.home (threads P) queue }) (at P.home (threads P) queue (threads P)) (said (record P { home = at P.home (threads P) queue }) (threads P) k) new_name ∙ (let same = h.count in omega arith);
    ready = create_ready;
    allowed = create_allowed;
    absent = λ t low. let apart : t ≡ n → ⊥ = λ e. omega arith in other t apart ∙ h.absent t (omega arith);
    level = create_level;
    idle = h.idle;
  }
