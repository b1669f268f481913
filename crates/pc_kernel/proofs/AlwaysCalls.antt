-- Each call keeps what every list of calls keeps.
use Rattle.std.proofs.Common.{◌≡◌, ℕ, suc, zero, ◌+◌, ◌≤◌, ◌<◌, Bool, true, false, IsFalse, not, nat_lt, List, [], ◌∷◌, ◌++◌, length, drop, Option, Some, None, is_some, is_none, unwrap_or, refl, sym, ◌∙◌, ap, subst, inl, inr, arith, if◌then◌else◌}
use Rattle.std.specs.List.{find, range_with_len}
use Rattle.std.specs.Option.{option_map_or}
use Rattle.std.proofs.lemmas.List.Elements.{All-push, All-nil}
use Rattle.std.proofs.lemmas.List.{drop_all}
use Rattle.std.proofs.lemmas.Bool.{cases_eq, cases_lt, eqb-true}
use Rattle.std.proofs.lemmas.Bool.Decides.{eqb_tells}
use Rattle.std.proofs.lemmas.Option.{same_Some}
use Rattle.pc_messages.specs.Mask.{allows}
use Rattle.pc_messages.specs.State.{phase_of, mask_of, phase_given, mask_given}
use Rattle.pc_messages.specs.Run.{IsBegun, is_created}
use Rattle.pc_messages.proofs.States.{last_given-push, or_else}
use Rattle.pc_messages.specs.declared.kind.Kind.{Kind}
use Rattle.pc_messages.specs.declared.kind.Kind.TheVariants as kind
use Rattle.pc_messages.specs.declared.message.Message.{Message}
use Rattle.pc_messages.specs.declared.reported.Phase.{Phase}
use Rattle.pc_messages.specs.declared.reported.Phase.TheVariants.{Ready, Blocked as IsBlocked, Dead as IsDead}
use Rattle.pc_kernel.specs.PlainKernel.{PlainKernel, kinds, is_known, threads, place_of, is_named}
use Rattle.pc_kernel.specs.Reads.{shown}
use Rattle.pc_kernel.specs.Reads as reads
use Rattle.pc_kernel.specs.Facts.{waiting, numbered}
use Rattle.pc_kernel.specs.Steps.{at, is_blocked, is_ready, is_barred}
use Rattle.pc_kernel.proofs.ShownReads.{shown-is_known, shown-kinds, shown-place, shown-on, unknown_kinds}
use Rattle.pc_kernel.proofs.Always.{IsKept, IsLast, IsReadyOn, told, at_same, at_none_was}
use Rattle.pc_kernel.proofs.AlwaysTold.{told_kept}

-- the place of a thread
find_has : (p : ℕ → Bool) (xs : List ℕ) (c : ℕ) → find p xs ≡ Some c → p c ≡ true
find_has p [] c e = cc
find_has p (x ∷ xs) c e = elim (p x) as (λ b. p x ≡ b → (if b then Some x else find p xs) ≡ Some c → p c ≡ true) [
  | true ↦ λ yes s. subst (λ n. p n ≡ true) (same_Some x c s) yes
  | false ↦ λ no s. find_has p xs c s
] refl e

find_none : (p : ℕ → Bool) (a n : ℕ) → find p (range_with_len a n) ≡ None → (c : ℕ) → a ≤ c → c < a + n → p c ≡ false
find_none p a zero e c low high = absurd (omega arith)
find_none p a (suc n) e c low high = elim (p a) as (λ b. p a ≡ b → (if b then Some a else find p (range_with_len (a + 1) n)) ≡ None → p c ≡ false) [
  | true ↦ λ yes s. cc
  | false ↦ λ no s. elim (cases_eq c a) [
    | inl same ↦ ap p same ∙ no
    | inr other ↦ find_none p (a + 1) n s c (omega arith) (omega arith)
  ]
] refl e

is_on_same : (o : Option ℕ) (t : ℕ) → o ≡ Some t → is_named o t ≡ true
is_on_same o t e = rw e (elim (eqb_tells t t) [ inl h ↦ h.0 | inr h ↦ absurd (h.1 refl) ])

is_on_true : (o : Option ℕ) (t : ℕ) → is_named o t ≡ true → o ≡ Some t
is_on_true None t e = cc
is_on_true (Some x) t e = ap Some (eqb-true x t e)

pub place_has : (P : PlainKernel) (t c : ℕ) → place_of P t ≡ Some c → P.on c ≡ Some t
place_has P t c e = is_on_true (P.on c) t (find_has (λ n. is_named (P.on n) t) (range_with_len 0 P.limits.cpus) c e)

pub no_place : (P : PlainKernel) (t : ℕ) → place_of P t ≡ None → (c : ℕ) → c < P.limits.cpus → P.on c ≡ Some t → ⊥
no_place P t e c low on =
    let no : is_named (P.on c) t ≡ false = find_none (λ n. is_named (P.on n) t) 0 P.limits.cpus e c (omega arith) (omega arith) in
    let bad : true ≡ false = sym (is_on_same (P.on c) t on) ∙ no in cc

-- tests
pub not_false : (b : Bool) → not b ≡ false → b ≡ true
not_false true e = refl
not_false false e = cc

pub none_some : (o : Option ℕ) → is_none o ≡ false → o ≡ Some (unwrap_or o 0)
none_some None e = cc
none_some (Some x) e = refl

pub not_some : (o : Option ℕ) → is_some o ≡ false → o ≡ None
not_some None e = refl
not_some (Some x) e = cc

blocked_is : (o : Option Phase) → is_blocked o ≡ true → o ≡ Some IsBlocked
blocked_is None e = cc
blocked_is (Some Ready) e = cc
blocked_is (Some IsBlocked) e = refl
blocked_is (Some IsDead) e = cc

pub ready_is : (o : Option Phase) → is_ready o ≡ true → o ≡ Some Ready
ready_is None e = cc
ready_is (Some Ready) e = refl
ready_is (Some IsBlocked) e = cc
ready_is (Some IsDead) e = cc

-- a thread that ran or is known has kinds, and one more that is no Created goes on from them
begun_more : (ks : List Kind) (k : Kind) → IsBegun ks → nat_lt 0 (length ks) ≡ true → is_created k ≡ false → IsBegun (ks ++ k ∷ [])
begun_more [] k h e later = cc
begun_more (k' ∷ ks) k h e later = (h.0, All-push (λ x. IsFalse (is_created x)) ks k h.1 later)

running_known : (P : PlainKernel) → IsKept P → (c t : ℕ) → P.on c ≡ Some t → is_known P t ≡ true
running_known P h c t e = elim (is_known P t) as (λ b. is_known P t ≡ b → is_known P t ≡ true) [
  | true ↦ λ s. s
  | false ↦ λ s.
      let ready : phase_of (kinds P t) ≡ Some Ready = (h.placed c t).ready e in
      let none : phase_of (kinds P t) ≡ None = ap phase_of (unknown_kinds P t s) in
      let bad : None ≡ Some Ready = sym none ∙ ready in cc
] refl

below_threads : (P : PlainKernel) → IsKept P → (t : ℕ) → is_known P t ≡ true → t ≤ threads P
below_threads P h t e = elim (cases_lt t (threads P)) [
  | inl below ↦ omega arith
  | inr above ↦ let none : is_known P t ≡ false = ap (λ (ks : List Kind). nat_lt 0 (length ks)) (h.fresh t above) in let bad : true ≡ false = sym e ∙ none in cc
]

-- a call on a thread that is known
pub known_of : (P : PlainKernel) (t : ℕ) → not (reads.is_known (shown P) t) ≡ false → is_known P t ≡ true
known_of P t e = sym (shown-is_known P t) ∙ not_false (reads.is_known (shown P) t) e

-- a message that may be told of a known thread, where no CPU has the thread or its state stays
tell_known : (P : PlainKernel) (t : ℕ) (k : Kind) → IsKept P → is_known P t ≡ true → is_created k ≡ false
    → ((c : ℕ) → P.on c ≡ Some t → IsReadyOn (kinds P t ++ k ∷ []) c) → IsKept (told P t k)
tell_known P t k h known later stays =
    told_kept P t k h record { named = below_threads P h t known; housed = h.homes t known; begun = begun_more (kinds P t) k (h.begun t) known later; stays = stays }

-- the thread on a CPU leaves it
abbrev pub without : PlainKernel → ℕ → PlainKernel
without P cpu = record P { on = at P.on cpu None }

leave_kept : (P : PlainKernel) (cpu : ℕ) → IsKept P → IsKept (without P cpu)
leave_kept P cpu h =
    record {
      eaten = h.eaten;
      elsewhere = h.elsewhere;
      last = λ t. let l = h.last t in record { few = l.few; within = l.within; is = l.is };
      there = λ c t e. h.there c t (at_none_was P.on cpu c t e);
      placed = λ c t. let p = h.placed c t in record {
        alone = λ e other e'. p.alone (at_none_was P.on cpu c t e) other (at_none_was P.on cpu other t e');
        home = λ e. p.home (at_none_was P.on cpu c t e);
        ready = λ e. p.ready (at_none_was P.on cpu c t e);
        allowed = λ e. p.allowed (at_none_was P.on cpu c t e);
      };
      rested = h.rested;
      begun = h.begun;
      fresh = h.fresh;
      given = h.given;
      homes = h.homes;
    }

pub left_kept : (P : PlainKernel) (cpu : ℕ) (k : Kind) → IsKept P → not (reads.is_cpu (shown P) cpu) ≡ false → is_none (reads.on (shown P) cpu) ≡ false → is_created k ≡ false
    → IsKept (told (without P cpu) (unwrap_or (P.on cpu) 0) k)
left_kept P cpu k h there busy later =
    let same : reads.on (shown P) cpu ≡ P.on cpu = shown-on P cpu (not_false (reads.is_cpu (shown P) cpu) there) in
    let t : ℕ = unwrap_or (P.on cpu) 0 in
    let on : P.on cpu ≡ Some t = none_some (P.on cpu) (ap is_none (sym same) ∙ busy) in
    let gone : (c : ℕ) → at P.on cpu None c ≡ Some t → IsReadyOn (kinds P t ++ k ∷ []) c = λ c e.
    let at_cpu : c ≡ cpu = (h.placed cpu t).alone on c (at_none_was P.on cpu c t e) in
    let empty : at P.on cpu None c ≡ None = ap (at P.on cpu None) at_cpu ∙ at_same P.on cpu None in
    let bad : None ≡ Some t = sym empty ∙ e in cc in
    tell_known (without P cpu) t k (leave_kept P cpu h) (running_known P h cpu t on) later gone

-- a blocked thread is on no CPU
pub wake_kept : (P : PlainKernel) (t : ℕ) → IsKept P → not (reads.is_known (shown P) t) ≡ false → not (is_blocked (reads.phase (shown P) t)) ≡ false → IsKept (told P t kind.Wakeup)
wake_kept P t h known blocked =
    let phase : phase_of (kinds P t) ≡ Some IsBlocked =
    blocked_is (phase_of (kinds P t)) (ap (λ ks. is_blocked (phase_of ks)) (sym (shown-kinds P t)) ∙ not_false (is_blocked (reads.phase (shown P) t)) blocked) in
    tell_known P t kind.Wakeup h (known_of P t known) refl
    (λ c e. let bad : Some IsBlocked ≡ Some Ready = sym phase ∙ (h.placed c t).ready e in cc)

-- a level changes neither phase nor mask
phase_keeps : (ks : List Kind) (k : Kind) → phase_given k ≡ None → phase_of (ks ++ k ∷ []) ≡ phase_of ks
phase_keeps ks k e = last_given-push phase_given ks k ∙ ap (λ o. or_else o (phase_of ks)) e

mask_keeps : (ks : List Kind) (k : Kind) → mask_given k ≡ None → mask_of (ks ++ k ∷ []) ≡ mask_of ks
mask_keeps ks k e = last_given-push mask_given ks k ∙ ap (λ o. or_else o (mask_of ks)) e

pub priority_kept : (P : PlainKernel) (t level : ℕ) → IsKept P → not (reads.is_known (shown P) t) ≡ false → IsKept (told P t (kind.Priority level))
priority_kept P t level h known =
    tell_known P t (kind.Priority level) h (known_of P t known) refl
    (λ c e. record {
      ready = phase_keeps (kinds P t) (kind.Priority level) refl ∙ (h.placed c t).ready e;
      allowed = ap (λ o. option_map_or (λ mask. allows mask c) o false) (mask_keeps (kinds P t) (kind.Priority level) refl) ∙ (h.placed c t).allowed e;
    })

-- a new mask has the CPU that the thread is on
not_barred : (o : Option ℕ) (mask c : ℕ) → o ≡ Some c → option_map_or (λ d. not (allows mask d)) o false ≡ false → allows mask c ≡ true
not_barred None mask c e s = cc
not_barred (Some d) mask c e s = subst (λ n. allows mask n ≡ true) (same_Some d c e) (not_false (allows mask d) s)

running_place : (P : PlainKernel) → IsKept P → (c t : ℕ) → P.on c ≡ Some t → place_of P t ≡ Some c
running_place P h c t e = elim (place_of P t) as (λ o. place_of P t ≡ o → place_of P t ≡ Some c) [
  | None ↦ λ s. absurd (no_place P t s c (h.there c t e) e)
  | Some d ↦ λ s. s ∙ ap Some ((h.placed c t).alone e d (place_has P t d s))
] refl

pub affinity_kept : (P : PlainKernel) (t mask : ℕ) → IsKept P → not (reads.is_known (shown P) t) ≡ false → is_barred (shown P) t mask ≡ false → IsKept (told P t (kind.Affinity mask))
affinity_kept P t mask h known free =
    let there : is_known P t ≡ true = known_of P t known in
    tell_known P t (kind.Affinity mask) h there refl
    (λ c e. record {
      ready = phase_keeps (kinds P t) (kind.Affinity mask) refl ∙ (h.placed c t).ready e;
      allowed = ap (λ o. option_map_or (λ m. allows m c) o false) (last_given-push mask_given (kinds P t) (kind.Affinity mask))
          ∙ not_barred (reads.place (shown P) t) mask c (shown-place P t there ∙ running_place P h c t e) free;
    })

pub drop_nothing : (n : ℕ) → drop {A = Message} n [] ≡ []
drop_nothing n = drop_all {X = Message} n [] (omega arith)

at_other : (f : ℕ → ℕ) (place n x : ℕ) → (n ≡ place → ⊥) → at f place x n ≡ f n
at_other f place n x o = elim (eqb_tells n place) [ inl e ↦ absurd (o e.1) | inr e ↦ rw e.0 refl ]

-- a new thread has no message yet, so any queue may be its home
pub created_kept : (P : PlainKernel) (queue mask : ℕ) (ready : Bool) → IsKept P → queue < P.limits.cpus → IsKept (told (record P { home = at P.home (threads P) queue }) (threads P) (kind.Created ready mask))
created_kept P queue mask ready h there =
    let t : ℕ = threads P in
    let none : kinds P t ≡ [] = h.fresh t (omega arith) in
    let nowhere : (c : ℕ) → P.on c ≡ Some t → ⊥ = λ c e.
    let bad : None ≡ Some Ready = sym (ap phase_of none) ∙ (h.placed c t).ready e in cc in
    let B : PlainKernel = record P { home = at P.home t queue } in
    let empty : (q : ℕ) → waiting P t q ≡ [] = λ q. elim (cases_eq q (P.home t)) [
      | inl e ↦ let l = h.last t in ap (waiting P t) e ∙ l.is ∙ ap (λ ks. drop l.few (numbered t 1 ks)) none ∙ drop_nothing l.few
      | inr n ↦ h.elsewhere t q n
    ] in
    let other_home : (n : ℕ) → (n ≡ t → ⊥) → at P.home t queue n ≡ P.home n = λ n o. at_other P.home t n queue o in
    let kept : IsKept B = record {
      eaten = h.eaten;
      elsewhere = λ n q apart. elim (cases_eq n t) [
        | inl e ↦ subst (λ m. waiting P m q ≡ []) (sym e) (empty q)
        | inr o ↦ h.elsewhere n q (λ e. apart (e ∙ sym (other_home n o)))
      ];
      last = λ n. elim (cases_eq n t) [
        | inl e ↦ subst (λ m. IsLast B m) (sym e) record {
          few = 0;
          within = omega arith;
          is = empty (at P.home t queue t) ∙ sym (ap (λ ks. drop 0 (numbered t 1 ks)) none);
        }
        | inr o ↦ let l = h.last n in record { few = l.few; within = l.within; is = ap (waiting P n) (other_home n o) ∙ l.is }
      ];
      there = h.there;
      placed = λ c n. let p = h.placed c n in record {
        alone = p.alone;
        home = λ e. elim (cases_eq n t) [
          | inl s ↦ absurd (nowhere c (e ∙ ap Some s))
          | inr o ↦ other_home n o ∙ p.home e
        ];
        ready = p.ready;
        allowed = p.allowed;
      };
      rested = h.rested;
      begun = h.begun;
      fresh = h.fresh;
      given = h.given;
      homes = λ n e. elim (cases_eq n t) [
        | inl s ↦ let unknown : is_known P n ≡ false = ap (λ (ks : List Kind). nat_lt 0 (length ks)) (ap (kinds P) s ∙ none) in let bad : true ≡ false = sym e ∙ unknown in cc
        | inr o ↦ subst (λ q. q < P.limits.cpus) (sym (other_home n o)) (h.homes n e)
      ];
    } in
    told_kept B t (kind.Created ready mask) kept record {
      named = omega arith;
      housed = subst (λ q. q < P.limits.cpus) (sym (at_same P.home t queue)) there;
      begun = subst (λ ks. IsBegun (ks ++ kind.Created ready mask ∷ [])) (sym none) (refl, All-nil (λ x. IsFalse (is_created x)));
      stays = λ c e. absurd (nowhere c e);
    }
