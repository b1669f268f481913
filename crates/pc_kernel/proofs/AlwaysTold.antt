-- A post of a thread's next message keeps what every list of calls keeps.
use Rattle.std.proofs.Common.{◌≡◌, ◌≢◌, ℕ, ◌+◌, ◌≤◌, ◌<◌, true, false, nat_lt, List, [], ◌∷◌, ◌++◌, length, drop, Some, refl, sym, ◌∙◌, ap, subst, inl, inr, arith, length-append}
use Rattle.std.specs.Option.{option_map_or}
use Rattle.std.proofs.lemmas.List.{drop-append-le}
use Rattle.std.proofs.lemmas.Bool.{lt-ltb, cases_eq, cases_lt}
use Rattle.pc_messages.specs.Mask.{allows}
use Rattle.pc_messages.specs.State.{phase_of, mask_of}
use Rattle.pc_messages.specs.Run.{IsBegun}
use Rattle.pc_messages.specs.declared.kind.Kind.{Kind}
use Rattle.pc_messages.specs.declared.message.Item.{Item}
use Rattle.pc_messages.specs.declared.message.Item.TheVariants as item
use Rattle.pc_kernel.specs.PlainKernel.{PlainKernel, kinds, number, is_known, threads}
use Rattle.pc_kernel.specs.Facts.{waiting, messages, IsPlaced}
use Rattle.pc_kernel.proofs.Posting.{kinds_quiet, kinds_told, aseq-posted_le, IsQuiet, quiet_other, telling_same, threads-posted_known, threads-posted_new}
use Rattle.pc_kernel.proofs.Always.{IsKept, IsLast, IsReadyOn, next, told, messages_told, messages_quiet, length-numbered, waiting_quiet, waiting_elsewhere, waiting_told, rested-posted, quiet_placed}

-- what the next message of a thread needs
pub record MayTell (P : PlainKernel) (t : ℕ) (k : Kind) : Type 0 where
  pub named : t ≤ threads P
  pub housed : P.home t < P.limits.cpus
  pub begun : IsBegun (kinds P t ++ k ∷ [])
  pub stays : (c : ℕ) → P.on c ≡ Some t → IsReadyOn (kinds P t ++ k ∷ []) c

kinds_of_told : (P : PlainKernel) (t : ℕ) (k : Kind) → kinds (told P t k) t ≡ kinds P t ++ k ∷ []
kinds_of_told P t k = kinds_told P (P.home t) (item.Thread (next P t k)) t (next P t k) (telling_same (next P t k))

other_quiet : (P : PlainKernel) (t0 t : ℕ) (k : Kind) → (t0 ≡ t → ⊥) → IsQuiet t (item.Thread (next P t0 k))
other_quiet P t0 t k n = quiet_other t (next P t0 k) n

some_kinds : (ks : List Kind) (k : Kind) → nat_lt 0 (length (ks ++ k ∷ [])) ≡ true
some_kinds ks k = let e = length-append ks (k ∷ []) in lt-ltb 0 (length (ks ++ k ∷ [])) (omega arith)

known_told : (P : PlainKernel) (t : ℕ) (k : Kind) → is_known (told P t k) t ≡ true
known_told P t k = ap (λ (ks : List Kind). nat_lt 0 (length ks)) (kinds_of_told P t k) ∙ some_kinds (kinds P t) k

-- how many names there are then
pub data Count (P : PlainKernel) (t : ℕ) (k : Kind) : Type 0 where
  known : t < threads P → threads (told P t k) ≡ threads P → Count P t k
  fresh : t ≡ threads P → threads (told P t k) ≡ threads P + 1 → Count P t k

known_below : (P : PlainKernel) → IsKept P → (t : ℕ) → is_known P t ≡ true → t < threads P
known_below P h t e = elim (cases_lt t (threads P)) [
  | inl below ↦ below
  | inr above ↦
      let none : is_known P t ≡ false = ap (λ (ks : List Kind). nat_lt 0 (length ks)) (h.fresh t above) in
      let bad : true ≡ false = sym e ∙ none in cc
]

count_of : (P : PlainKernel) → IsKept P → (t : ℕ) (k : Kind) → t ≤ threads P → Count P t k
count_of P h t k named = elim (is_known P t) as (λ b. is_known P t ≡ b → Count P t k) [
  | true ↦ λ e. known (known_below P h t e) (threads-posted_known P (P.home t) (next P t k) e)
  | false ↦ λ e. elim (cases_lt t (threads P)) [
    | inl below ↦ let bad : false ≡ true = sym e ∙ h.given t below in cc
    | inr above ↦ fresh (omega arith) (threads-posted_new P (P.home t) (next P t k) e)
  ]
] refl

elsewhere_told : (P : PlainKernel) (t0 : ℕ) (k : Kind) → IsKept P → (t c : ℕ) → c ≢ P.home t → waiting (told P t0 k) t c ≡ []
elsewhere_told P t0 k h t c n = elim (cases_eq t0 t) [
  | inl e ↦
      let far : P.home t0 ≢ c = λ s. n (sym s ∙ ap P.home e) in
      waiting_elsewhere P (P.home t0) (item.Thread (next P t0 k)) t c (h.eaten c) far ∙ h.elsewhere t c n
  | inr o ↦ waiting_quiet P (P.home t0) (item.Thread (next P t0 k)) t c (h.eaten c) (other_quiet P t0 t k o) ∙ h.elsewhere t c n
]

last_told_same : (P : PlainKernel) (t : ℕ) (k : Kind) → IsKept P → IsLast (told P t k) t
last_told_same P t k h =
    let l = h.last t in
    let more : number (told P t k) t ≡ number P t + 1 = ap length (kinds_of_told P t k) ∙ length-append (kinds P t) (k ∷ []) in
    let w = l.within in
    let long : l.few ≤ length (messages P t) = subst (λ n. l.few ≤ n) (sym (length-numbered t 1 (kinds P t))) l.within in
    record {
      few = l.few;
      within = omega arith;
      is = waiting_told P t k (h.eaten (P.home t)) ∙ ap (λ xs. xs ++ next P t k ∷ []) l.is ∙ sym (drop-append-le l.few (messages P t) (next P t k ∷ []) long) ∙ ap (drop l.few) (sym (messages_told P t k));
    }

last_told : (P : PlainKernel) (t0 : ℕ) (k : Kind) → IsKept P → (t : ℕ) → IsLast (told P t0 k) t
last_told P t0 k h t = elim (cases_eq t0 t) [
  | inl e ↦ subst (λ n. IsLast (told P t0 k) n) e (last_told_same P t0 k h)
  | inr o ↦
      let it : Item = item.Thread (next P t0 k) in
      let quiet = other_quiet P t0 t k o in
      let l = h.last t in
      record {
        few = l.few;
        within = subst (λ (ks : List Kind). l.few ≤ length ks) (sym (kinds_quiet P (P.home t0) it t quiet)) l.within;
        is = waiting_quiet P (P.home t0) it t (P.home t) (h.eaten (P.home t)) quiet ∙ l.is ∙ ap (drop l.few) (sym (messages_quiet P (P.home t0) it t quiet));
      }
]

placed_same : (P : PlainKernel) (t : ℕ) (k : Kind) → IsKept P → MayTell P t k → (c : ℕ) → IsPlaced (told P t k) c t
placed_same P t k h may c =
    record {
      alone = (h.placed c t).alone;
      home = (h.placed c t).home;
      ready = λ e. ap phase_of (kinds_of_told P t k) ∙ (may.stays c e).ready;
      allowed = λ e. ap (λ ks. option_map_or (λ mask. allows mask c) (mask_of ks) false) (kinds_of_told P t k) ∙ (may.stays c e).allowed;
    }

placed_told : (P : PlainKernel) (t0 : ℕ) (k : Kind) → IsKept P → MayTell P t0 k → (c t : ℕ) → IsPlaced (told P t0 k) c t
placed_told P t0 k h may c t = elim (cases_eq t0 t) [
  | inl e ↦ subst (λ n. IsPlaced (told P t0 k) c n) e (placed_same P t0 k h may c)
  | inr o ↦ quiet_placed P (P.home t0) (item.Thread (next P t0 k)) c t (other_quiet P t0 t k o) (h.placed c t)
]

begun_told : (P : PlainKernel) (t0 : ℕ) (k : Kind) → IsKept P → MayTell P t0 k → (t : ℕ) → IsBegun (kinds (told P t0 k) t)
begun_told P t0 k h may t = elim (cases_eq t0 t) [
  | inl e ↦ subst (λ n. IsBegun (kinds (told P t0 k) n)) e (subst IsBegun (sym (kinds_of_told P t0 k)) may.begun)
  | inr o ↦ subst IsBegun (sym (kinds_quiet P (P.home t0) (item.Thread (next P t0 k)) t (other_quiet P t0 t k o))) (h.begun t)
]

fresh_told : (P : PlainKernel) (t0 : ℕ) (k : Kind) → IsKept P → MayTell P t0 k → (t : ℕ) → threads (told P t0 k) ≤ t → kinds (told P t0 k) t ≡ []
fresh_told P t0 k h may t above =
    let c = count_of P h t0 k may.named in
    let apart : t0 ≡ t → ⊥ = elim c [ known b e ↦ λ s. absurd (omega arith) | fresh b e ↦ λ s. absurd (omega arith) ] in
    let high : threads P ≤ t = elim c [ known b e ↦ omega arith | fresh b e ↦ omega arith ] in
    kinds_quiet P (P.home t0) (item.Thread (next P t0 k)) t (other_quiet P t0 t k apart) ∙ h.fresh t high

given_told : (P : PlainKernel) (t0 : ℕ) (k : Kind) → IsKept P → MayTell P t0 k → (t : ℕ) → t < threads (told P t0 k) → is_known (told P t0 k) t ≡ true
given_told P t0 k h may t below = elim (cases_eq t0 t) [
  | inl e ↦ subst (λ n. is_known (told P t0 k) n ≡ true) e (known_told P t0 k)
  | inr o ↦
      let low : t < threads P = elim (count_of P h t0 k may.named) [
        | known b e ↦ omega arith
        | fresh b e ↦ elim (cases_eq t (threads P)) [ inl s ↦ absurd (o (b ∙ sym s)) | inr n ↦ omega arith ]
      ] in
      ap (λ (ks : List Kind). nat_lt 0 (length ks)) (kinds_quiet P (P.home t0) (item.Thread (next P t0 k)) t (other_quiet P t0 t k o)) ∙ h.given t low
]

homes_told : (P : PlainKernel) (t0 : ℕ) (k : Kind) → IsKept P → MayTell P t0 k → (t : ℕ) → is_known (told P t0 k) t ≡ true → P.home t < P.limits.cpus
homes_told P t0 k h may t e = elim (cases_eq t0 t) [
  | inl s ↦ subst (λ n. P.home n < P.limits.cpus) s may.housed
  | inr o ↦ h.homes t (ap (λ (ks : List Kind). nat_lt 0 (length ks)) (sym (kinds_quiet P (P.home t0) (item.Thread (next P t0 k)) t (other_quiet P t0 t k o))) ∙ e)
]

pub told_kept : (P : PlainKernel) (t : ℕ) (k : Kind) → IsKept P → MayTell P t k → IsKept (told P t k)
told_kept P t0 k h may =
    let it : Item = item.Thread (next P t0 k) in
    record {
      eaten = λ q. let a = h.eaten q in let b = aseq-posted_le P (P.home t0) q it in omega arith;
      elsewhere = elsewhere_told P t0 k h;
      last = last_told P t0 k h;
      there = h.there;
      placed = placed_told P t0 k h may;
      rested = rested-posted P (P.home t0) it h.rested;
      begun = begun_told P t0 k h may;
      fresh = fresh_told P t0 k h may;
      given = given_told P t0 k h may;
      homes = homes_told P t0 k h may;
    }
