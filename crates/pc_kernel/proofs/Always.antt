-- What every list of calls keeps, as one record; and that a post keeps it.
use Rattle.std.proofs.Common.{◌≡◌, ◌≢◌, ℕ, suc, ◌+◌, ◌≤◌, ◌<◌, ◌==◌, true, false, nat_lt, List, [], ◌∷◌, ◌++◌, length, drop, Option, Some, None, refl, sym, ◌∙◌, ap, subst, inl, inr, arith, if◌then◌else◌}
use Rattle.std.specs.List.{filter_map, cons_option}
use Rattle.std.specs.Option.{option_map_or}
use Rattle.std.proofs.lemmas.List.{append-nil}
use Rattle.std.proofs.lemmas.List.Elements.{filter_map-append}
use Rattle.std.proofs.lemmas.Bool.Decides.{eqb_tells}
use Rattle.pc_messages.specs.Items.{message_in}
use Rattle.pc_messages.specs.Mask.{allows}
use Rattle.pc_messages.specs.State.{phase_of, mask_of}
use Rattle.pc_messages.specs.Run.{IsBegun}
use Rattle.pc_messages.specs.declared.kind.Kind.{Kind}
use Rattle.pc_messages.specs.declared.message.Message.{Message}
use Rattle.pc_messages.specs.declared.message.Item.{Item}
use Rattle.pc_messages.specs.declared.message.Item.TheVariants as item
use Rattle.pc_messages.specs.declared.reported.Phase.TheVariants.{Ready}
use Rattle.pc_kernel.specs.PlainKernel.{PlainKernel, kinds, number, is_known, threads, aseq, content}
use Rattle.pc_kernel.specs.Facts.{waiting, numbered, messages, IsPlaced, HadNoPost}
use Rattle.pc_kernel.specs.Steps.{posted, roused, at}
use Rattle.pc_kernel.proofs.Posting.{if_to, if_to_same, if_to_other, kinds_quiet, kinds_told, content-posted, aseq-posted_other, aseq-posted_le, IsQuiet, telling_same, threads-posted_tick}

pub record IsLast (P : PlainKernel) (t : ℕ) : Type 0 where
  pub few : ℕ
  pub within : few ≤ number P t
  pub is : waiting P t (P.home t) ≡ drop few (messages P t)

pub record IsKept (P : PlainKernel) : Type 0 where
  pub eaten : (q : ℕ) → P.eaten q ≤ aseq P q
  pub elsewhere : (t q : ℕ) → q ≢ P.home t → waiting P t q ≡ []
  pub last : (t : ℕ) → IsLast P t
  pub there : (c t : ℕ) → P.on c ≡ Some t → c < P.limits.cpus
  pub placed : (c t : ℕ) → IsPlaced P c t
  pub rested : (c : ℕ) → HadNoPost P c
  pub begun : (t : ℕ) → IsBegun (kinds P t)
  pub fresh : (t : ℕ) → threads P ≤ t → kinds P t ≡ []
  pub given : (t : ℕ) → t < threads P → is_known P t ≡ true
  pub homes : (t : ℕ) → is_known P t ≡ true → P.home t < P.limits.cpus

-- kinds, numbered
numbered_from : (t m n : ℕ) (k : Kind) → m ≡ n → numbered t m (k ∷ []) ≡ record { thread = t; number = n; kind = k } ∷ []
numbered_from t m n k e = rw e refl

pub numbered-push : (t n : ℕ) (ks : List Kind) (k : Kind) → numbered t n (ks ++ k ∷ []) ≡ numbered t n ks ++ record { thread = t; number = n + length ks; kind = k } ∷ []
numbered-push t n [] k = numbered_from t n (n + 0) k (omega arith)
numbered-push t n (k' ∷ ks) k =
    let e : n + 1 + length ks ≡ n + suc (length ks) = omega arith in
    ap (λ l. record { thread = t; number = n; kind = k' } ∷ l)
    (numbered-push t (n + 1) ks k ∙ ap (λ m. numbered t (n + 1) ks ++ record { thread = t; number = m; kind = k } ∷ []) e)

pub length-numbered : (t n : ℕ) (ks : List Kind) → length (numbered t n ks) ≡ length ks
length-numbered t n [] = refl
length-numbered t n (k ∷ ks) = ap suc (length-numbered t (n + 1) ks)

-- the thread's next message
abbrev pub next : PlainKernel → ℕ → Kind → Message
next P t k = record { thread = t; number = number P t + 1; kind = k }

abbrev pub told : PlainKernel → ℕ → Kind → PlainKernel
told P t k = posted P (P.home t) (item.Thread (next P t k))

pub messages_told : (P : PlainKernel) (t : ℕ) (k : Kind) → messages (told P t k) t ≡ messages P t ++ next P t k ∷ []
messages_told P t k =
    let e : 1 + number P t ≡ number P t + 1 = omega arith in
    ap (numbered t 1) (kinds_told P (P.home t) (item.Thread (next P t k)) t (next P t k) (telling_same (next P t k)))
    ∙ numbered-push t 1 (kinds P t) k
    ∙ ap (λ n. messages P t ++ record { thread = t; number = n; kind = k } ∷ []) e

pub messages_quiet : (P : PlainKernel) (q : ℕ) (it : Item) (t : ℕ) → IsQuiet t it → messages (posted P q it) t ≡ messages P t
messages_quiet P q it t h = ap (numbered t 1) (kinds_quiet P q it t h)

-- what waits after a post
waiting-posted : (P : PlainKernel) (q : ℕ) (it : Item) (t c : ℕ) → P.eaten c ≤ aseq P c → waiting (posted P q it) t c ≡ waiting P t c ++ filter_map (message_in t) (if_to q c it)
waiting-posted P q it t c h = ap (filter_map (message_in t)) (content-posted P q it c h) ∙ filter_map-append (message_in t) (content P c) (if_to q c it)

none_of : (t q c : ℕ) (it : Item) → IsQuiet t it → filter_map (message_in t) (if_to q c it) ≡ []
none_of t q c it h = elim (q == c) as (λ b. filter_map (message_in t) (if b then it ∷ [] else []) ≡ []) [ true ↦ ap (λ o. cons_option o []) h.message | false ↦ refl ]

pub waiting_quiet : (P : PlainKernel) (q : ℕ) (it : Item) (t c : ℕ) → P.eaten c ≤ aseq P c → IsQuiet t it → waiting (posted P q it) t c ≡ waiting P t c
waiting_quiet P q it t c e h = waiting-posted P q it t c e ∙ ap (λ l. waiting P t c ++ l) (none_of t q c it h) ∙ append-nil (waiting P t c)

pub waiting_elsewhere : (P : PlainKernel) (q : ℕ) (it : Item) (t c : ℕ) → P.eaten c ≤ aseq P c → q ≢ c → waiting (posted P q it) t c ≡ waiting P t c
waiting_elsewhere P q it t c e n =
    waiting-posted P q it t c e ∙ ap (λ l. waiting P t c ++ filter_map (message_in t) l) (if_to_other q c it n) ∙ append-nil (waiting P t c)

pub waiting_told : (P : PlainKernel) (t : ℕ) (k : Kind) → P.eaten (P.home t) ≤ aseq P (P.home t) →
    waiting (told P t k) t (P.home t) ≡ waiting P t (P.home t) ++ next P t k ∷ []
waiting_told P t k e =
    let it : Item = item.Thread (next P t k) in
    let is : filter_map (message_in t) (it ∷ []) ≡ next P t k ∷ [] = ap (λ o. cons_option o []) (telling_same (next P t k)).message_is in
    waiting-posted P (P.home t) it t (P.home t) e
    ∙ ap (λ l. waiting P t (P.home t) ++ filter_map (message_in t) l) (if_to_same (P.home t) it)
    ∙ ap (λ l. waiting P t (P.home t) ++ l) is

-- a post wakes the queue's target, and leaves who else sleeps
pub at_same : {X : Type 0} (f : ℕ → X) (n : ℕ) (x : X) → at f n x n ≡ x
at_same f n x = elim (eqb_tells n n) [ inl h ↦ rw h.0 refl | inr h ↦ absurd (h.1 refl) ]

pub at_none_was : (f : ℕ → Option ℕ) (place n x : ℕ) → at f place None n ≡ Some x → f n ≡ Some x
at_none_was f place n x = elim (n == place) as (λ b. (if b then None else f n) ≡ Some x → f n ≡ Some x) [ true ↦ λ e. cc | false ↦ λ e. e ]

roused_was : (slept : ℕ → Option ℕ) (o : Option ℕ) (c x : ℕ) → roused slept o c ≡ Some x → slept c ≡ Some x
roused_was slept None c x e = e
roused_was slept (Some d) c x e = at_none_was slept d c x e

pub rested-posted : (P : PlainKernel) (q : ℕ) (it : Item) → ((c : ℕ) → HadNoPost P c) → (c : ℕ) → HadNoPost (posted P q it) c
rested-posted P q it h c x asleep target = elim (eqb_tells q c) [
  | inl s ↦
      let wakes : P.target q ≡ Some c = ap P.target s.1 ∙ target in
      let awake : roused P.slept (P.target q) c ≡ None = ap (λ o. roused P.slept o c) wakes ∙ at_same P.slept c None in
      cc
  | inr s ↦ aseq-posted_other P q c it s.1 ∙ h c x (roused_was P.slept (P.target q) c x asleep) target
]

-- a list of kinds of a thread that may be on this CPU
pub record IsReadyOn (ks : List Kind) (c : ℕ) : Type 0 where
  pub ready : phase_of ks ≡ Some Ready
  pub allowed : option_map_or (λ mask. allows mask c) (mask_of ks) false ≡ true

pub quiet_placed : (P : PlainKernel) (q : ℕ) (it : Item) (c t : ℕ) → IsQuiet t it → IsPlaced P c t → IsPlaced (posted P q it) c t
quiet_placed P q it c t quiet h =
    record {
      alone = h.alone;
      home = h.home;
      ready = λ e. ap phase_of (kinds_quiet P q it t quiet) ∙ h.ready e;
      allowed = λ e. ap (λ ks. option_map_or (λ mask. allows mask c) (mask_of ks) false) (kinds_quiet P q it t quiet) ∙ h.allowed e;
    }

-- a tick keeps it
pub tick_kept : (P : PlainKernel) (cpu : ℕ) → IsKept P → IsKept (posted P cpu (item.Tick cpu))
tick_kept P cpu h =
    let it : Item = item.Tick cpu in
    let quiet : (t : ℕ) → IsQuiet t it = λ t. record { kind = refl; message = refl; not_of = refl } in
    record {
      eaten = λ q. let a = h.eaten q in let b = aseq-posted_le P cpu q it in omega arith;
      elsewhere = λ t q n. waiting_quiet P cpu it t q (h.eaten q) (quiet t) ∙ h.elsewhere t q n;
      last = λ t. let l = h.last t in record {
        few = l.few;
        within = subst (λ ks. l.few ≤ length ks) (sym (kinds_quiet P cpu it t (quiet t))) l.within;
        is = waiting_quiet P cpu it t (P.home t) (h.eaten (P.home t)) (quiet t) ∙ l.is ∙ ap (drop l.few) (sym (messages_quiet P cpu it t (quiet t)));
      };
      there = h.there;
      placed = λ c t. quiet_placed P cpu it c t (quiet t) (h.placed c t);
      rested = rested-posted P cpu it h.rested;
      begun = λ t. subst IsBegun (sym (kinds_quiet P cpu it t (quiet t))) (h.begun t);
      fresh = λ t e. kinds_quiet P cpu it t (quiet t) ∙ h.fresh t (subst (λ n. n ≤ t) (threads-posted_tick P cpu cpu) e);
      given = λ t e. ap (λ (ks : List Kind). nat_lt 0 (length ks)) (kinds_quiet P cpu it t (quiet t)) ∙ h.given t (subst (λ n. t < n) (threads-posted_tick P cpu cpu) e);
      homes = λ t e. h.homes t (ap (λ (ks : List Kind). nat_lt 0 (length ks)) (sym (kinds_quiet P cpu it t (quiet t))) ∙ e);
    }
