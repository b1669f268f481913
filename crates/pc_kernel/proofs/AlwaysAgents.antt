-- Each call of an agent keeps what every list of calls keeps, and so does every list of calls.
use Rattle.std.proofs.Common.{◌≡◌, ◌≢◌, ℕ, suc, zero, ◌+◌, ◌-◌, ◌≤◌, ◌<◌, ◌==◌, ◌||◌, ◌⊎◌, true, false, not, List, [], ◌∷◌, length, drop, Option, Some, None, is_some, refl, sym, ◌∙◌, ap, subst, inl, inr, arith, if◌then◌else◌}
use Rattle.std.specs.List.{filter_map, cons_option, list_any}
use Rattle.std.specs.Option.{option_map_or}
use Rattle.std.proofs.lemmas.List.{length-drop, drop_all, drop-drop}
use Rattle.std.proofs.lemmas.Bool.{cases_eq, lt-ltb, ltb-true}
use Rattle.std.proofs.lemmas.Bool.Decides.{eqb_tells}
use Rattle.std.proofs.lemmas.Option.{same_Some}
use Rattle.pc_messages.specs.Mask.{allows}
use Rattle.pc_messages.specs.State.{phase_of, mask_of}
use Rattle.pc_messages.specs.declared.message.Message.{Message}
use Rattle.pc_messages.specs.declared.message.Item.{Item}
use Rattle.pc_messages.specs.declared.message.Item.TheVariants as item
use Rattle.pc_messages.specs.declared.reported.Phase.TheVariants.{Ready}
use Rattle.pc_kernel.specs.PlainKernel.{PlainKernel, kinds, number, is_known, aseq, content, place_of, items_to}
use Rattle.pc_messages.specs.Items.{is_of, message_in}
use Rattle.pc_kernel.specs.Reads.{shown}
use Rattle.pc_kernel.specs.Reads as reads
use Rattle.pc_kernel.specs.Facts.{waiting, messages, HadNoPost}
use Rattle.pc_kernel.specs.Steps.{at}
use Rattle.pc_kernel.proofs.ShownReads.{shown-home, shown-place, shown-content}
use Rattle.pc_kernel.proofs.Always.{IsKept, IsLast, at_same, at_none_was, length-numbered}
use Rattle.pc_kernel.proofs.AlwaysCalls.{no_place, not_false, not_some, known_of, drop_nothing}

le_of : {a b : ℕ} → a ≡ b → a ≤ b
le_of {a} {b} e = omega arith

-- at another place
at_elsewhere : {X : Type 0} (f : ℕ → X) (place n : ℕ) (x : X) → (n ≡ place → ⊥) → at f place x n ≡ f n
at_elsewhere f place n x o = elim (eqb_tells n place) [ inl e ↦ absurd (o e.1) | inr e ↦ rw e.0 refl ]

-- what is kept of a list whose first items go
dropped : (t n : ℕ) (items : List Item) → (j : ℕ) × (filter_map (message_in t) (drop n items) ≡ drop j (filter_map (message_in t) items)) × (j ≤ length (filter_map (message_in t) items))
dropped t zero items = (0, refl, omega arith)
dropped t (suc n) [] = (0, refl, omega arith)
dropped t (suc n) (it ∷ items) =
    let r = dropped t n items in
    elim (message_in t it) as (λ o. (j : ℕ) × (filter_map (message_in t) (drop n items) ≡ drop j (cons_option o (filter_map (message_in t) items))) × (j ≤ length (cons_option o (filter_map (message_in t) items)))) [
      | None ↦ r
      | Some m ↦ let l = r.2 in (suc r.0, r.1, omega arith)
    ]

-- consume
abbrev pub ate : PlainKernel → ℕ → ℕ → PlainKernel
ate P cpu n = record P { eaten = at P.eaten cpu (P.eaten cpu + n) }

content_ate : (P : PlainKernel) (cpu n : ℕ) → content (ate P cpu n) cpu ≡ drop n (content P cpu)
content_ate P cpu n = ap (λ k. drop k (items_to P cpu)) (at_same P.eaten cpu (P.eaten cpu + n)) ∙ sym (drop-drop n (P.eaten cpu) (items_to P cpu))

content_not_ate : (P : PlainKernel) (cpu n q : ℕ) → (q ≡ cpu → ⊥) → content (ate P cpu n) q ≡ content P q
content_not_ate P cpu n q o = ap (λ k. drop k (items_to P q)) (at_elsewhere P.eaten cpu q (P.eaten cpu + n) o)

ate_elsewhere : (P : PlainKernel) (cpu n : ℕ) → IsKept P → (t q : ℕ) → q ≢ P.home t → waiting (ate P cpu n) t q ≡ []
ate_elsewhere P cpu n h t q apart = elim (cases_eq q cpu) [
  | inl e ↦
      let d = dropped t n (content P cpu) in
      ap (waiting (ate P cpu n) t) e ∙ ap (filter_map (message_in t)) (content_ate P cpu n) ∙ d.1
      ∙ ap (drop d.0) (ap (waiting P t) (sym e) ∙ h.elsewhere t q apart) ∙ drop_nothing d.0
  | inr o ↦ ap (filter_map (message_in t)) (content_not_ate P cpu n q o) ∙ h.elsewhere t q apart
]

ate_last : (P : PlainKernel) (cpu n : ℕ) → IsKept P → (t : ℕ) → IsLast (ate P cpu n) t
ate_last P cpu n h t =
    let l = h.last t in
    elim (cases_eq (P.home t) cpu) [
      | inl e ↦
          let d = dropped t n (content P cpu) in
          let there : waiting P t cpu ≡ drop l.few (messages P t) = ap (waiting P t) (sym e) ∙ l.is in
          let size : length (waiting P t cpu) ≡ number P t - l.few =
          ap length there ∙ length-drop l.few (messages P t) ∙ ap (λ m. m - l.few) (length-numbered t 1 (kinds P t)) in
          let d2 = d.2 in let w = l.within in
          record {
            few = l.few + d.0;
            within = omega arith;
            is = ap (waiting (ate P cpu n) t) e ∙ ap (filter_map (message_in t)) (content_ate P cpu n) ∙ d.1 ∙ ap (drop d.0) there ∙ drop-drop d.0 l.few (messages P t);
          }
      | inr o ↦ record { few = l.few; within = l.within; is = ap (filter_map (message_in t)) (content_not_ate P cpu n (P.home t) o) ∙ l.is }
    ]

pub consume_kept : (P : PlainKernel) (cpu n : ℕ) → IsKept P → n ≤ length (content P cpu) → IsKept (ate P cpu n)
consume_kept P cpu n h small =
    record {
      eaten = λ q. elim (cases_eq q cpu) [
        | inl e ↦
            let now : at P.eaten cpu (P.eaten cpu + n) q ≡ P.eaten cpu + n = ap (at P.eaten cpu (P.eaten cpu + n)) e ∙ at_same P.eaten cpu (P.eaten cpu + n) in
            let size = length-drop (P.eaten cpu) (items_to P cpu) in
            let had = h.eaten cpu in
            let room : aseq P q ≡ aseq P cpu = ap (aseq P) e in
            omega arith
        | inr o ↦ let now = at_elsewhere P.eaten cpu q (P.eaten cpu + n) o in let had = h.eaten q in omega arith
      ];
      elsewhere = ate_elsewhere P cpu n h;
      last = ate_last P cpu n h;
      there = h.there;
      placed = λ c t. let p = h.placed c t in record { alone = p.alone; home = p.home; ready = p.ready; allowed = p.allowed };
      rested = h.rested;
      begun = h.begun;
      fresh = h.fresh;
      given = h.given;
      homes = h.homes;
    }

-- associate: nothing of the thread waits anywhere, and no CPU has it
nothing_pending : (t : ℕ) (items : List Item) → list_any (is_of t) items ≡ false → filter_map (message_in t) items ≡ []
nothing_pending t [] e = refl
nothing_pending t (item.Tick cpu ∷ items) e = nothing_pending t items e
nothing_pending t (item.Thread m ∷ items) e = elim (m.thread == t) as (λ b. (b || list_any (is_of t) items) ≡ false → cons_option (if b then Some m else None) (filter_map (message_in t) items) ≡ []) [
  | true ↦ λ s. cc
  | false ↦ λ s. nothing_pending t items s
] e

pub associate_kept : (P : PlainKernel) (t queue : ℕ) → IsKept P → not (reads.is_known (shown P) t) ≡ false → not (reads.is_cpu (shown P) queue) ≡ false
    → reads.is_pending (shown P) t ≡ false → is_some (reads.place (shown P) t) ≡ false → IsKept (record P { home = at P.home t queue })
associate_kept P t queue h known there pending running =
    let is_there : is_known P t ≡ true = known_of P t known in
    let home : reads.home (shown P) t ≡ P.home t = shown-home P t is_there in
    let home_there : reads.is_cpu (shown P) (P.home t) ≡ true = lt-ltb (P.home t) P.limits.cpus (h.homes t is_there) in
    let queue_there : queue < P.limits.cpus = ltb-true queue P.limits.cpus (not_false (reads.is_cpu (shown P) queue) there) in
    let held : reads.content_read (shown P) (reads.home (shown P) t) ≡ content P (P.home t) = ap (reads.content_read (shown P)) home ∙ shown-content P (P.home t) home_there in
    let none : waiting P t (P.home t) ≡ [] = nothing_pending t (content P (P.home t)) (ap (list_any (is_of t)) (sym held) ∙ pending) in
    let empty : (q : ℕ) → waiting P t q ≡ [] = λ q. elim (cases_eq q (P.home t)) [ inl e ↦ ap (waiting P t) e ∙ none | inr o ↦ h.elsewhere t q o ] in
    let placeless : place_of P t ≡ None = not_some (place_of P t) (ap is_some (sym (shown-place P t is_there)) ∙ running) in
    let off : (c : ℕ) → P.on c ≡ Some t → ⊥ = λ c e. no_place P t placeless c (h.there c t e) e in
    let B : PlainKernel = record P { home = at P.home t queue } in
    record {
      eaten = h.eaten;
      elsewhere = λ n q apart. elim (cases_eq n t) [
        | inl e ↦ subst (λ m. waiting P m q ≡ []) (sym e) (empty q)
        | inr o ↦ h.elsewhere n q (λ e. apart (e ∙ sym (at_elsewhere P.home t n queue o)))
      ];
      last = λ n. elim (cases_eq n t) [
        | inl e ↦ subst (λ m. IsLast B m) (sym e) record {
          few = number P t;
          within = omega arith;
          is = empty (at P.home t queue t) ∙ sym (drop_all {X = Message} (number P t) (messages P t) (le_of (length-numbered t 1 (kinds P t))));
        }
        | inr o ↦ let l = h.last n in record { few = l.few; within = l.within; is = ap (waiting P n) (at_elsewhere P.home t n queue o) ∙ l.is }
      ];
      there = h.there;
      placed = λ c n. let p = h.placed c n in record {
        alone = p.alone;
        home = λ e. elim (cases_eq n t) [
          | inl s ↦ absurd (off c (e ∙ ap Some s))
          | inr o ↦ at_elsewhere P.home t n queue o ∙ p.home e
        ];
        ready = p.ready;
        allowed = p.allowed;
      };
      rested = h.rested;
      begun = h.begun;
      fresh = h.fresh;
      given = h.given;
      homes = λ n e. elim (cases_eq n t) [
        | inl s ↦ subst (λ q. q < P.limits.cpus) (sym (ap (at P.home t queue) s ∙ at_same P.home t queue)) queue_there
        | inr o ↦ subst (λ q. q < P.limits.cpus) (sym (at_elsewhere P.home t n queue o)) (h.homes n e)
      ];
    }

-- commit: the thread is ready, at home and allowed there, and no CPU has it
abbrev pub ran_on : PlainKernel → ℕ → ℕ → PlainKernel
ran_on P cpu t = record P { on = at P.on cpu (Some t) }

on_cases : (P : PlainKernel) (cpu t c n : ℕ) → at P.on cpu (Some t) c ≡ Some n → ((c ≡ cpu) × (t ≡ n)) ⊎ ((c ≡ cpu → ⊥) × (P.on c ≡ Some n))
on_cases P cpu t c n e = elim (cases_eq c cpu) [
  | inl s ↦ inl (s, same_Some t n (sym (ap (at P.on cpu (Some t)) s ∙ at_same P.on cpu (Some t)) ∙ e))
  | inr o ↦ inr (o, sym (at_elsewhere P.on cpu c (Some t) o) ∙ e)
]

pub commit_kept : (P : PlainKernel) (cpu t : ℕ) → IsKept P → cpu < P.limits.cpus → P.home t ≡ cpu → phase_of (kinds P t) ≡ Some Ready
    → option_map_or (λ mask. allows mask cpu) (mask_of (kinds P t)) false ≡ true → place_of P t ≡ None → IsKept (ran_on P cpu t)
commit_kept P cpu t h low home ready allowed placeless =
    let off : (c : ℕ) → P.on c ≡ Some t → ⊥ = λ c e. no_place P t placeless c (h.there c t e) e in
    record {
      eaten = h.eaten;
      elsewhere = h.elsewhere;
      last = λ n. let l = h.last n in record { few = l.few; within = l.within; is = l.is };
      there = λ c n e. elim (on_cases P cpu t c n e) [
        | inl s ↦ subst (λ d. d < P.limits.cpus) (sym s.0) low
        | inr o ↦ h.there c n o.1
      ];
      placed = λ c n. record {
        alone = λ e other e'. elim (on_cases P cpu t c n e) [
          | inl s ↦ elim (on_cases P cpu t other n e') [
            | inl s' ↦ s'.0 ∙ sym s.0
            | inr o' ↦ absurd (off other (o'.1 ∙ ap Some (sym s.1)))
          ]
          | inr o ↦ elim (on_cases P cpu t other n e') [
            | inl s' ↦ absurd (off c (o.1 ∙ ap Some (sym s'.1)))
            | inr o' ↦ (h.placed c n).alone o.1 other o'.1
          ]
        ];
        home = λ e. elim (on_cases P cpu t c n e) [ inl s ↦ ap P.home (sym s.1) ∙ home ∙ sym s.0 | inr o ↦ (h.placed c n).home o.1 ];
        ready = λ e. elim (on_cases P cpu t c n e) [ inl s ↦ ap (λ m. phase_of (kinds P m)) (sym s.1) ∙ ready | inr o ↦ (h.placed c n).ready o.1 ];
        allowed = λ e. elim (on_cases P cpu t c n e) [
          | inl s ↦ subst (λ d. option_map_or (λ mask. allows mask d) (mask_of (kinds P n)) false ≡ true) (sym s.0)
              (subst (λ m. option_map_or (λ mask. allows mask cpu) (mask_of (kinds P m)) false ≡ true) s.1 allowed)
          | inr o ↦ (h.placed c n).allowed o.1
        ];
      };
      rested = h.rested;
      begun = h.begun;
      fresh = h.fresh;
      given = h.given;
      homes = h.homes;
    }

-- sleep, rouse and config_wakeup change who sleeps and whom a queue wakes
marked : (P : PlainKernel) (slept target : ℕ → Option ℕ) → IsKept P
    → ((c : ℕ) → HadNoPost (record P { slept = slept; target = target }) c) → IsKept (record P { slept = slept; target = target })
marked P slept target h rested =
    record {
      eaten = h.eaten;
      elsewhere = h.elsewhere;
      last = λ n. let l = h.last n in record { few = l.few; within = l.within; is = l.is };
      there = h.there;
      placed = λ c t. let p = h.placed c t in record { alone = p.alone; home = p.home; ready = p.ready; allowed = p.allowed };
      rested = rested;
      begun = h.begun;
      fresh = h.fresh;
      given = h.given;
      homes = h.homes;
    }

pub sleep_kept : (P : PlainKernel) (cpu n : ℕ) → IsKept P → n ≡ aseq P cpu → IsKept (record P { slept = at P.slept cpu (Some n) })
sleep_kept P cpu n h e =
    marked P (at P.slept cpu (Some n)) P.target h (λ c x asleep target. elim (cases_eq c cpu) [
      | inl s ↦
          let now : Some n ≡ Some x = sym (ap (at P.slept cpu (Some n)) s ∙ at_same P.slept cpu (Some n)) ∙ asleep in
          ap (aseq P) s ∙ sym e ∙ same_Some n x now
      | inr o ↦ h.rested c x (sym (at_elsewhere P.slept cpu c (Some n) o) ∙ asleep) target
    ])

pub rouse_kept : (P : PlainKernel) (cpu : ℕ) → IsKept P → IsKept (record P { slept = at P.slept cpu None })
rouse_kept P cpu h = marked P (at P.slept cpu None) P.target h (λ c x asleep target. h.rested c x (at_none_was P.slept cpu c x asleep) target)

pub config_none_kept : (P : PlainKernel) (queue : ℕ) → IsKept P → IsKept (record P { target = at P.target queue None })
config_none_kept P queue h = marked P P.slept (at P.target queue None) h (λ c x asleep target. h.rested c x asleep (at_none_was P.target queue c c target))

pub config_kept : (P : PlainKernel) (queue cpu : ℕ) → IsKept P → IsKept (record P { target = at P.target queue (Some cpu); slept = at P.slept cpu None })
config_kept P queue cpu h =
    marked P (at P.slept cpu None) (at P.target queue (Some cpu)) h (λ c x asleep target. elim (cases_eq c queue) [
      | inl s ↦
          let now : cpu ≡ c = same_Some cpu c (sym (ap (at P.target queue (Some cpu)) s ∙ at_same P.target queue (Some cpu)) ∙ target) in
          let awake : at P.slept cpu None c ≡ None = ap (at P.slept cpu None) (sym now) ∙ at_same P.slept cpu None in
          let bad : None ≡ Some x = sym awake ∙ asleep in cc
      | inr o ↦ h.rested c x (at_none_was P.slept cpu c x asleep) (sym (at_elsewhere P.target queue c (Some cpu) o) ∙ target)
    ])
