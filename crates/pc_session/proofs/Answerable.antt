-- Every read of a world that events lead to has an answer.
use Rattle.std.proofs.Common.{◌≡◌, ℕ, zero, suc, length, ◌≤◌, ◌==◌, ◌&&◌, ◌↔◌, Bool, true, false, IsTrue, [], ◌∷◌, Option, Some, None, MatchBool, is_some, nat_lt, if◌then◌else◌, refl, sym, ◌∙◌, subst, inl, inr, arith}
use Rattle.std.specs.List.{list_all}
use Rattle.std.proofs.lemmas.Bool.{cases_lt, eq-eqb, eqb-true, false≢true}
use Rattle.std.proofs.lemmas.Bool.Decides.{nat_tests}
use Rattle.pc_messages.specs.Run.{IsBegun}
use Rattle.pc_messages.specs.State.{phase_of}
use Rattle.pc_calls.specs.declared.refusal.Refusal.TheVariants as refusal
use Rattle.pc_join.specs.Sets.{has, as_members, IsSameSet}
use Rattle.pc_kernel.specs.PlainKernel.{PlainKernel, kinds, number, is_known}
use Rattle.pc_kernel.specs.Reads as kernel
use Rattle.pc_kernel.specs.Reads.{Reads, shown, is_cpu, is_asleep, number_read, thread_row}
use Rattle.pc_view.specs.Prefixes.{has_upto, upto}
use Rattle.pc_script.specs.declared.command.Read.{Read}
use Rattle.pc_script.specs.declared.command.Read.TheVariants.{Status, Asleep, Show, Same, Complete}
use Rattle.pc_script.specs.declared.response.Response.{Response}
use Rattle.pc_script.specs.declared.response.Response.TheVariants as response
use Rattle.pc_agent.specs.PlainAgent.{Set}
use Rattle.pc_world.specs.PlainWorld.{PlainWorld}
use Rattle.pc_world.specs.Steps.{are_cpus}
use Rattle.pc_session.specs.Reads.{IsAsleep, IsComparing, IsCompleting, IsCompleteness, IsNowhere, IsRead, IsSameness, IsShow, IsShowing, IsStatus}
use Rattle.pc_messages.proofs.Bools.{both, first_true, or_cases, or_left, or_right, second_true}
use Rattle.pc_session.proofs.Rows.{rows_of}
use Rattle.pc_session.proofs.Statuses.{phase_some}

-- an answer where the CPU is there; else the refusal
here_or_nowhere : (b : Bool) (P : Response → Type 0) → (told : Response) × P told → (told : Response) × MatchBool b (P told) (IsNowhere told)
here_or_nowhere true P h = h
here_or_nowhere false P h = (response.Refused refusal.BadCpu, refl)

-- ---- a thread's status
value_of : {A : Type 0} (o : Option A) → is_some o ≡ true → (x : A) × (o ≡ Some x)
value_of None e = absurd (false≢true e)
value_of (Some x) e = (x, refl)

some_number : (n : ℕ) → nat_lt 0 n ≡ true → 1 ≤ n
some_number n e = elim (cases_lt 0 n) [
  | inl above ↦ omega arith
  | inr none ↦ absurd (grind (arith, nat_tests))
]

status_by : (P : PlainKernel) (t : ℕ) → IsBegun (kinds P t) → (b : Bool) → is_known P t ≡ b → (told : Response) × IsStatus t (if b then Some (thread_row P t) else None) told
status_by P t begun false e = (response.Refused refusal.UnknownThread, refl)
status_by P t begun true e =
    let phase = value_of (phase_of (kinds P t)) (phase_some (kinds P t) begun (some_number (number P t) e)) in
    (response.Status phase.0 t (record { number = length (kinds P t); running_on = (thread_row P t).on }), (phase.0, phase.1, refl))

status_has : (w : PlainWorld) (t : ℕ) → IsBegun (kinds w.kernel t) → (told : Response) × IsStatus t ((shown w.kernel).thread t) told
status_has w t begun = status_by w.kernel t begun (is_known w.kernel t) refl

asleep_has : (w : PlainWorld) (c : ℕ) → (told : Response) × IsAsleep w c told
asleep_has w c = here_or_nowhere (is_cpu (shown w.kernel) c) (λ told. told ≡ response.Truth (is_asleep (shown w.kernel) c)) (response.Truth (is_asleep (shown w.kernel) c), refl)

-- ---- whether two sets are the same
abbrev within : Set → Set → Bool
within a b = list_all (λ p. has b p.0 p.1) a

within_has : (a b : Set) → within a b ≡ true → (t n : ℕ) → has a t n ≡ true → has b t n ≡ true
within_has [] b h t n e = absurd (false≢true e)
within_has (p ∷ a) b h t n e = elim (or_cases ((p.0 == t) && (p.1 == n)) (has a t n) e) [
  | inl here ↦
      subst (λ k. has b t k ≡ true) (eqb-true p.1 n (second_true (p.0 == t) (p.1 == n) here))
      (subst (λ k. has b k p.1 ≡ true) (eqb-true p.0 t (first_true (p.0 == t) (p.1 == n) here))
      (first_true (has b p.0 p.1) (within a b) h))
  | inr later ↦ within_has a b (second_true (has b p.0 p.1) (within a b) h) t n later
]

has_within : (a b : Set) → ((t n : ℕ) → has a t n ≡ true → has b t n ≡ true) → within a b ≡ true
has_within [] b h = refl
has_within (p ∷ a) b h =
    both (has b p.0 p.1) (within a b)
    (h p.0 p.1 (or_left ((p.0 == p.0) && (p.1 == p.1)) (has a p.0 p.1) (both (p.0 == p.0) (p.1 == p.1) (eq-eqb p.0 p.0 refl) (eq-eqb p.1 p.1 refl))))
    (has_within a b (λ t n e. h t n (or_right ((p.0 == t) && (p.1 == n)) (has a t n) e)))

same_value : (a b : Bool) → (a ≡ true → b ≡ true) → (b ≡ true → a ≡ true) → a ≡ b
same_value true b f g = sym (f refl)
same_value false true f g = g refl
same_value false false f g = refl

abbrev are_same : Set → Set → Bool
are_same a b = within a b && within b a

same_members : (a b : Set) → are_same a b ≡ true → IsSameSet (as_members a) (as_members b)
same_members a b e [] = refl
same_members a b e (t ∷ []) = refl
same_members a b e (t ∷ n ∷ []) =
    same_value (has a t n) (has b t n) (within_has a b (first_true (within a b) (within b a) e) t n) (within_has b a (second_true (within a b) (within b a) e) t n)
same_members a b e (t ∷ n ∷ k ∷ m) = refl

members_same : (a b : Set) → IsSameSet (as_members a) (as_members b) → are_same a b ≡ true
members_same a b same =
    both (within a b) (within b a) (has_within a b (λ t n e. sym (same (t ∷ n ∷ [])) ∙ e)) (has_within b a (λ t n e. same (t ∷ n ∷ []) ∙ e))

same_has : (w : PlainWorld) (c other : ℕ) → (told : Response) × IsComparing w c other told
same_has w c other =
    let a = (w.agents c).known in
    let b = (w.agents other).known in
    here_or_nowhere (are_cpus w c other) (IsSameness w c other)
    (response.Sameness (are_same a b), record { truth = are_same a b; same = (same_members a b, members_same a b); tells = refl })

-- ---- whether a set has all of a thread
upto_has : (set : Set) (t k : ℕ) → has_upto set t k ≡ true → (n : ℕ) → 1 ≤ n → n ≤ k → has set t n ≡ true
upto_has set t zero e n low high = absurd (omega arith)
upto_has set t (suc k) e n low high = elim (cases_lt n (suc k)) [
  | inl below ↦ upto_has set t k (second_true (has set t (suc k)) (has_upto set t k) e) n low (omega arith)
  | inr above ↦ let last : suc k ≡ n = omega arith in subst (λ m. has set t m ≡ true) last (first_true (has set t (suc k)) (has_upto set t k) e)
]

has_all_upto : (set : Set) (t k : ℕ) → ((n : ℕ) → 1 ≤ n → n ≤ k → has set t n ≡ true) → has_upto set t k ≡ true
has_all_upto set t zero h = refl
has_all_upto set t (suc k) h =
    both (has set t (suc k)) (has_upto set t k) (h (suc k) (omega arith) (omega arith)) (has_all_upto set t k (λ n low high. h n low (omega arith)))

abbrev knows_all : Reads → Set → ℕ → Bool
knows_all reads set t = kernel.is_known reads t && has_upto set t (number_read reads t)

complete_has : (w : PlainWorld) (c t : ℕ) → (told : Response) × IsCompleting w c t told
complete_has w c t =
    let reads = shown w.kernel in
    let set = (w.agents c).known in
    here_or_nowhere (is_cpu reads c) (IsCompleteness w c t) (
      response.Truth (knows_all reads set t),
      record {
        truth = knows_all reads set t;
        complete = (
          λ e. record {
            known = first_true (kernel.is_known reads t) (has_upto set t (number_read reads t)) e;
            all = upto_has set t (number_read reads t) (second_true (kernel.is_known reads t) (has_upto set t (number_read reads t)) e);
          },
          λ h. both (kernel.is_known reads t) (has_upto set t (number_read reads t)) h.known (has_all_upto set t (number_read reads t) h.all),
        );
        tells = refl;
      },
    )

-- ---- one read
module _ (the_greatest : (set : Set) (t n : ℕ) → (n ≤ upto set t) ↔ ((m : ℕ) → 1 ≤ m → m ≤ n → IsTrue (has set t m))) where
  show_has : (w : PlainWorld) (c : ℕ) → (told : Response) × IsShowing w c told
  show_has w c =
      let all = rows_of the_greatest (kinds w.kernel) (w.agents c).known in
      here_or_nowhere (is_cpu (shown w.kernel) c) (IsShow w c) (response.View all.0, record { rows = all.0; tells = refl; shown = all.1 })

  pub read_has : (w : PlainWorld) (read : Read) → ((t : ℕ) → IsBegun (kinds w.kernel t)) → (told : Response) × IsRead w read told
  read_has w (Status t) begun = status_has w t (begun t)
  read_has w (Asleep c) begun = asleep_has w c
  read_has w (Show c) begun = show_has w c
  read_has w (Same c other) begun = same_has w c other
  read_has w (Complete c t) begun = complete_has w c t
