-- What a view tells, against the histories of a kernel.
use Rattle.std.proofs.Common.{ℕ, suc, zero, ◌<◌, ◌≤◌, ◌≡◌, false, IsTrue, List, [], ◌∷◌, ◌++◌, length, take, drop, get_or, slice_get, Option, Some, None, is_some, All, refl, sym, ap, ◌∙◌, subst, arith, inl, inr}
use Rattle.std.proofs.lemmas.Bool.{false≢true}
use Rattle.std.proofs.lemmas.List.{take_all}
use Rattle.std.specs.Option.{option_map, option_map_or, option_and_then}
use Rattle.pc_messages.specs.declared.kind.Kind.{Kind}
use Rattle.pc_messages.specs.Run.{Run}
use Rattle.pc_messages.specs.State.{state_of}
use Rattle.pc_join.specs.Sets.{IsVoid, source_at}
use Rattle.pc_thread_view.specs.Told.{Told, IsOfThread, IsView, numbers_of}
use Rattle.pc_thread_view.specs.Histories.{Has, IsOfHistory, IsPrefixOf}
use Rattle.pc_thread_view.proofs.Histories.{of_history}
use Rattle.pc_kernel.specs.Rows.{KernelRows, ThreadRow}
use Rattle.pc_kernel.specs.Sound.{IsSound}
use Rattle.pc_kernel.specs.Reads.{seen, kinds_read, history_of, reported_of}
use Rattle.pc_view.specs.declared.view.View.{View}
use Rattle.pc_join.proofs.Entries.{IsWalked}
use Rattle.pc_view.specs.Views.{IsOfRun, source_of, thread_of}
use Rattle.pc_view.specs.Audit.{Departs, IsPast, IsOtherState, IsFirstOther, IsComplete}
use Rattle.pc_view.specs.Prefixes.{upto_told, upto_of}
use Rattle.pc_view.proofs.Runs.{history_of_run, state_of_run, within_run}

pub early_of_run : (run : Run) (view : View) (thread : ℕ) (told : Told) → IsOfRun run view → thread_of view thread ≡ Some told → All (Has (run thread)) told.early
early_of_run run view thread told of_run there = (history_of_run run view thread told of_run there).early

-- what departs from a history is not of the run
has_at : {A : Type 0} (P : A → Type 0) (before : List A) (x : A) (after : List A) → All P (before ++ x ∷ after) → P x
has_at P [] x after h = h 0 x (omega arith)
has_at P (b ∷ bs) x after h = has_at P bs x after (λ k d less. h (suc k) d (omega arith))

module _ (run : Run) (view : View) (thread : ℕ) (told : Told) (number : ℕ) (of_run : IsOfRun run view) (there : thread_of view thread ≡ Some told) where
  not_past : IsPast (run thread) told number → ⊥
  not_past (past, _) = let within = within_run run view thread told of_run there in omega arith

  not_other : IsOtherState (run thread) told number → ⊥
  not_other (_, other, _) = other (state_of_run run view thread told of_run there)

  not_first : IsFirstOther (run thread) told.early number → ⊥
  not_first f = f.other (has_at (Has (run thread)) f.before (number, f.kind) f.after (subst (All (Has (run thread))) f.among (early_of_run run view thread told of_run there)))

  pub departs_not : Departs (run thread) told number → ⊥
  departs_not (inl past) = not_past past
  departs_not (inr (inl other)) = not_other other
  departs_not (inr (inr early)) = not_first early.1

-- all that is told of a thread is of the history and of the run, and is not nothing
pub record IsOfHistories (run : Run) (thread : ℕ) (told : Told) : Type 0 where
  pub history : IsOfHistory (run thread) told
  pub of_thread : IsOfThread told (source_at (source_of run) thread)
  pub not_void : ¬ IsVoid (numbers_of told)

pub of_histories : (run : Run) (thread : ℕ) (told : Told) → IsOfHistory (run thread) told → IsView told → IsOfHistories run thread told
of_histories run thread told h view = record {
  history = h;
  of_thread = of_history (run thread) told h view.sound.gap;
  not_void = λ void. false≢true (sym (void (view.some.0 ∷ [])) ∙ view.some.1);
}

-- how far a view has been audited
abbrev pub IsAudited : Run → View → List (ℕ × Told) → Type 0
IsAudited run view left = IsWalked (IsOfHistories run) view.threads left

pub all_audited : (run : Run) (view : View) → ((thread : ℕ) (told : Told) → thread_of view thread ≡ Some told → IsOfHistories run thread told) → IsOfRun run view
all_audited run view all = record { kept = λ thread told there. (all thread told there).not_void; each = λ thread told there. (all thread told there).of_thread }

-- what a kernel's history is
pub kinds_here : (k : KernelRows) (thread : ℕ) (history : List Kind) → ◌≡◌ {A = Option (List Kind)} (Some history) (history_of (seen k) thread) → history ≡ kinds_read (seen k) thread
kinds_here k thread history e = here ((seen k).thread thread) e
  where
    here : (o : Option ThreadRow) → ◌≡◌ {A = Option (List Kind)} (Some history) (option_map (λ row. row.kinds) o) → history ≡ option_map_or (λ row. row.kinds) o []
    here None e = cc
    here (Some row) e = cc

pub kinds_none : (k : KernelRows) (thread : ℕ) → ◌≡◌ {A = Option (List Kind)} None (history_of (seen k) thread) → [] ≡ kinds_read (seen k) thread
kinds_none k thread e = none ((seen k).thread thread) e
  where
    none : (o : Option ThreadRow) → ◌≡◌ {A = Option (List Kind)} None (option_map (λ row. row.kinds) o) → [] ≡ option_map_or (λ row. row.kinds) o []
    none None e = refl
    none (Some row) e = cc

pub reported_here : (k : KernelRows) (thread : ℕ) (history : List Kind) → ◌≡◌ {A = Option (List Kind)} (Some history) (history_of (seen k) thread) → reported_of (seen k) thread ≡ state_of history
reported_here k thread history e = here ((seen k).thread thread) e
  where
    here : (o : Option ThreadRow) → ◌≡◌ {A = Option (List Kind)} (Some history) (option_map (λ row. row.kinds) o) → option_and_then (λ row. state_of row.kinds) o ≡ state_of history
    here None e = cc
    here (Some row) e = let h : row.kinds ≡ history = cc in ap state_of h

-- where the whole history is told
pub whole : (run : Run) (view : View) (thread : ℕ) (told : Told) → IsOfRun run view → thread_of view thread ≡ Some told → length (run thread) ≤ told.upto → told.state ≡ state_of (run thread)
whole run view thread told of_run there long =
    state_of_run run view thread told of_run there ∙ ap state_of (take_all told.upto (run thread) long)

-- a list, cut at one of its elements
pub among_at : {A : Type 0} (xs : List A) (i : ℕ) (x : A) → i < length xs → x ≡ get_or xs i x → xs ≡ take i xs ++ x ∷ drop (suc i) xs
among_at [] i x less e = absurd (let none : ⊥ = omega arith in none)
among_at (y ∷ ys) zero x less e = ap (λ z. z ∷ ys) (sym e)
among_at (y ∷ ys) (suc n) x less e = ap (λ l. y ∷ l) (among_at ys n x (omega arith) e)

pub first_taken : {A : Type 0} (xs : List A) (x : A) → 0 < length xs → x ≡ get_or xs 0 x → take 1 xs ≡ x ∷ []
first_taken [] x less e = absurd (let none : ⊥ = omega arith in none)
first_taken (y ∷ ys) x less e = ap (λ z. z ∷ []) (sym e)

-- nothing is told of a thread that has a message
pub none_complete : (k : KernelRows) (view : View) (thread : ℕ) → IsSound k → thread_of view thread ≡ None → IsComplete view (seen k) thread → ⊥
none_complete k view thread sound none h = by_row (slice_get k.threads thread) refl
  where
    zero_upto : upto_of view thread ≡ 0
    zero_upto = ap upto_told none

    by_row : (o : Option ThreadRow) → slice_get k.threads thread ≡ o → ⊥
    by_row None e = let known : IsTrue false = subst (λ o. IsTrue (is_some o)) e h.known in cc
    by_row (Some row) e =
        let reached : length (option_map_or (λ row. row.kinds) (slice_get k.threads thread) []) ≤ upto_of view thread = h.reached in
        let there : length row.kinds ≤ upto_of view thread = subst (λ o. length (option_map_or (λ row. row.kinds) o []) ≤ upto_of view thread) e reached in
        let some : 1 ≤ length row.kinds = (sound.thread thread row e).told in
        omega (arith, zero_upto)

-- what is held of a thread reports the kernel's state of it, where it is complete
pub reports_state : (k : KernelRows) (view : View) (thread : ℕ) (held : Told) (history : List Kind) → ◌≡◌ {A = Option (List Kind)} (Some history) (history_of (seen k) thread)
    → ◌≡◌ {A = Option Told} (Some held) (thread_of view thread) → length history ≤ held.upto
    → (told : Told) × (thread_of view thread ≡ Some told) × (IsPrefixOf (kinds_read (seen k) thread) told → told.state ≡ reported_of (seen k) thread)
reports_state k view thread held history here value long =
    let same : history ≡ kinds_read (seen k) thread = kinds_here k thread history here in (
      held,
      sym value,
      λ prefix. prefix.state ∙ ap state_of (take_all held.upto (kinds_read (seen k) thread) (subst (λ l. length l ≤ held.upto) same long)) ∙ ap state_of (sym same) ∙ sym (reported_here k thread history here),
    )
