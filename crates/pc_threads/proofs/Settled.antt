-- What is settled of a run, from the view of what all views know.
use Rattle.std.proofs.Common.{ℕ, ◌+◌, ◌≤◌, ◌≡◌, ◌⊎◌, Bool, true, false, ◌&&◌, nat_le, List, [], ◌∷◌, length, Option, Some, None, Result, Ok, Err, IsOk, IfOk, slice_get, refl, sym, ◌∙◌, subst, inl, inr, arith, true≢false}
use Rattle.std.specs.Option.{option_and_then, option_map_or}
use Rattle.std.proofs.lemmas.Bool.Decides.{leb_tells, nat_tests}
use Rattle.std.proofs.lemmas.List.Elements.{All-get_or}
use Rattle.std.proofs.lemmas.Option.{get_or_from_slice_get, slice_get_within}
use Rattle.pc_messages.specs.State.{state_of}
use Rattle.pc_messages.specs.declared.kind.Kind.{Kind}
use Rattle.pc_messages.specs.Run.{Run}
use Rattle.pc_join.specs.Sets.{IsSameSet, IsWithin}
use Rattle.pc_kernel.specs.Reads.{Reads, kinds_read, number_read, reported_of}
use Rattle.pc_kernel.specs.Rows.{ThreadRow}
use Rattle.pc_thread_view.specs.Told.{Told}
use Rattle.pc_view.specs.declared.view.View.{View}
use Rattle.pc_view.specs.Prefixes.{reported_in, state_told, upto_of, upto_told}
use Rattle.pc_view.specs.Views.{IsOfRun, pairs_in, pairs_of, thread_of}
use Rattle.pc_threads.specs.declared.book.settling.RunFault.{RunFault}
use Rattle.pc_threads.specs.declared.book.settling.RunFault.TheVariants.{Audit, Driver, GaveUp, Incomplete, OutOfMemory, StartFailed, TimeUp, Unaccounted}
use Rattle.pc_threads.specs.Inner.Merging.{IsFirstShort, ReachesAll}
use Rattle.pc_threads.specs.Settling.{AreOfRun, AreWhole, IsLeastLacking, IsViewOfAll, Settles, pairs_of_all}

-- a test is the same where it follows from the other both ways
both_ways : (a b : Bool) → (a ≡ true → b ≡ true) → (b ≡ true → a ≡ true) → a ≡ b
both_ways true b f g = sym (f refl)
both_ways false true f g = g refl
both_ways false false f g = refl

-- the messages of a run are those whose numbers are 1 to the count of the thread's kinds
in_run : (n count : ℕ) → 1 ≤ n → n ≤ count → (nat_le 1 n && nat_le n count) ≡ true
in_run n count low high = grind (arith, nat_tests)

numbers_in : (n count : ℕ) → (nat_le 1 n && nat_le n count) ≡ true → (1 ≤ n) × (n ≤ count)
numbers_in n count e = (from_one, to_count)
  where
    from_one : 1 ≤ n
    from_one = grind (arith, nat_tests)

    to_count : n ≤ count
    to_count = grind (arith, nat_tests)

pub record SetLaws : Type 0 where
  pub within : (run : Run) (view : View) → IsOfRun run view → IsWithin (pairs_of view) (pairs_in run)
  pub prefix : (view : View) (t n : ℕ) → 1 ≤ n → n ≤ upto_of view t → pairs_of view (t ∷ n ∷ []) ≡ true
  pub next : (run : Run) (view : View) (t : ℕ) → IsOfRun run view → pairs_of view (t ∷ (upto_of view t + 1) ∷ []) ≡ false

module _ (laws : SetLaws) (reads : Reads) (views : List View) (merged : View) (union : IsSameSet (pairs_of_all views) (pairs_of merged))
    (all : AreOfRun (kinds_read reads) views) (of_run : IsOfRun (kinds_read reads) merged) where
  reached : (t n : ℕ) → number_read reads t ≤ upto_of merged t → pairs_in (kinds_read reads) (t ∷ n ∷ []) ≡ true → pairs_of merged (t ∷ n ∷ []) ≡ true
  reached t n reaches told =
      let h = numbers_in n (number_read reads t) told in
      laws.prefix merged t n h.0 (omega (arith, h.1, reaches))

  all_reached : ReachesAll reads merged → (m : List ℕ) → pairs_in (kinds_read reads) m ≡ true → pairs_of merged m ≡ true
  all_reached reaches [] told = absurd (true≢false (sym told))
  all_reached reaches (t ∷ []) told = absurd (true≢false (sym told))
  all_reached reaches (t ∷ n ∷ []) told = reached t n (reaches t) told
  all_reached reaches (t ∷ n ∷ k ∷ m) told = absurd (true≢false (sym told))

  -- the view of all, where it reaches each thread's last message
  pub settled_all : ReachesAll reads merged → Settles (kinds_read reads) views (Ok merged)
  settled_all reaches =
      let same : IsSameSet (pairs_of merged) (pairs_in (kinds_read reads)) =
      λ m. both_ways (pairs_of merged m) (pairs_in (kinds_read reads) m) (laws.within (kinds_read reads) merged of_run m) (all_reached reaches m) in
      (record { of_run = all; all = λ m. union m ∙ same m }, record { of_run = of_run; all = same })

  -- else the first thread that it does not reach lacks a message
  pub settled_short : (thread : ℕ) → IsFirstShort reads merged thread → IsLeastLacking (kinds_read reads) views thread
  settled_short thread first =
      record {
        number = upto_of merged thread + 1;
        told = in_run (upto_of merged thread + 1) (number_read reads thread) (omega arith) (omega (arith, first.short));
        unknown = union (thread ∷ (upto_of merged thread + 1) ∷ []) ∙ laws.next (kinds_read reads) merged thread of_run;
        before = λ t n less told. union (t ∷ n ∷ []) ∙ reached t n (first.before t less) told;
      }

-- of views that know the whole run, none is strange and no thread lacks a message
at_place : (run : Run) (views : List View) (place : ℕ) (view : View) → slice_get views place ≡ Some view → AreOfRun run views → IsOfRun run view
at_place run views place view there all =
    subst (IsOfRun run) (get_or_from_slice_get views place view view there) (All-get_or (IsOfRun run) views place view (slice_get_within views place view there) all)

pub settled_whole : (run : Run) (views : List View) (result : Result View RunFault) → Settles run views result → AreWhole run views
    → IsOk result ⊎ (result ≡ Err OutOfMemory)
settled_whole run views (Ok view) settles whole = inl refl
settled_whole run views (Err (Audit place)) settles whole = absurd (settles.strange (at_place run views place settles.view settles.there whole.of_run))
settled_whole run views (Err OutOfMemory) settles whole = inr refl
settled_whole run views (Err StartFailed) settles whole = absurd settles
settled_whole run views (Err (GaveUp cpu)) settles whole = absurd settles
settled_whole run views (Err TimeUp) settles whole = absurd settles
settled_whole run views (Err (Driver refusal)) settles whole = absurd settles
settled_whole run views (Err Unaccounted) settles whole = absurd settles
settled_whole run views (Err (Incomplete thread)) settles whole =
    absurd (true≢false (sym settles.1.told ∙ sym (whole.all (thread ∷ settles.1.number ∷ [])) ∙ settles.1.unknown))

-- what is reported of a thread is the state of its kinds; of none where it has none
state_read : (reads : Reads) (t : ℕ) → state_of (kinds_read reads t) ≡ reported_of reads t
state_read reads t = by_row (reads.thread t)
  where
    by_row : (row : Option ThreadRow) → state_of (option_map_or (λ (r : ThreadRow). r.kinds) row []) ≡ option_and_then (λ (r : ThreadRow). state_of r.kinds) row
    by_row None = refl
    by_row (Some row) = refl

no_kinds : (kinds : List Kind) → length kinds ≤ 0 → None ≡ state_of kinds
no_kinds [] few = refl
no_kinds (kind ∷ kinds) few = absurd (omega arith)

module _ (next : (run : Run) (view : View) (t : ℕ) → IsOfRun run view → pairs_of view (t ∷ (upto_of view t + 1) ∷ []) ≡ false)
    (known : (run : Run) (view : View) (t : ℕ) (told : Told) → IsOfRun run view → thread_of view t ≡ Some told → length (run t) ≤ told.upto
    → told.state ≡ state_of (run t))
    (run : Run) (view : View) (all : IsViewOfAll run view) (t : ℕ) where
  -- the view reaches each thread's last message, as it knows all of them and not the next
  all_known : length (run t) ≤ upto_of view t
  all_known =
      elim (leb_tells (length (run t)) (upto_of view t)) [
        | inl few ↦ few.1
        | inr many ↦
            absurd (true≢false (sym (in_run (upto_of view t + 1) (length (run t)) (omega arith) (omega (arith, many.1)))
            ∙ sym (all.all (t ∷ (upto_of view t + 1) ∷ [])) ∙ next run view t all.of_run))
      ]

  reports_all : state_told (thread_of view t) ≡ state_of (run t)
  reports_all = by_thread (thread_of view t) refl all_known
    where
      by_thread : (o : Option Told) → thread_of view t ≡ o → length (run t) ≤ upto_told o → state_told o ≡ state_of (run t)
      by_thread None e few = no_kinds (run t) few
      by_thread (Some told) e few = known run view t told all.of_run e few

pub settled_reports : (next : (run : Run) (view : View) (t : ℕ) → IsOfRun run view → pairs_of view (t ∷ (upto_of view t + 1) ∷ []) ≡ false)
    → (known : (run : Run) (view : View) (t : ℕ) (told : Told) → IsOfRun run view → thread_of view t ≡ Some told → length (run t) ≤ told.upto
    → told.state ≡ state_of (run t))
    → (reads : Reads) (views : List View) (result : Result View RunFault) → Settles (kinds_read reads) views result
    → IfOk result (λ view. (t : ℕ) → reported_in view t ≡ reported_of reads t)
settled_reports next known reads views (Ok view) settles = λ t. reports_all next known (kinds_read reads) view settles.1 t ∙ state_read reads t
settled_reports next known reads views (Err fault) settles = tt
