-- Threads that were tested one by one.
use Rattle.std.proofs.Common.{ℕ, ℤ, pos, ◌≡◌, ◌+◌, true, false, List, [], ◌∷◌, ◌++◌, length, length-append, map, Some, None, refl, sym, ap, ◌∙◌, append_assoc, ◌⊎◌, inl, inr}
use Rattle.std.proofs.lemmas.List.{append-nil, map-append}
use Rattle.pc_calls.specs.Conditions.{first_of}
use Rattle.pc_load.specs.declared.load.ThreadDraft.{ThreadDraft}
use Rattle.pc_load.specs.declared.load.ThreadLoad.{ThreadLoad}
use Rattle.pc_load.specs.declared.load.LoadFault.{LoadFault}
use Rattle.pc_load.specs.declared.load.LoadFault.TheVariants.{BadThread, BadLoad, OutOfMemory}
use Rattle.pc_load.specs.Loads.{Need, drafted, need_of, is_thread, is_load, thread_faults}

-- these drafts are without a fault, whatever comes behind them, and these are their threads
pub record SoFar (cpus : ℕ) (drafts : List ThreadDraft) (before : ℕ) (threads : List ThreadLoad) : Type 0 where
  pub kept : map need_of threads ≡ map drafted drafts
  pub count : length threads ≡ length drafts
  pub none : (rest : List Need) → first_of (thread_faults cpus (pos 0) 0 (map drafted drafts ++ rest)) ≡ first_of (thread_faults cpus (pos before) (length drafts) rest)

pub begun : (cpus : ℕ) → SoFar cpus [] 0 []
begun cpus = record { kept = refl; count = refl; none = λ rest. refl }

-- the faults from a thread on, where it has none, the first or the second
passed : (cpus : ℕ) (before : ℤ) (place : ℕ) (need : Need) (rest : List Need) → is_thread cpus need ≡ true → is_load before need ≡ true
    → first_of (thread_faults cpus before place (need ∷ rest)) ≡ first_of (thread_faults cpus need.start (place + 1) rest)
passed cpus before place need rest there loaded = rw (there, loaded) refl

no_thread : (cpus : ℕ) (before : ℤ) (place : ℕ) (need : Need) (rest : List Need) → is_thread cpus need ≡ false
    → first_of (thread_faults cpus before place (need ∷ rest)) ≡ Some (BadThread place)
no_thread cpus before place need rest there = rw there refl

no_load : (cpus : ℕ) (before : ℤ) (place : ℕ) (need : Need) (rest : List Need) → is_thread cpus need ≡ true → is_load before need ≡ false
    → first_of (thread_faults cpus before place (need ∷ rest)) ≡ Some (BadLoad place)
no_load cpus before place need rest there loaded = rw (there, loaded) refl

one_more : (drafts : List ThreadDraft) (draft : ThreadDraft) (rest : List Need) → map drafted (drafts ++ draft ∷ []) ++ rest ≡ map drafted drafts ++ drafted draft ∷ rest
one_more drafts draft rest = ap (λ xs. xs ++ rest) (map-append drafted drafts (draft ∷ [])) ∙ append_assoc (map drafted drafts) (drafted draft ∷ []) rest

pub turn : (cpus : ℕ) (drafts : List ThreadDraft) (before : ℕ) (threads : List ThreadLoad) (draft : ThreadDraft) (thread : ThreadLoad)
    → SoFar cpus drafts before threads → need_of thread ≡ drafted draft → is_thread cpus (drafted draft) ≡ true → is_load (pos before) (drafted draft) ≡ true
    → SoFar cpus (drafts ++ draft ∷ []) thread.start (threads ++ thread ∷ [])
turn cpus drafts before threads draft thread h is there loaded =
    let start : pos thread.start ≡ draft.start = ap (λ need. need.start) is in
    let count : length (drafts ++ draft ∷ []) ≡ length drafts + 1 = length-append drafts (draft ∷ []) in
    record {
      kept = map-append need_of threads (thread ∷ []) ∙ ap (λ xs. xs ++ need_of thread ∷ []) h.kept ∙ ap (λ need. map drafted drafts ++ need ∷ []) is
          ∙ sym (map-append drafted drafts (draft ∷ []));
      count = length-append threads (thread ∷ []) ∙ ap (λ n. n + 1) h.count ∙ sym count;
      none = λ rest. ap (λ needs. first_of (thread_faults cpus (pos 0) 0 needs)) (one_more drafts draft rest)
          ∙ h.none (drafted draft ∷ rest) ∙ passed cpus (pos before) (length drafts) (drafted draft) rest there loaded
          ∙ ap (λ z. first_of (thread_faults cpus z (length drafts + 1) rest)) (sym start)
          ∙ ap (λ n. first_of (thread_faults cpus (pos thread.start) n rest)) (sym count);
    }

-- the first fault of all is that of a thread behind these
whole : (drafts : List ThreadDraft) (draft : ThreadDraft) (rest : List ThreadDraft) → map drafted (drafts ++ draft ∷ rest) ≡ map drafted drafts ++ drafted draft ∷ map drafted rest
whole drafts draft rest = map-append drafted drafts (draft ∷ rest)

pub stop_at_thread : (cpus : ℕ) (drafts : List ThreadDraft) (before : ℕ) (threads : List ThreadLoad) (draft : ThreadDraft) (rest : List ThreadDraft)
    → SoFar cpus drafts before threads → is_thread cpus (drafted draft) ≡ false
    → first_of (thread_faults cpus (pos 0) 0 (map drafted (drafts ++ draft ∷ rest))) ≡ Some (BadThread (length threads))
stop_at_thread cpus drafts before threads draft rest h there =
    ap (λ needs. first_of (thread_faults cpus (pos 0) 0 needs)) (whole drafts draft rest) ∙ h.none (drafted draft ∷ map drafted rest)
    ∙ no_thread cpus (pos before) (length drafts) (drafted draft) (map drafted rest) there ∙ ap (λ n. Some (BadThread n)) (sym h.count)

pub stop_at_load : (cpus : ℕ) (drafts : List ThreadDraft) (before : ℕ) (threads : List ThreadLoad) (draft : ThreadDraft) (rest : List ThreadDraft)
    → SoFar cpus drafts before threads → is_thread cpus (drafted draft) ≡ true → is_load (pos before) (drafted draft) ≡ false
    → first_of (thread_faults cpus (pos 0) 0 (map drafted (drafts ++ draft ∷ rest))) ≡ Some (BadLoad (length threads))
stop_at_load cpus drafts before threads draft rest h there loaded =
    ap (λ needs. first_of (thread_faults cpus (pos 0) 0 needs)) (whole drafts draft rest) ∙ h.none (drafted draft ∷ map drafted rest)
    ∙ no_load cpus (pos before) (length drafts) (drafted draft) (map drafted rest) there loaded ∙ ap (λ n. Some (BadLoad n)) (sym h.count)

pub finished : (cpus : ℕ) (drafts : List ThreadDraft) (before : ℕ) (threads : List ThreadLoad) → SoFar cpus drafts before threads
    → first_of (thread_faults cpus (pos 0) 0 (map drafted drafts)) ≡ None
finished cpus drafts before threads h = ap (λ needs. first_of (thread_faults cpus (pos 0) 0 needs)) (sym (append-nil (map drafted drafts))) ∙ h.none []

pub stopped : (cpus : ℕ) (drafts : List ThreadDraft) (before : ℕ) (threads : List ThreadLoad) (draft : ThreadDraft) (rest all : List ThreadDraft) (fault : LoadFault) (place : ℕ)
    → SoFar cpus drafts before threads → drafts ++ draft ∷ rest ≡ all → place ≡ length threads
    → (((is_thread cpus (drafted draft) ≡ false) × (fault ≡ BadThread place))
    ⊎ ((is_thread cpus (drafted draft) ≡ true) × (is_load (pos before) (drafted draft) ≡ false) × (fault ≡ BadLoad place))
    ⊎ (fault ≡ OutOfMemory))
    → (first_of (thread_faults cpus (pos 0) 0 (map drafted all)) ≡ Some fault) ⊎ (fault ≡ OutOfMemory)
stopped cpus drafts before threads draft rest all fault place h split at (inl (there, is)) =
    inl (ap (λ xs. first_of (thread_faults cpus (pos 0) 0 (map drafted xs))) (sym split) ∙ stop_at_thread cpus drafts before threads draft rest h there ∙ ap (λ n. Some (BadThread n)) (sym at) ∙ ap (λ f. Some f) (sym is))
stopped cpus drafts before threads draft rest all fault place h split at (inr (inl (there, loaded, is))) =
    inl (ap (λ xs. first_of (thread_faults cpus (pos 0) 0 (map drafted xs))) (sym split) ∙ stop_at_load cpus drafts before threads draft rest h there loaded ∙ ap (λ n. Some (BadLoad n)) (sym at) ∙ ap (λ f. Some f) (sym is))
stopped cpus drafts before threads draft rest all fault place h split at (inr (inr is)) = inr is
