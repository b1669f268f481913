-- Threads that are held against what they need.
use Rattle.std.proofs.Common.{◌≡◌, ◌<◌, ◌≤◌, ◌+◌, ◌∙◌, ℕ, List, [], ◌∷◌, ◌++◌, Some, option_map, get_or, length, map, sum_by, take, slice_get, nat_abs, below_more, Bool, refl, sym, ap, subst, arith}
use Rattle.std.proofs.lemmas.List.{length-map, map-append, take_more}
use Rattle.std.proofs.lemmas.List.Sums.{sum_by_push}
use Rattle.std.proofs.lemmas.Option.{same_Some, slice_get-map, slice_get_read, slice_get_within}
use Rattle.pc_kernel.specs.Reads.{Reads, reported_of}
use Rattle.pc_messages.specs.declared.reported.Phase.TheVariants.{Dead}
use Rattle.pc_messages.specs.declared.reported.Reported.{Reported}
use Rattle.pc_load.specs.Loads.{Demand, Need, need_of}
use Rattle.pc_load.specs.declared.load.ThreadLoad.{ThreadLoad}
use Rattle.pc_lab.specs.Accounts.{AddsUp, AreEnded, demand_of, ended}
use Rattle.pc_lab.specs.Stalling.{HasStalled}
use Rattle.pc_lab.specs.declared.summary.Summary.{Summary}

-- a state is told by its parts
pub same_state : (state : Reported) (need : Need) → state.phase ≡ Dead → state.mask ≡ nat_abs need.mask → state.ran ≡ demand_of need
    → state.level ≡ nat_abs need.level → state ≡ ended need
same_state state need phase mask ran level =
    let at_phase : state ≡ record state { phase = Dead } = ap (λ p. record state { phase = p }) phase in
    let at_mask : record state { phase = Dead } ≡ record state { phase = Dead; mask = nat_abs need.mask } =
    ap (λ m. record state { phase = Dead; mask = m }) mask in
    let at_ran : record state { phase = Dead; mask = nat_abs need.mask } ≡ record state { phase = Dead; mask = nat_abs need.mask; ran = demand_of need } =
    ap (λ r. record state { phase = Dead; mask = nat_abs need.mask; ran = r }) ran in
    let at_level : record state { phase = Dead; mask = nat_abs need.mask; ran = demand_of need } ≡ ended need =
    ap (λ l. record state { phase = Dead; mask = nat_abs need.mask; ran = demand_of need; level = l }) level in
    at_phase ∙ at_mask ∙ at_ran ∙ at_level

-- the kernel reports of the thread with this name that it has ended
abbrev pub EndedAt : List ThreadLoad → Reads → ℕ → Type 0
EndedAt threads kernel t = (need : Need) → slice_get (map need_of threads) t ≡ Some need → reported_of kernel t ≡ Some (ended need)

here : (threads : List ThreadLoad) (kernel : Reads) (place : ℕ) (thread : ThreadLoad) → place < length threads → thread ≡ get_or threads place thread
    → reported_of kernel place ≡ Some (ended (need_of thread)) → EndedAt threads kernel place
here threads kernel place thread low there told need is =
    let at : slice_get (map need_of threads) place ≡ Some (need_of thread) =
    slice_get-map need_of threads place ∙ ap (option_map need_of) (slice_get_read threads (length threads) place thread refl low there) in
    told ∙ ap (λ n. Some (ended n)) (same_Some (need_of thread) need (sym at ∙ is))

-- what holds of each thread before a place, and of the one at it, holds of each before the next
pub ended_more : (threads : List ThreadLoad) (kernel : Reads) (place : ℕ) (thread : ThreadLoad) → ((t : ℕ) → t < place → EndedAt threads kernel t)
    → place < length threads → thread ≡ get_or threads place thread → reported_of kernel place ≡ Some (ended (need_of thread))
    → (t : ℕ) → t < place + 1 → EndedAt threads kernel t
ended_more threads kernel place thread before low there told =
    below_more (EndedAt threads kernel) place before (here threads kernel place thread low there told)

-- what holds of each thread before the end holds of all
pub ended_all : (threads : List ThreadLoad) (kernel : Reads) (place : ℕ) → ((t : ℕ) → t < place → EndedAt threads kernel t) → length threads ≤ place
    → AreEnded (map need_of threads) kernel
ended_all threads kernel place before past t need is =
    let low : t < length (map need_of threads) = slice_get_within (map need_of threads) t need is in
    before t (omega (arith, low, length-map threads need_of, past)) need is

-- a sum over threads goes on by one
pub sum_more : (f : Need → ℕ) (threads : List ThreadLoad) (i : ℕ) (thread : ThreadLoad) (sum : ℕ) → i < length threads → thread ≡ get_or threads i thread
    → sum ≡ sum_by f (map need_of (take i threads)) → sum + f (need_of thread) ≡ sum_by f (map need_of (take (i + 1) threads))
sum_more f threads i thread sum low there same =
    let split : take (i + 1) threads ≡ take i threads ++ thread ∷ [] = take_more threads i thread low ∙ ap (λ x. take i threads ++ x ∷ []) (sym there) in
    let whole : sum_by f (map need_of (take (i + 1) threads)) ≡ sum_by f (map need_of (take i threads)) + f (need_of thread) =
    ap (λ xs. sum_by f (map need_of xs)) split ∙ ap (sum_by f) (map-append need_of (take i threads) (thread ∷ []))
    ∙ sum_by_push f (map need_of (take i threads)) (need_of thread) in
    ap (λ n. n + f (need_of thread)) same ∙ sym whole

-- an account is one of what is the same
pub same_account : (load load' : Demand) (keep keep' : Bool) (kernel kernel' : Reads) (summary : Summary) → load ≡ load' → keep ≡ keep' → kernel ≡ kernel'
    → AddsUp load keep kernel summary → AddsUp load' keep' kernel' summary
same_account load load' keep keep' kernel kernel' summary of_load of_keep of_kernel adds =
    subst (λ l. AddsUp l keep' kernel' summary) of_load
    (subst (λ k. AddsUp load k kernel' summary) of_keep (subst (λ r. AddsUp load keep r summary) of_kernel adds))

-- a stall is one of what is the same
pub same_stall : (load load' : Demand) (kernel kernel' : Reads) (t : ℕ) → load ≡ load' → kernel ≡ kernel' → HasStalled load kernel t
    → HasStalled load' kernel' t
same_stall load load' kernel kernel' t of_load of_kernel stalled =
    subst (λ l. HasStalled l kernel' t) of_load (subst (λ r. HasStalled load r t) of_kernel stalled)
