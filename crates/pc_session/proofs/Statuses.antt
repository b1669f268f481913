-- A thread that is known has a state.
use Rattle.std.proofs.Common.{◌≡◌, ℕ, ◌≤◌, Bool, true, false, List, [], ◌∷◌, length, Option, Some, None, is_some, slice_get, refl, sym, ◌∙◌, ap, subst, arith}
use Rattle.std.specs.List.{last_or, filter_map}
use Rattle.std.specs.Option.{option_map, option_and_then}
use Rattle.pc_messages.specs.Run.{IsBegun}
use Rattle.pc_messages.specs.State.{state_of, phase_of, mask_of, report, phase_given, mask_given}
use Rattle.pc_messages.specs.declared.kind.Kind.{Kind}
use Rattle.pc_messages.specs.declared.kind.Kind.TheVariants.{Created, Blocked, Preempted, Yield, Dead, Wakeup, Affinity, Priority}
use Rattle.pc_messages.specs.declared.reported.Phase.{Phase}
use Rattle.pc_kernel.specs.Rows.{KernelRows, ThreadRow}
use Rattle.pc_kernel.specs.Sound.{IsSound}
use Rattle.pc_calls.specs.declared.call.Status.{Status}
use Rattle.std.proofs.lemmas.Bool.{true≢false}
use Rattle.pc_kernel.specs.Reads.{seen, status_of, reported_of}
use Rattle.pc_calls.specs.declared.refusal.Refusal.TheVariants as refusal
use Rattle.pc_script.specs.declared.response.Response.TheVariants as response
use Rattle.pc_session.specs.Reads.{IsStatus}

last_some : {A : Type 0} (x : A) (xs : List A) → is_some (last_or (Some x) xs) ≡ true
last_some x [] = refl
last_some x (y ∷ xs) = last_some y xs

some_report : (p : Option Phase) (m : Option ℕ) (ran level : ℕ) → is_some p ≡ true → is_some m ≡ true → is_some (report p m ran level) ≡ true
some_report None m ran level e f = cc
some_report (Some p) None ran level e f = cc
some_report (Some p) (Some m) ran level e f = refl

-- kinds that are begun are a Created, and others behind it
begins : (ks : List Kind) → IsBegun ks → 1 ≤ length ks → (ready : Bool) × (mask : ℕ) × (others : List Kind) × (ks ≡ Created ready mask ∷ others)
begins [] h low = absurd (omega arith)
begins (Created ready mask ∷ ks) h low = (ready, mask, ks, refl)
begins (Blocked ran ∷ ks) h low = let bad : false ≡ true = h.0 in absurd (true≢false (sym bad))
begins (Preempted ran ∷ ks) h low = let bad : false ≡ true = h.0 in absurd (true≢false (sym bad))
begins (Yield ran ∷ ks) h low = let bad : false ≡ true = h.0 in absurd (true≢false (sym bad))
begins (Dead ran ∷ ks) h low = let bad : false ≡ true = h.0 in absurd (true≢false (sym bad))
begins (Wakeup ∷ ks) h low = let bad : false ≡ true = h.0 in absurd (true≢false (sym bad))
begins (Affinity mask ∷ ks) h low = let bad : false ≡ true = h.0 in absurd (true≢false (sym bad))
begins (Priority level ∷ ks) h low = let bad : false ≡ true = h.0 in absurd (true≢false (sym bad))

first_phase : (ready : Bool) (mask : ℕ) (others : List Kind) → is_some (phase_of (Created ready mask ∷ others)) ≡ true
first_phase true mask others = last_some _ (filter_map phase_given others)
first_phase false mask others = last_some _ (filter_map phase_given others)

first_mask : (ready : Bool) (mask : ℕ) (others : List Kind) → is_some (mask_of (Created ready mask ∷ others)) ≡ true
first_mask ready mask others = last_some mask (filter_map mask_given others)

pub phase_some : (ks : List Kind) → IsBegun ks → 1 ≤ length ks → is_some (phase_of ks) ≡ true
phase_some ks h low =
    let begun = begins ks h low in subst (λ kinds. is_some (phase_of kinds) ≡ true) (sym begun.3) (first_phase begun.0 begun.1 begun.2)

mask_some : (ks : List Kind) → IsBegun ks → 1 ≤ length ks → is_some (mask_of ks) ≡ true
mask_some ks h low =
    let begun = begins ks h low in subst (λ kinds. is_some (mask_of kinds) ≡ true) (sym begun.3) (first_mask begun.0 begun.1 begun.2)

state_some : (ks : List Kind) → IsBegun ks → 1 ≤ length ks → is_some (state_of ks) ≡ true
state_some ks h low = some_report (phase_of ks) (mask_of ks) _ _ (phase_some ks h low) (mask_some ks h low)

-- where no status or no state is read, the thread is not known
abbrev status_row : ThreadRow → Status
status_row row = record { number = length row.kinds; running_on = row.on }

no_row : (o : Option ThreadRow) → is_some (option_map status_row o) ≡ is_some o
no_row None = refl
no_row (Some row) = refl

unknown_row : (t : ℕ) (o : Option ThreadRow) → is_some o ≡ false → IsStatus t o (response.Refused refusal.UnknownThread)
unknown_row t None e = refl
unknown_row t (Some row) e = absurd (true≢false e)

pub unknown_status : (k : KernelRows) (t : ℕ) → IsSound k → status_of (seen k) t ≡ None → IsStatus t ((seen k).thread t) (response.Refused refusal.UnknownThread)
unknown_status k t sound e = unknown_row t (slice_get k.threads t) (sym (no_row (slice_get k.threads t)) ∙ ap is_some e)

pub unreported_status : (k : KernelRows) (t : ℕ) → IsSound k → reported_of (seen k) t ≡ None → IsStatus t ((seen k).thread t) (response.Refused refusal.UnknownThread)
unreported_status k t sound e =
    elim (slice_get k.threads t) as (λ o. slice_get k.threads t ≡ o → option_and_then (λ (row : ThreadRow). state_of row.kinds) o ≡ None → IsStatus t o (response.Refused refusal.UnknownThread)) [
      | None ↦ λ there n. refl
      | Some row ↦ λ there n.
          let known = sound.thread t row there in
          let some : is_some (state_of row.kinds) ≡ true = state_some row.kinds known.begun known.told in
          let bad : false ≡ true = sym (ap is_some n) ∙ some in cc
    ] refl e
