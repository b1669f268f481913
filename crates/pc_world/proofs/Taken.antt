-- An exact steal is not refused, unless a message of its thread waits.
use Rattle.std.proofs.Common.{◌≡◌, ℕ, ◌==◌, ◌&&◌, Bool, true, false, not, List, [], ◌∷◌, length, take, Option, Some, None, is_none, is_some, unwrap_or, refl, sym, ◌∙◌, ap, arith, if◌then◌else◌}
use Rattle.std.proofs.lemmas.Bool.Decides.{nat_tests}
use Rattle.pc_messages.specs.State.{phase_of, mask_of, ran_of, level_of, report, state_of}
use Rattle.pc_messages.specs.declared.kind.Kind.{Kind}
use Rattle.pc_messages.specs.declared.reported.Phase.{Phase}
use Rattle.pc_messages.specs.declared.reported.Phase.TheVariants as phase
use Rattle.pc_calls.specs.Conditions.{first_of}
use Rattle.pc_calls.specs.declared.refusal.Refusal.{Refusal}
use Rattle.pc_calls.specs.declared.refusal.Refusal.TheVariants as refusals
use Rattle.pc_kernel.specs.Exact.{ReadsArePlain}
use Rattle.pc_kernel.specs.PlainKernel.{kinds}
use Rattle.pc_kernel.specs.Reads.{shown, is_cpu, is_pending}
use Rattle.pc_kernel.specs.Reads as reads
use Rattle.pc_kernel.specs.Steps.{Condition, is_dead, refused}
use Rattle.pc_view.specs.Prefixes.{reports, upto}
use Rattle.pc_run_queue.specs.Runs.{may_run, rank_told}
use Rattle.pc_agent.specs.PlainAgent.{is_idle, is_wanted, known_by, may_take, standing}
use Rattle.pc_agent.specs.Running.{FindsFirst, takes_over}
use Rattle.pc_world.specs.PlainWorld.{PlainWorld}
use Rattle.pc_world.specs.Steps.{stealable}

pub pass : (b : Bool) (why : Refusal) (rest : List Condition) → b ≡ false → first_of rest ≡ None → first_of ((b, why) ∷ rest) ≡ None
pass false why rest e f = f
pass true why rest e f = cc

told_alive : (p : Option Phase) (m : Option ℕ) (ran level cpu : ℕ) → may_run (report p m ran level) cpu ≡ true → is_dead p ≡ false
told_alive None m ran level cpu e = refl
told_alive (Some phase.Ready) m ran level cpu e = refl
told_alive (Some phase.Blocked) m ran level cpu e = refl
told_alive (Some phase.Dead) None ran level cpu e = cc
told_alive (Some phase.Dead) (Some mask) ran level cpu e = cc

-- a thread that may run by all of its messages is alive
pub alive : (ks : List Kind) (cpu : ℕ) → may_run (state_of ks) cpu ≡ true → is_dead (phase_of ks) ≡ false
alive ks cpu e = told_alive (phase_of ks) (mask_of ks) (ran_of ks) (level_of ks) cpu e

pub at_some : (b : Bool) (o : Option ℕ) (place : ℕ) → (if b then o else None) ≡ Some place → (b ≡ true) × (o ≡ Some place)
at_some true o place e = (refl, e)
at_some false o place e = cc

when_exact : (b : Bool) (o : Option ℕ) (place : ℕ) → b ≡ true → (if b then o else Some 0) ≡ Some place → o ≡ Some place
when_exact true o place e f = f
when_exact false o place e f = cc

pub both : (a b : Bool) → (a && b) ≡ true → (a ≡ true) × (b ≡ true)
both true b e = (refl, e)
both false b e = cc

pub no_place : (o : Option ℕ) → is_none o ≡ true → is_some o ≡ false
no_place None e = refl
no_place (Some x) e = cc

equals : (a b : ℕ) → (a == b) ≡ true → a ≡ b
equals a b e = grind (arith, nat_tests)

take_whole : {X : Type 0} (xs : List X) → take (length xs) xs ≡ xs
take_whole [] = refl
take_whole (x ∷ xs) = ap (λ l. x ∷ l) (take_whole xs)

pub exact_taken : ReadsArePlain → (w : PlainWorld) (c t : ℕ) → (w.agents c).rules.exact ≡ true → is_cpu (shown w.kernel) c ≡ true → FindsFirst (stealable w c) (Some t) → is_pending (shown w.kernel) t ≡ false
    → refused (shown w.kernel) (takes_over c (w.agents c) t) ≡ None
exact_taken plain w c t exact there found quiet =
    let r = shown w.kernel in
    let run = kinds w.kernel in
    let p = w.agents c in
    let known = known_by run p.known in
    let runs = λ (other : ℕ). may_run (reports run p.known other) c in
    let whole_rank = if upto p.known t == reads.number_read r t then rank_told p.rules.ranks c t (reports run p.known t) else None in
    let chosen = at_some (may_take r runs p.list t) (standing p.rules r known c t) found.place found.there in
    let wanted = both (is_wanted runs p.list t) (is_idle r t) chosen.0 in
    let may = both (runs t) _ wanted.0 in
    let idle = both (reads.is_known r t) (is_none (reads.place r t)) wanted.1 in
    let ranked = when_exact p.rules.exact whole_rank found.place exact chosen.1 in
    let whole = at_some (upto p.known t == reads.number_read r t) (rank_told p.rules.ranks c t (reports run p.known t)) found.place ranked in
    let same : upto p.known t ≡ length (run t) = equals (upto p.known t) (reads.number_read r t) whole.0 ∙ ap length ((plain w.kernel).kinds t) in
    let told : reports run p.known t ≡ state_of (run t) = ap state_of (ap (λ n. take n (run t)) same ∙ take_whole (run t)) in
    let living : is_dead (reads.phase r t) ≡ false = ap (λ ks. is_dead (phase_of ks)) ((plain w.kernel).kinds t) ∙ alive (run t) c (ap (λ s. may_run s c) (sym told) ∙ may.0) in
    let idles = (is_some (reads.place r t), refusals.Running (unwrap_or (reads.place r t) 0)) ∷ [] in
    let waits = (is_pending r t, refusals.Pending) ∷ idles in
    let current = (not (upto p.known t == reads.number_read r t), refusals.Stale (reads.number_read r t)) ∷ waits in
    let lives = (is_dead (reads.phase r t), refusals.Dead) ∷ current in
    let stands = (not (is_cpu r c), refusals.BadCpu) ∷ lives in
    pass (not (reads.is_known r t)) refusals.UnknownThread stands (ap not idle.0)
    (pass (not (is_cpu r c)) refusals.BadCpu lives (ap not there)
    (pass (is_dead (reads.phase r t)) refusals.Dead current living
    (pass (not (upto p.known t == reads.number_read r t)) (refusals.Stale (reads.number_read r t)) waits (ap not whole.0)
    (pass (is_pending r t) refusals.Pending idles quiet
    (pass (is_some (reads.place r t)) (refusals.Running (unwrap_or (reads.place r t) 0)) [] (no_place (reads.place r t) idle.1) refl)))))
