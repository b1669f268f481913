-- A call that the step accepts: none of its refusals' conditions holds.
use Rattle.std.proofs.Common.{◌≡◌, ◌==◌, ℕ, not, is_some, true, false, List, [], ◌∷◌, Some, None, refl}
use Rattle.pc_calls.specs.declared.call.Call.{Call}
use Rattle.pc_calls.specs.AgentCalls.{associates, commits}
use Rattle.pc_calls.specs.Conditions.{first_of}
use Rattle.pc_kernel.specs.PlainKernel.{PlainKernel}
use Rattle.pc_kernel.specs.Reads.{Reads, shown}
use Rattle.pc_kernel.specs.Reads as reads
use Rattle.pc_kernel.specs.Steps.{Condition, is_dead, is_ready, refusals, refused, changed, after, after_of}

abbrev pub NoneHold : List Condition → Type 0
NoneHold [] = Unit {0}
NoneHold (c ∷ cs) = (c.0 ≡ false) × NoneHold cs

pub none_hold : (cs : List Condition) → first_of cs ≡ None → NoneHold cs
none_hold [] e = tt
none_hold ((true, fault) ∷ cs) e = cc
none_hold ((false, fault) ∷ cs) e = (refl, none_hold cs e)

-- the conditions of an associate and of a commit, by names: these two alone go by their order
pub record AssociatePasses (r : Reads) (t queue n : ℕ) : Type 0 where
  pub known : not (reads.is_known r t) ≡ false
  pub there : not (reads.is_cpu r queue) ≡ false
  pub alive : is_dead (reads.phase r t) ≡ false
  pub current : not (n == reads.number_read r t) ≡ false
  pub nothing_waits : reads.is_pending r t ≡ false
  pub idle : is_some (reads.place r t) ≡ false

pub associate_passes : (r : Reads) (t queue n : ℕ) → NoneHold (refusals r (associates t queue n)) → AssociatePasses r t queue n
associate_passes r t queue n (known, (there, (alive, (current, (nothing_waits, (idle, end)))))) =
    record { known = known; there = there; alive = alive; current = current; nothing_waits = nothing_waits; idle = idle }

pub record CommitPasses (r : Reads) (c t n : ℕ) : Type 0 where
  pub there : not (reads.is_cpu r c) ≡ false
  pub known : not (reads.is_known r t) ≡ false
  pub current : not (n == reads.aseq_read r c) ≡ false
  pub ready : not (is_ready (reads.phase r t)) ≡ false
  pub at_home : not (reads.home r t == c) ≡ false
  pub nowhere : is_some (reads.place r t) ≡ false
  pub allowed : not (reads.is_allowed_on r t c) ≡ false
  pub idle : is_some (reads.on r c) ≡ false

pub commit_passes : (r : Reads) (c t n : ℕ) → NoneHold (refusals r (commits c t n)) → CommitPasses r c t n
commit_passes r c t n (there, (known, (current, (ready, (at_home, (nowhere, (allowed, (idle, end)))))))) =
    record { there = there; known = known; current = current; ready = ready; at_home = at_home; nowhere = nowhere; allowed = allowed; idle = idle }

-- a fact that a change and the kernel as it is have, the kernel after the call has
pub after_has : (F : PlainKernel → Type 0) (P : PlainKernel) (call : Call) → F P → (NoneHold (refusals (shown P) call) → F (changed P call)) → F (after P call)
after_has F P call same new =
    elim (refused (shown P) call) as (λ o. refused (shown P) call ≡ o → F (after_of o (changed P call) P)) [
      | None ↦ λ e. new (none_hold (refusals (shown P) call) e)
      | Some fault ↦ λ e. same
    ] refl
