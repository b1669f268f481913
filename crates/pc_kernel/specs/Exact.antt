-- Reads in the plain kernel's own words, and what it finds where it accepts an associate or a commit.
use Rattle.std.specs.Prelude.{ℕ, ◌≡◌, ◌≢◌, true, false, Some, None}
use Rattle.std.specs.Option.{option_map_or}
use Rattle.pc_messages.specs.Mask.{allows}
use Rattle.pc_messages.specs.State.{phase_of, mask_of}
use Rattle.pc_messages.specs.declared.reported.Phase.TheVariants.{Ready, Dead}
use Rattle.pc_calls.specs.AgentCalls.{associates, commits}
use Rattle.pc_kernel.specs.PlainKernel.{PlainKernel, kinds, number, is_known, threads, content, aseq, place_of}
use Rattle.pc_kernel.specs.Reads.{shown, is_pending, is_cpu}
use Rattle.pc_kernel.specs.Reads as reads
use Rattle.pc_kernel.specs.Steps.{refused}

-- what is read of threads, and of the CPUs that are there, is what the posts and marks say
pub record ArePlainReads (P : PlainKernel) : Type 0 where
  pub kinds : (t : ℕ) → reads.kinds_read (shown P) t ≡ kinds P t
  pub number : (t : ℕ) → reads.number_read (shown P) t ≡ number P t
  pub known : (t : ℕ) → reads.is_known (shown P) t ≡ is_known P t
  pub threads : (shown P).threads ≡ threads P
  pub content : (c : ℕ) → is_cpu (shown P) c ≡ true → reads.content_read (shown P) c ≡ content P c
  pub aseq : (c : ℕ) → is_cpu (shown P) c ≡ true → reads.aseq_read (shown P) c ≡ aseq P c
  pub on : (c : ℕ) → is_cpu (shown P) c ≡ true → reads.on (shown P) c ≡ P.on c

-- the thread is known, alive and on no CPU, its home queue holds nothing of it, and n is the number of its last message
pub record IsExactAssociate (P : PlainKernel) (t n : ℕ) : Type 0 where
  pub known : is_known P t ≡ true
  pub current : n ≡ number P t
  pub alive : phase_of (kinds P t) ≢ Some Dead
  pub nothing_waits : is_pending (shown P) t ≡ false
  pub idle : place_of P t ≡ None

-- n is the count of all posts to the CPU's queue, the CPU is idle, and the thread is ready, at home and allowed there,
-- and on no CPU
pub record IsExactCommit (P : PlainKernel) (c t n : ℕ) : Type 0 where
  pub current : n ≡ aseq P c
  pub idle : P.on c ≡ None
  pub ready : phase_of (kinds P t) ≡ Some Ready
  pub home : P.home t ≡ c
  pub allowed : option_map_or (λ mask. allows mask c) (mask_of (kinds P t)) false ≡ true
  pub nowhere : place_of P t ≡ None

-- of every plain kernel
abbrev pub ReadsArePlain : Type 0
ReadsArePlain = (P : PlainKernel) → ArePlainReads P

-- an associate that is accepted is exact, on every plain kernel
abbrev pub AcceptedAssociatesAreExact : Type 0
AcceptedAssociatesAreExact =
    (P : PlainKernel) (t q n : ℕ) → refused (shown P) (associates t q n) ≡ None → IsExactAssociate P t n

-- a commit that is accepted is exact, on every plain kernel
abbrev pub AcceptedCommitsAreExact : Type 0
AcceptedCommitsAreExact =
    (P : PlainKernel) (c t n : ℕ) → refused (shown P) (commits c t n) ≡ None → IsExactCommit P c t n
