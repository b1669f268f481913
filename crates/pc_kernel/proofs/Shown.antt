-- That a kernel's rows show a plain kernel, in parts.
use Rattle.std.proofs.Common.{◌≡◌, ℕ, ◌≤◌, length, slice_get, ap}
use Rattle.pc_kernel.specs.PlainKernel.{PlainKernel, threads, aseq}
use Rattle.pc_kernel.specs.Rows.{KernelRows}
use Rattle.pc_kernel.specs.Reads.{Reads, shown}
use Rattle.pc_kernel.specs.Answers.{Shows}

-- the parts of what is shown
pub record ShowsParts (k : KernelRows) (P : PlainKernel) : Type 0 where
  pub limits : k.limits ≡ P.limits
  pub count : length k.threads ≡ threads P
  pub thread : (t : ℕ) → slice_get k.threads t ≡ (shown P).thread t
  pub cpu : (c : ℕ) → slice_get k.cpus c ≡ (shown P).cpu c
  pub eaten : (q : ℕ) → P.eaten q ≤ aseq P q

pub shows_from : (k : KernelRows) (P : PlainKernel) → ShowsParts k P → Shows k P
shows_from k P h = record {
  reads = λ i. record { limits = h.limits i; threads = h.count i; thread = λ t. h.thread t i; cpu = λ c. h.cpu c i };
  eaten = h.eaten;
}

pub shows_parts : (k : KernelRows) (P : PlainKernel) → Shows k P → ShowsParts k P
shows_parts k P h = record {
  limits = ap (λ (r : Reads). r.limits) h.reads;
  count = ap (λ (r : Reads). r.threads) h.reads;
  thread = λ t. ap (λ (r : Reads). r.thread t) h.reads;
  cpu = λ c. ap (λ (r : Reads). r.cpu c) h.reads;
  eaten = h.eaten;
}
