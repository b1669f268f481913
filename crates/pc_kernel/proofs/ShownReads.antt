-- What can be read of a plain kernel, in its own words.
use Rattle.std.proofs.Common.{◌≡◌, ℕ, true, false, nat_lt, List, [], ◌∷◌, length, Some, None, is_some, refl, sym, ap, arith, if◌then◌else◌}
use Rattle.std.specs.Option.{option_map_or, option_and_then}
use Rattle.std.proofs.lemmas.Bool.{lt-ltb}
use Rattle.pc_messages.specs.declared.kind.Kind.{Kind}
use Rattle.pc_kernel.specs.Rows.{ThreadRow, CpuRow}
use Rattle.pc_kernel.specs.PlainKernel.{PlainKernel}
use Rattle.pc_kernel.specs.PlainKernel as plain
use Rattle.pc_kernel.specs.Reads.{shown, thread_row, cpu_row, is_known, kinds_read, number_read, home, place, is_cpu, aseq_read, content_read, on}

-- a list is empty where it is not longer than nothing
empty_list : (ks : List Kind) → nat_lt 0 (length ks) ≡ false → ks ≡ []
empty_list [] e = refl
empty_list (k ∷ ks) e = let t : nat_lt 0 (length (k ∷ ks)) ≡ true = lt-ltb 0 (length (k ∷ ks)) (omega arith) in cc

pub shown-is_known : (P : PlainKernel) (t : ℕ) → is_known (shown P) t ≡ plain.is_known P t
shown-is_known P t = elim (plain.is_known P t) as (λ b. is_some (if b then Some (thread_row P t) else None) ≡ b) [ true ↦ refl | false ↦ refl ]

pub unknown_kinds : (P : PlainKernel) (t : ℕ) → plain.is_known P t ≡ false → plain.kinds P t ≡ []
unknown_kinds P t e = empty_list (plain.kinds P t) e

pub shown-kinds : (P : PlainKernel) (t : ℕ) → kinds_read (shown P) t ≡ plain.kinds P t
shown-kinds P t =
    elim (plain.is_known P t) as (λ b. plain.is_known P t ≡ b → option_map_or (λ (row : ThreadRow). row.kinds) (if b then Some (thread_row P t) else None) [] ≡ plain.kinds P t) [
      | true ↦ λ e. refl
      | false ↦ λ e. sym (unknown_kinds P t e)
    ] refl

pub shown-number : (P : PlainKernel) (t : ℕ) → number_read (shown P) t ≡ plain.number P t
shown-number P t = ap length (shown-kinds P t)

pub shown-home : (P : PlainKernel) (t : ℕ) → plain.is_known P t ≡ true → home (shown P) t ≡ P.home t
shown-home P t e = ap (λ b. option_map_or (λ (row : ThreadRow). row.home) (if b then Some (thread_row P t) else None) 0) e

pub shown-place : (P : PlainKernel) (t : ℕ) → plain.is_known P t ≡ true → place (shown P) t ≡ plain.place_of P t
shown-place P t e = ap (λ b. option_and_then (λ (row : ThreadRow). row.on) (if b then Some (thread_row P t) else None)) e

pub shown-on : (P : PlainKernel) (c : ℕ) → is_cpu (shown P) c ≡ true → on (shown P) c ≡ P.on c
shown-on P c e = ap (λ b. option_and_then (λ (row : CpuRow). row.on) (if b then Some (cpu_row P c) else None)) e

pub shown-content : (P : PlainKernel) (c : ℕ) → is_cpu (shown P) c ≡ true → content_read (shown P) c ≡ plain.content P c
shown-content P c e = ap (λ b. option_map_or (λ (row : CpuRow). row.content) (if b then Some (cpu_row P c) else None) []) e

pub shown-aseq : (P : PlainKernel) (c : ℕ) → is_cpu (shown P) c ≡ true → aseq_read (shown P) c ≡ plain.aseq P c
shown-aseq P c e = ap (λ b. option_map_or (λ (row : CpuRow). row.posts) (if b then Some (cpu_row P c) else None) 0) e
