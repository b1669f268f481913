-- The kernel at the start.
use Rattle.std.proofs.Common.{◌≡◌, ◌∙◌, ℕ, ◌<◌, ◌≤◌, List, [], length, Some, None, slice_get, refl, sym, ap, subst, arith, inl, inr}
use Rattle.std.proofs.lemmas.List.{length-map}
use Rattle.std.proofs.lemmas.Bool.{cases_lt, lt-ltb, le-ltb}
use Rattle.std.proofs.lemmas.Option.{slice_get-map, slice_get_within, slice_get_past, same_Some}
use Rattle.pc_calls.specs.declared.limits.Limits.{Limits}
use Rattle.pc_calls.specs.declared.limits.Profile.TheVariants.{Two}
use Rattle.pc_kernel.specs.declared.cpus.CpuEntry.{CpuEntry}
use Rattle.pc_calls.specs.Limits.{bad_field}
use Rattle.pc_messages.specs.Items.{IsItemOf}
use Rattle.pc_kernel.specs.Reads.{seen, kinds_read}
use Rattle.std.proofs.lemmas.List.Elements.{All-nil}
use Rattle.pc_kernel.specs.PlainKernel.{start}
use Rattle.pc_kernel.specs.Rows.{ThreadRow, CpuRow}
use Rattle.pc_kernel.specs.Inner.Entries.{row_of, rows, fresh_cpu, IsKernel}
use Rattle.pc_kernel.specs.Inner.LastPosts.{AreTables}
use Rattle.pc_kernel.specs.Sound.{IsCpuRow}
use Rattle.pc_kernel.specs.Answers.{Shows}
use Rattle.pc_kernel.proofs.Ranges.{AreRanges, ranges}
use Rattle.pc_kernel.proofs.Slots.{slice_get_map_some}
use Rattle.pc_kernel.proofs.Shown.{shows_from}

-- the CPUs at the start, at each name
fresh_at : (limits : Limits) (cpus : List CpuEntry) → length cpus ≡ limits.cpus → ((c : ℕ) → c < limits.cpus → slice_get cpus c ≡ Some (fresh_cpu limits c))
    → (c : ℕ) (e : CpuEntry) → slice_get cpus c ≡ Some e → (c < limits.cpus) × (e ≡ fresh_cpu limits c)
fresh_at limits cpus count each c e is =
    let l : c < limits.cpus = let w = slice_get_within cpus c e is in omega arith in
    (l, same_Some e (fresh_cpu limits c) (sym is ∙ each c l))

fresh_row : (limits : Limits) (threads : List ThreadRow) (cpus : List CpuEntry) (c : ℕ) → AreRanges limits → c < limits.cpus → IsCpuRow (rows limits threads cpus) (row_of (fresh_cpu limits c))
fresh_row limits threads cpus c h l = record {
  room = omega arith;
  held = omega arith;
  posts = omega arith;
  target = λ d e. let same : c ≡ d = cc in omega arith;
  on = λ t e. cc;
  of_run = All-nil (IsItemOf (kinds_read (seen (rows limits threads cpus))));
  tellable = record { well_formed = λ m w. absurd (omega (arith, w.1)); alike = λ m n w. absurd (omega (arith, w.1)) };
}

begins : (limits : Limits) (cpus : List CpuEntry) → bad_field Two limits ≡ None → length cpus ≡ limits.cpus → ((c : ℕ) → c < limits.cpus → slice_get cpus c ≡ Some (fresh_cpu limits c)) → IsKernel limits [] cpus
begins limits cpus h count each = record {
  sound = record {
    limits = h;
    cpus = length-map cpus row_of ∙ count;
    threads = omega arith;
    thread = λ t row e. cc;
    cpu = λ c row e.
        let from = slice_get_map_some row_of cpus c row e in
        let at = fresh_at limits cpus count each c from.0 from.1 in
        let P : CpuRow → Type 0 = IsCpuRow (rows limits [] cpus) in
        subst P (ap row_of (sym at.1) ∙ from.2) (fresh_row limits [] cpus c (ranges limits h) at.0);
  };
  queues = λ c e is. let at = fresh_at limits cpus count each c e is in rw at.1 (refl, refl);
  placed = λ c t e is on. let at = fresh_at limits cpus count each c e is in let none : None ≡ Some t = sym (ap (λ (e : CpuEntry). e.running) at.1) ∙ on in cc;
}

pub begins_shows : (limits : Limits) (cpus : List CpuEntry) → length cpus ≡ limits.cpus → ((c : ℕ) → c < limits.cpus → slice_get cpus c ≡ Some (fresh_cpu limits c)) → Shows (rows limits [] cpus) (start limits)
begins_shows limits cpus count each = shows_from (rows limits [] cpus) (start limits) record {
  limits = refl;
  count = refl;
  thread = λ t. refl;
  cpu = λ c. slice_get-map row_of cpus c ∙ elim (cases_lt c limits.cpus) [
    | inl l ↦ rw (each c l, lt-ltb c limits.cpus l) refl
    | inr l ↦ let past : length cpus ≤ c = omega arith in rw (slice_get_past cpus c past, le-ltb c limits.cpus l) refl
  ];
  eaten = λ q. omega arith;
}

-- no thread has an item
pub tables_begin : (limits : Limits) (cpus : List CpuEntry) → bad_field Two limits ≡ None → length cpus ≡ limits.cpus → ((c : ℕ) → c < limits.cpus → slice_get cpus c ≡ Some (fresh_cpu limits c)) → AreTables limits [] cpus
tables_begin limits cpus h count each = record {
  kernel = begins limits cpus h count each;
  last_posts = λ t q e is. let at = fresh_at limits cpus count each q e is in rw at.1 refl;
}
