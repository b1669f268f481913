-- What a post to one of the kernel's CPUs is to a plain kernel that the kernel shows.
use Rattle.std.proofs.Common.{◌≡◌, ◌∙◌, ℕ, ◌+◌, ◌<◌, ◌≤◌, ◌==◌, Bool, true, false, not, ◌&&◌, nat_lt, List, [], ◌∷◌, ◌++◌, map, Option, Some, None, is_some, slice_get, refl, sym, ap, inl, inr, if◌then◌else◌}
use Rattle.std.specs.Option.{option_map, option_map_or}
use Rattle.std.proofs.lemmas.Bool.{lt-ltb}
use Rattle.std.proofs.lemmas.Bool.Decides.{eqb_tells}
use Rattle.std.proofs.lemmas.List.{append-nil}
use Rattle.std.proofs.lemmas.Option.{slice_get-map, same_Some}
use Rattle.pc_messages.specs.declared.message.Item.{Item}
use Rattle.pc_kernel.specs.declared.cpus.CpuEntry.{CpuEntry}
use Rattle.pc_kernel.specs.declared.cpus.Landing.{Landing}
use Rattle.pc_kernel.specs.Inner.Entries.{row_of, roused_entry, given_entry, sleeps_in, IsPosted}
use Rattle.pc_kernel.specs.PlainKernel.{PlainKernel, is_named}
use Rattle.pc_kernel.specs.PlainKernel as plain
use Rattle.pc_kernel.specs.Reads.{cpu_row, shown}
use Rattle.pc_kernel.specs.Rows.{CpuRow}
use Rattle.pc_kernel.specs.Steps.{roused, woken_of, woken, posted}
use Rattle.pc_kernel.proofs.Posting.{if_to, content-posted, if_to_same, if_to_other, aseq-posted_same, aseq-posted_other}

-- the rows of CPUs are the plain kernel's
abbrev pub ShowsCpus : List CpuEntry → PlainKernel → Type 0
ShowsCpus cpus P = (c : ℕ) → slice_get (map row_of cpus) c ≡ (shown P).cpu c

-- a CPU's row after a post to queue q, which wakes the agent named
abbrev row_after : Option ℕ → ℕ → Item → ℕ → CpuRow → CpuRow
row_after agent q it c row =
    record {
      posts = if c == q then row.posts + 1 else row.posts;
      content = if c == q then row.content ++ it ∷ [] else row.content;
      target = row.target;
      on = row.on;
      asleep = row.asleep && not (is_named agent c);
    }

row_of_given : (agent : Option ℕ) (q : ℕ) (it : Item) (c : ℕ) (e : CpuEntry) → row_of (roused_entry agent c (given_entry q it c e)) ≡ row_after agent q it c (row_of e)
row_of_given agent q it c e = elim (eqb_tells c q) [ inl h ↦ rw h.0 refl | inr h ↦ rw h.0 refl ]

rows_of_given : (agent : Option ℕ) (q : ℕ) (it : Item) (c : ℕ) (o : Option CpuEntry)
    → option_map row_of (option_map (λ e. roused_entry agent c (given_entry q it c e)) o) ≡ option_map (row_after agent q it c) (option_map row_of o)
rows_of_given agent q it c None = refl
rows_of_given agent q it c (Some e) = ap (λ row. Some row) (row_of_given agent q it c e)

-- each field of a CPU's row after the post
posts_after : (P : PlainKernel) (q : ℕ) (it : Item) (c : ℕ) → (if c == q then plain.aseq P c + 1 else plain.aseq P c) ≡ plain.aseq (posted P q it) c
posts_after P q it c = elim (eqb_tells c q) [
  | inl h ↦ rw (h.0, h.1) (sym (aseq-posted_same P q it))
  | inr h ↦ rw h.0 (sym (aseq-posted_other P q c it (λ e. h.1 (sym e))))
]

content_after : (P : PlainKernel) (q : ℕ) (it : Item) (c : ℕ) → P.eaten c ≤ plain.aseq P c → (if c == q then plain.content P c ++ it ∷ [] else plain.content P c) ≡ plain.content (posted P q it) c
content_after P q it c eaten = elim (eqb_tells c q) [
  | inl h ↦ rw h.0 (sym (content-posted P q it c eaten ∙ ap (λ n. plain.content P c ++ if_to q n it) h.1 ∙ ap (λ xs. plain.content P c ++ xs) (if_to_same q it)))
  | inr h ↦ rw h.0 (sym (content-posted P q it c eaten ∙ ap (λ xs. plain.content P c ++ xs) (if_to_other q c it (λ e. h.1 (sym e))) ∙ append-nil (plain.content P c)))
]

and_true : (b : Bool) → (b && true) ≡ b
and_true true = refl
and_true false = refl

and_false : (b : Bool) → (b && false) ≡ false
and_false true = refl
and_false false = refl

asleep_after : (slept : ℕ → Option ℕ) (agent : Option ℕ) (c : ℕ) → (is_some (slept c) && not (is_named agent c)) ≡ is_some (roused slept agent c)
asleep_after slept None c = and_true (is_some (slept c))
asleep_after slept (Some d) c = elim (eqb_tells c d) [
  | inl h ↦ elim (eqb_tells d c) [ inl g ↦ rw (h.0, g.0) (and_false (is_some (slept c))) | inr g ↦ absurd (g.1 (sym h.1)) ]
  | inr h ↦ elim (eqb_tells d c) [ inl g ↦ absurd (h.1 (sym g.1)) | inr g ↦ rw (h.0, g.0) (and_true (is_some (slept c))) ]
]

cpu_row_after : (P : PlainKernel) (q : ℕ) (it : Item) (c : ℕ) → P.eaten c ≤ plain.aseq P c → row_after (P.target q) q it c (cpu_row P c) ≡ cpu_row (posted P q it) c
cpu_row_after P q it c eaten =
    let posts = posts_after P q it c in
    let content = content_after P q it c eaten in
    let asleep = asleep_after P.slept (P.target q) c in
    λ i. record { posts = posts i; content = content i; target = P.target c; on = P.on c; asleep = asleep i }

-- the row of a CPU that is there
pub cpu_shown : (cpus : List CpuEntry) (P : PlainKernel) → ShowsCpus cpus P → (c : ℕ) (e : CpuEntry) → slice_get cpus c ≡ Some e → (nat_lt c P.limits.cpus ≡ true) × (row_of e ≡ cpu_row P c)
cpu_shown cpus P shows c e there =
    elim (nat_lt c P.limits.cpus) as (λ b. slice_get (map row_of cpus) c ≡ (if b then Some (cpu_row P c) else None) → (b ≡ true) × (row_of e ≡ cpu_row P c)) [
      | true ↦ λ h. (refl, same_Some (row_of e) (cpu_row P c) (sym (slice_get-map row_of cpus c ∙ ap (option_map row_of) there) ∙ h))
      | false ↦ λ h. let none : Some (row_of e) ≡ None = sym (slice_get-map row_of cpus c ∙ ap (option_map row_of) there) ∙ h in cc
    ] (shows c)

pub cpus_posted : (old new : List CpuEntry) (P : PlainKernel) (q : ℕ) (it : Item) (landing : Landing) → IsPosted old new q it landing → ShowsCpus old P → ((c : ℕ) → P.eaten c ≤ plain.aseq P c) → ShowsCpus new (posted P q it)
cpus_posted old new P q it landing h shows eaten c =
    let target : h.entry.target ≡ P.target q = ap (λ (row : CpuRow). row.target) (cpu_shown old P shows q h.entry h.there).1 in
    slice_get-map row_of new c
    ∙ ap (option_map row_of) (h.each c)
    ∙ rows_of_given h.entry.target q it c (slice_get old c)
    ∙ ap (option_map (row_after h.entry.target q it c)) (sym (slice_get-map row_of old c) ∙ shows c)
    ∙ elim (nat_lt c P.limits.cpus) as (λ b. option_map (row_after h.entry.target q it c) (if b then Some (cpu_row P c) else None) ≡ (if b then Some (cpu_row (posted P q it) c) else None)) [
      | true ↦ ap (λ row. Some row) (ap (λ agent. row_after agent q it c (cpu_row P c)) target ∙ cpu_row_after P q it c (eaten c))
      | false ↦ refl
    ]

-- the agent that the code wakes is the one that the post wakes
pub cpus_woken : (cpus : List CpuEntry) (P : PlainKernel) → ShowsCpus cpus P → (agent : Option ℕ) → ((c : ℕ) → agent ≡ Some c → c < P.limits.cpus)
    → woken_of (sleeps_in cpus) agent ≡ woken_of (λ c. is_some (P.slept c)) agent
cpus_woken cpus P shows None there = refl
cpus_woken cpus P shows (Some c) there =
    ap (λ b. if b then Some c else None) (
    sleeps (slice_get cpus c)
    ∙ ap (λ (o : Option CpuRow). option_map_or (λ row. row.asleep) o false) (sym (slice_get-map row_of cpus c) ∙ shows c ∙ ap (λ b. if b then Some (cpu_row P c) else None) (lt-ltb c P.limits.cpus (there c refl))))
  where
    sleeps : (o : Option CpuEntry) → option_map_or (λ (e : CpuEntry). e.asleep) o false ≡ option_map_or (λ (row : CpuRow). row.asleep) (option_map row_of o) false
    sleeps None = refl
    sleeps (Some e) = refl

-- where the post came to stand
pub landed : (old new : List CpuEntry) (P : PlainKernel) (q : ℕ) (it : Item) (landing : Landing) (h : IsPosted old new q it landing) → ShowsCpus old P → ((c : ℕ) → h.entry.target ≡ Some c → c < P.limits.cpus)
    → (landing.aseq ≡ plain.aseq P q + 1) × (landing.woken ≡ woken P q)
landed old new P q it landing h shows there =
    let row = (cpu_shown old P shows q h.entry h.there).1 in (
      h.aseq ∙ ap (λ (row : CpuRow). row.posts + 1) row,
      h.woken ∙ cpus_woken old P shows h.entry.target there ∙ ap (λ (row : CpuRow). woken_of (λ c. is_some (P.slept c)) row.target) row,
    )
