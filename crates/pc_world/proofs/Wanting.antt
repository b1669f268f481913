-- What want of memory leaves of mending: queues may have lost items, and nothing else of the kernel changed.
use Rattle.std.proofs.Common.{◌≡◌, ℕ, Bool, true, false, List, [], ◌∷◌, ◌++◌, inl, inr, Option, Some, None, is_some, if◌then◌else◌, option_and_then, refl, sym, ◌∙◌, ap, subst}
use Rattle.pc_calls.specs.declared.event.Event.{Event}
use Rattle.pc_calls.specs.declared.event.Event.TheVariants as event
use Rattle.pc_calls.specs.declared.event.Reply.{Reply}
use Rattle.pc_kernel.specs.PlainKernel.{PlainKernel, aseq}
use Rattle.pc_kernel.specs.Reads.{Reads, shown, is_cpu, cpu_row, on}
use Rattle.pc_kernel.specs.Rows.{CpuRow}
use Rattle.pc_agent.specs.PlainAgent.{Set}
use Rattle.pc_world.specs.declared.parts.Parts.{Parts}
use Rattle.pc_world.specs.Mending.{IsIdle, learning}
use Rattle.pc_world.specs.Mends.{MendsInPart, RanOutInMending, RunsTheSame, ShowsIdle}
use Rattle.pc_world.specs.PlainWorld.{PlainWorld}
use Rattle.pc_world.specs.RanOut.{IsWidened, RanOut}
use Rattle.pc_world.specs.Shows.{IsReached}
use Rattle.pc_world.specs.Steps.{Runs, Step}
use Rattle.pc_world.specs.Inner.Laws.{KernelLaws}
use Rattle.pc_world.proofs.Determined.{Each}
use Rattle.pc_world.proofs.Mends.{Picks, learning_quiet, pick_tells}
use Rattle.pc_world.proofs.Staying.{IsQuiet, Stays, aseq_still, idle_still, stays_on, stays_so, step_stays}

-- an event of mending that finds no memory leaves the kernel as it was
widened_same : (w new : PlainWorld) (c : ℕ) (more : Set) → IsWidened w c more new → new.kernel ≡ w.kernel
widened_same w new c more widened = ap (λ (x : PlainWorld). x.kernel) widened.after

left_same : (w new : PlainWorld) (e : Event) → IsQuiet e → RanOut w e new → new.kernel ≡ w.kernel
left_same w new (event.Publish c false) is out = elim out.1 [
  | inl widened ↦ ap (λ (x : PlainWorld). x.kernel) widened.after
  | inr copied ↦ ap (λ (x : PlainWorld). x.kernel) copied
]
left_same w new (event.Publish c true) is out = absurd is
left_same w new (event.Consume c) is out = absurd out
left_same w new (event.Deliver c k) is out = widened_same w new c out.1 out.3
left_same w new (event.Steal c) is out = ap (λ (x : PlainWorld). x.kernel) out.4
left_same w new (event.Pick c n) is out = absurd is
left_same w new (event.Env made) is out = absurd is
left_same w new (event.Agent made) is out = absurd is
left_same w new (event.Answer c asker) is out = absurd is
left_same w new (event.Crash c) is out = absurd is

-- nothing runs on a CPU of which this is read
reads_free : (o : Option ℕ) → is_some o ≡ false → (t : ℕ) → o ≡ Some t → ⊥
reads_free None free t e = cc
reads_free (Some u) free t e = cc

module _ (laws : KernelLaws) (c n : ℕ) where
  abbrev rest : List Event
  rest = event.Pick c n ∷ event.Steal c ∷ event.Pick c n ∷ []

  -- a steal that finds no memory has an idle CPU, so the pick before it committed nothing
  pick_stays : (x reached new : PlainWorld) (told : Reply) → IsIdle x.kernel c → n ≡ aseq x.kernel c → Step x (event.Pick c n) told reached → RanOut reached (event.Steal c) new → Stays x.kernel new.kernel
  pick_stays x reached new told idle count step out = by_pick (pick_tells laws x reached c n told idle count step)
    where
      runs_none : (t : ℕ) → reached.kernel.on c ≡ Some t → ⊥
      runs_none t runs = reads_free (on (shown reached.kernel) c) out.1 t ((laws.reads reached.kernel).on c out.0 ∙ runs)

      by_pick : Picks x c told reached → Stays x.kernel new.kernel
      by_pick (inl picked) = absurd (runs_none picked.0 picked.2)
      by_pick (inr none) = stays_so x.kernel new.kernel (ap (λ (y : PlainWorld). y.kernel) out.4 ∙ none.1)

  -- quiet events, and then the picks and the steal: of which some first were done, and the next one found no memory
  stays_until : (x reached new : PlainWorld) (quiet done after : List Event) (next : Event) (replies : List Reply) → Each IsQuiet quiet → IsIdle x.kernel c → n ≡ aseq x.kernel c
      → quiet ++ rest ≡ done ++ next ∷ after → Runs x done replies reached → RanOut reached next new → Stays x.kernel new.kernel
  stays_until x reached new [] [] after next replies is idle count order ran out =
      let first : event.Pick c n ≡ next = cc in
      absurd (subst (λ e. RanOut reached e new) (sym first) out)
  stays_until x reached new [] (d ∷ []) after next [] is idle count order ran out = absurd ran
  stays_until x reached new [] (d ∷ []) after next (told ∷ []) is idle count order ran out =
      let first : event.Pick c n ≡ d = cc in
      let second : event.Steal c ≡ next = cc in
      let picked : Step x d told reached = subst (λ y. Step x d told y) (sym ran.2) ran.1 in
      pick_stays x reached new told idle count (subst (λ e. Step x e told reached) (sym first) picked) (subst (λ e. RanOut reached e new) (sym second) out)
  stays_until x reached new [] (d ∷ []) after next (told ∷ u ∷ r) is idle count order ran out = absurd ran.2
  stays_until x reached new [] (d ∷ e ∷ []) after next replies is idle count order ran out =
      let third : event.Pick c n ≡ next = cc in
      absurd (subst (λ e. RanOut reached e new) (sym third) out)
  stays_until x reached new [] (d ∷ e ∷ f ∷ []) after next replies is idle count order ran out = cc
  stays_until x reached new [] (d ∷ e ∷ f ∷ g ∷ done) after next replies is idle count order ran out = cc
  stays_until x reached new (q ∷ quiet) [] after next [] is idle count order ran out =
      let first : q ≡ next = cc in
      stays_so x.kernel new.kernel (left_same reached new next (subst IsQuiet first is.0) out ∙ ap (λ (y : PlainWorld). y.kernel) ran)
  stays_until x reached new (q ∷ quiet) [] after next (told ∷ r) is idle count order ran out = absurd ran
  stays_until x reached new (q ∷ quiet) (d ∷ done) after next [] is idle count order ran out = absurd ran
  stays_until x reached new (q ∷ quiet) (d ∷ done) after next (told ∷ r) is idle count order ran out =
      let first : q ≡ d = cc in
      let others : quiet ++ rest ≡ done ++ next ∷ after = cc in
      let once = step_stays x ran.0 d told (subst IsQuiet first is.0) ran.1 in
      stays_on x.kernel ran.0.kernel new.kernel once
      (stays_until ran.0 reached new quiet done after next r is.1 (idle_still x.kernel ran.0.kernel c once idle) (count ∙ aseq_still x.kernel ran.0.kernel c once) others ran.2 out)

pub stays_in_mending : (laws : KernelLaws) (w new : PlainWorld) (c : ℕ) → RanOutInMending w c new → Stays w.kernel new.kernel
stays_in_mending laws w new c out =
    let cut = out.1 in
    stays_until laws c (aseq w.kernel c) w cut.reached new (learning w c) cut.done cut.rest cut.next cut.replies (learning_quiet w c) out.0 refl cut.order cut.ran cut.found_none

-- what runs is read alike of two kernels that differ in what was consumed, and in homes
by_there : (there : Bool) (a b : CpuRow) → a.on ≡ b.on → option_and_then (λ (row : CpuRow). row.on) (if there then Some a else None) ≡ option_and_then (λ (row : CpuRow). row.on) (if there then Some b else None)
by_there true a b same = same
by_there false a b same = refl

on_still : (P Q : PlainKernel) (d : ℕ) → Stays P Q → on (shown Q) d ≡ on (shown P) d
on_still P Q d stays =
    let R = record P { eaten = stays.eaten; home = stays.home } in
    ap (λ (K : PlainKernel). on (shown K) d) stays.is ∙ by_there (is_cpu (shown P) d) (cpu_row R d) (cpu_row P d) refl

module _ (laws : KernelLaws) (old new : Parts) (c : ℕ) (part : MendsInPart c old new) where
  pub runs_the_same : RunsTheSame old new
  runs_the_same w v h k d =
      let left = part w h in
      let same : shown v.kernel ≡ shown left.0.kernel = sym k.kernel.reads ∙ left.2.kernel.reads in
      ap (λ (r : Reads). on r d) same ∙ on_still w.kernel left.0.kernel d (stays_in_mending laws w left.0 c left.1)

  pub shows_idle : IsReached old → ShowsIdle c new
  shows_idle reached v k =
      let left = part reached.plain reached.shows in
      let idle = idle_still reached.plain.kernel left.0.kernel c (stays_in_mending laws reached.plain left.0 c left.1) left.1.0 in
      let same : shown left.0.kernel ≡ shown v.kernel = sym left.2.kernel.reads ∙ k.kernel.reads in
      let there : is_cpu (shown v.kernel) c ≡ true = sym (ap (λ (r : Reads). is_cpu r c) same) ∙ idle.there in
      record {
        there = there;
        idle = sym ((laws.reads v.kernel).on c there) ∙ sym (ap (λ (r : Reads). on r c) same) ∙ (laws.reads left.0.kernel).on c idle.there ∙ idle.idle;
      }
