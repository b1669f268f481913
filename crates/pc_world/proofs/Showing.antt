-- What a kernel and a view tell that show those of a world.
use Rattle.std.proofs.Common.{◌≡◌, ◌∙◌, ℕ, ◌≤◌, List, [], ◌∷◌, Some, None, length, nat_lt, option_and_then, if◌then◌else◌, ap, refl, sym, subst, arith, IsTrue}
use Rattle.std.proofs.lemmas.Bool.{lt-ltb}
use Rattle.pc_messages.specs.Run.{Run}
use Rattle.pc_messages.specs.State.{state_of}
use Rattle.pc_messages.specs.declared.kind.Kind.{Kind}
use Rattle.pc_join.specs.Sets.{IsSameSet, as_members}
use Rattle.pc_kernel.specs.Exact.{ReadsArePlain}
use Rattle.pc_kernel.specs.PlainKernel.{PlainKernel, kinds, number}
use Rattle.pc_kernel.specs.Reads.{is_known, kinds_read, reported_of, seen, shown, thread_row}
use Rattle.pc_kernel.specs.Rows.{KernelRows, ThreadRow}
use Rattle.pc_view.specs.Audit.{IsComplete}
use Rattle.pc_view.specs.Prefixes.{reported_in, reports, upto, upto_of}
use Rattle.pc_view.specs.Views.{IsOfRun, pairs_of}
use Rattle.pc_view.specs.declared.view.View.{View}
use Rattle.pc_agent.specs.PlainAgent.{Set}
use Rattle.pc_world.specs.Callers.{AreShown}
use Rattle.pc_world.specs.PlainWorld.{PlainWorld}

abbrev pub UptosAreTold : Type 0
UptosAreTold = (run : Run) (set : Set) (view : View) (t : ℕ) → IsOfRun run view → IsSameSet (pairs_of view) (as_members set) → upto_of view t ≡ upto set t

abbrev pub ReportsAreTold : Type 0
ReportsAreTold = (run : Run) (set : Set) (view : View) (t : ℕ) → IsOfRun run view → IsSameSet (pairs_of view) (as_members set) → reported_in view t ≡ reports run set t

-- what is reported of a thread is what its messages report; of one that is not known nothing is
by_kinds : (ks : List Kind) (row : ThreadRow) → row.kinds ≡ ks
    → option_and_then (λ r. state_of r.kinds) (if nat_lt 0 (length ks) then Some row else None) ≡ state_of ks
by_kinds [] row is = refl
by_kinds (k ∷ ks) row is =
    ap (λ b. option_and_then (λ r. state_of r.kinds) (if b then Some row else None)) (lt-ltb 0 (length (k ∷ ks)) (omega arith)) ∙ ap state_of is

plain_reported : (P : PlainKernel) (t : ℕ) → reported_of (shown P) t ≡ state_of (kinds P t)
plain_reported P t = by_kinds (kinds P t) (thread_row P t) refl

module _ (plain : ReadsArePlain) (w : PlainWorld) (c t : ℕ) (kernel : KernelRows) (view : View) (are : AreShown w c kernel view) where
  pub whole : UptosAreTold → number w.kernel t ≤ upto (w.agents c).known t → IsTrue (is_known (seen kernel) t) → IsComplete view (seen kernel) t
  whole uptos all known =
      let told = uptos (kinds w.kernel) (w.agents c).known view t are.of_agent.of_run are.of_agent.known in
      let kinds_same : kinds_read (seen kernel) t ≡ kinds w.kernel t = ap (λ r. kinds_read r t) are.of_kernel.reads ∙ (plain w.kernel).kinds t in
      record { known = known; reached = subst (λ ks. length ks ≤ upto_of view t) (sym kinds_same) (subst (λ n. number w.kernel t ≤ n) (sym told) all) }

  pub reported : ReportsAreTold → reports (kinds w.kernel) (w.agents c).known t ≡ state_of (kinds w.kernel t) → reported_in view t ≡ reported_of (seen kernel) t
  reported told exact =
      told (kinds w.kernel) (w.agents c).known view t are.of_agent.of_run are.of_agent.known ∙ exact
      ∙ sym (plain_reported w.kernel t) ∙ sym (ap (λ r. reported_of r t) are.of_kernel.reads)
