use Rattle.std.proofs.Common.{◌≡◌, ◌==◌, ◌∙◌, true, Some, is_some, sym, ap}
use Rattle.std.proofs.lemmas.Bool.{eqb-true}
use Rattle.pc_messages.specs.State.{phase_of}
use Rattle.pc_messages.specs.declared.reported.Phase.TheVariants.{Dead}
use Rattle.pc_calls.specs.AgentCalls.{associates}
use Rattle.pc_kernel.specs.PlainKernel.{is_known, place_of}
use Rattle.pc_kernel.specs.Reads.{shown}
use Rattle.pc_kernel.specs.Reads as reads
use Rattle.pc_kernel.specs.Steps.{refusals, is_dead}
use Rattle.pc_kernel.proofs.AlwaysCalls.{known_of, not_false, not_some}
use Rattle.pc_kernel.proofs.Refusals.{associate_passes, none_hold}
use Rattle.pc_kernel.proofs.ShownReads.{shown-kinds, shown-number, shown-place}
use Rattle.pc_kernel.proofs.laws.accepted_associates_are_exact.Goals as goal

pub returns : goal.returns
returns c P t q n accepted =
    let passes = associate_passes (shown P) t q n (none_hold (refusals (shown P) (associates t q n)) accepted) in
    let known : is_known P t ≡ true = known_of P t passes.known in
    record {
      known = known;
      current = eqb-true n (reads.number_read (shown P) t) (not_false (n == reads.number_read (shown P) t) passes.current) ∙ shown-number P t;
      alive = λ dead.
          let told : is_dead (Some Dead) ≡ is_dead (reads.phase (shown P) t) = ap is_dead (sym dead ∙ ap phase_of (sym (shown-kinds P t))) in
          let not_told = passes.alive in cc;
      nothing_waits = passes.nothing_waits;
      idle = not_some (place_of P t) (ap is_some (sym (shown-place P t known)) ∙ passes.idle);
    }
