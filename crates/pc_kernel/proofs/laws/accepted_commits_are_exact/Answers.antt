use Rattle.std.proofs.Common.{◌≡◌, ◌==◌, ◌∙◌, true, false, is_some, sym, ap}
use Rattle.std.specs.Option.{option_map_or}
use Rattle.std.proofs.lemmas.Bool.{eqb-true}
use Rattle.pc_messages.specs.Mask.{allows}
use Rattle.pc_messages.specs.State.{phase_of, mask_of}
use Rattle.pc_calls.specs.AgentCalls.{commits}
use Rattle.pc_kernel.specs.PlainKernel.{is_known, place_of, kinds}
use Rattle.pc_kernel.specs.Reads.{shown}
use Rattle.pc_kernel.specs.Reads as reads
use Rattle.pc_kernel.specs.Steps.{refusals, is_ready}
use Rattle.pc_kernel.proofs.AlwaysCalls.{known_of, not_false, not_some, ready_is}
use Rattle.pc_kernel.proofs.Refusals.{commit_passes, none_hold}
use Rattle.pc_kernel.proofs.ShownReads.{shown-kinds, shown-home, shown-place, shown-aseq, shown-on}
use Rattle.pc_kernel.proofs.laws.accepted_commits_are_exact.Goals as goal

pub returns : goal.returns
returns c P cpu t n accepted =
    let passes = commit_passes (shown P) cpu t n (none_hold (refusals (shown P) (commits cpu t n)) accepted) in
    let there : reads.is_cpu (shown P) cpu ≡ true = not_false (reads.is_cpu (shown P) cpu) passes.there in
    let known : is_known P t ≡ true = known_of P t passes.known in
    record {
      current = eqb-true n (reads.aseq_read (shown P) cpu) (not_false (n == reads.aseq_read (shown P) cpu) passes.current) ∙ shown-aseq P cpu there;
      idle = not_some (P.on cpu) (ap is_some (sym (shown-on P cpu there)) ∙ passes.idle);
      ready = ready_is (phase_of (kinds P t)) (ap (λ ks. is_ready (phase_of ks)) (sym (shown-kinds P t)) ∙ not_false (is_ready (reads.phase (shown P) t)) passes.ready);
      home = sym (shown-home P t known) ∙ eqb-true (reads.home (shown P) t) cpu (not_false (reads.home (shown P) t == cpu) passes.at_home);
      allowed = ap (λ ks. option_map_or (λ mask. allows mask cpu) (mask_of ks) false) (sym (shown-kinds P t)) ∙ not_false (reads.is_allowed_on (shown P) t cpu) passes.allowed;
      nowhere = not_some (place_of P t) (ap is_some (sym (shown-place P t known)) ∙ passes.nowhere);
    }
