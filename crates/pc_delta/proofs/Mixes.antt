-- Views that took in one set after another.
use Rattle.std.proofs.Common.{◌≡◌, ◌||◌, List, [], ◌∷◌, ap, sym, ◌∙◌, subst}
use Rattle.pc_messages.specs.Run.{Run}
use Rattle.pc_join.specs.Sets.{IsSameSet, IsUnion, Members}
use Rattle.pc_view.specs.declared.view.View.{View}
use Rattle.pc_view.specs.Views.{IsOfRun, pairs_of, source_of}
use Rattle.pc_view.specs.Inner.ViewLaws.{unique_view}
use Rattle.pc_delta.specs.declared.part.Part.{Part}
use Rattle.pc_delta.specs.Parts.{AreOfRun, set_of}
use Rattle.pc_delta.specs.Exchange.{IsTakenIn, Takes, TakesEach, all_of}
use Rattle.pc_join.proofs.Joins.{or_assoc}
use Rattle.pc_messages.proofs.Bools.{or_none}

pub delta_taken : (run : Run) (parts : List Part) (old new : View) → AreOfRun run parts → IsTakenIn parts old new → Takes run (set_of parts) old new
delta_taken run parts old new of_parts taken = record { union = taken.union; of_run = λ of_old. taken.of_run run of_old of_parts }

pub mix_union : (run : Run) (sets : List Members) (old new : View) → TakesEach run sets old new → IsUnion (pairs_of old) (all_of sets) (pairs_of new)
mix_union run [] old new e m = ap (λ v. pairs_of v m) e ∙ sym (or_none (pairs_of old m))
mix_union run (set ∷ sets) old new (mid, one, rest) m = mix_union run sets mid new rest m ∙ ap (λ b. b || all_of sets m) (one.union m) ∙ or_assoc (pairs_of old m) (set m) (all_of sets m)

pub mix_of_run : (run : Run) (sets : List Members) (old new : View) → TakesEach run sets old new → IsOfRun run old → IsOfRun run new
mix_of_run run [] old new e of_old = subst (IsOfRun run) (sym e) of_old
mix_of_run run (set ∷ sets) old new (mid, one, rest) of_old = mix_of_run run sets mid new rest (one.of_run of_old)

pub mix_equal : (run : Run) (sets others : List Members) (before after start end : View) → IsOfRun run before → IsOfRun run start → TakesEach run sets before after → TakesEach run others start end
    → IsSameSet (λ m. pairs_of before m || all_of sets m) (λ m. pairs_of start m || all_of others m) → after ≡ end
mix_equal run sets others before after start end of_before of_start took their same =
    unique_view (source_of run) after end (mix_of_run run sets before after took of_before) (mix_of_run run others start end their of_start)
    (λ m. mix_union run sets before after took m ∙ same m ∙ sym (mix_union run others start end their m))
