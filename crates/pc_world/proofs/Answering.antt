-- What a world shows after an agent answered another.
use Rattle.std.proofs.Common.{◌≡◌, ℕ, true, List, [], ◌∷◌, ◌++◌, length, Some, Ok, Err, slice_get, refl, sym, ◌∙◌, ap, subst, inl, inr}
use Rattle.std.proofs.lemmas.List.{append-nil}
use Rattle.std.proofs.lemmas.List.Elements.{All-weaker}
use Rattle.pc_messages.specs.Run.{Run}
use Rattle.pc_calls.specs.declared.event.Event.TheVariants as event
use Rattle.pc_calls.specs.declared.event.Reply.TheVariants as replies
use Rattle.pc_join.specs.declared.join.OutOfMemory.{OutOfMemory as NoMemory}
use Rattle.pc_join.specs.Sets.{IsSameSet, Members, as_members, has}
use Rattle.pc_kernel.specs.PlainKernel.{kinds}
use Rattle.pc_kernel.specs.Reads.{shown, is_cpu}
use Rattle.pc_view.specs.declared.view.View.{View}
use Rattle.pc_view.specs.Views.{pairs_of, IsOfRun}
use Rattle.pc_delta.specs.declared.part.Part.{Part}
use Rattle.pc_delta.specs.Exchange.{IsAnswerTo, IsNews}
use Rattle.pc_delta.specs.Parts.{pairs_of_part, pairs_of_parts, set_of, set_of_part}
use Rattle.pc_agent.specs.declared.agent.Agent.{Agent}
use Rattle.pc_agent.specs.declared.kept_wire.KeptWire.{KeptWire}
use Rattle.pc_agent.specs.declared.wire.SendFault.TheVariants as sending
use Rattle.pc_agent.specs.Exchanging.{IsAnswered}
use Rattle.pc_agent.specs.PlainAgent.{Set}
use Rattle.pc_agent.specs.Wires.{Keeps, sent_by}
use Rattle.pc_world.specs.declared.parts.Parts.{Parts}
use Rattle.pc_world.specs.PlainWorld.{PlainWorld}
use Rattle.pc_world.specs.PlainWorld as world
use Rattle.pc_world.specs.Reached.{IsSentLate}
use Rattle.pc_world.specs.Shows.{AnswersDigest, AreSent, IsReached, KeepsSent, ShowsTheSame, ShowsWorld, deltas_of}
use Rattle.pc_world.specs.Steps.{IsAnswerSet, IsAnsweredTo, IsBadCpu, IsNewTo, are_cpus}
use Rattle.pc_world.specs.Steps as steps
use Rattle.pc_world.specs.Inner.Handling.{Handles}
use Rattle.pc_world.specs.Inner.Laws.{KernelLaws}
use Rattle.pc_world.specs.Inner.Places.{IsPlace}
use Rattle.pc_world.proofs.Lasting.{reached_late, reached_same}
use Rattle.pc_world.proofs.Places.{kept_same, match_true, plain_cpu, unchanged}
use Rattle.pc_world.proofs.Sent.{sent_length, sent_more}
use Rattle.pc_messages.proofs.Bools.{both, or_none}

module _ (pairs_law : (parts : List Part) → IsSameSet (set_of parts) (as_members (pairs_of_parts parts))) where
  part_has : (part : Part) (t n : ℕ) → has (pairs_of_part part) t n ≡ set_of_part part (t ∷ n ∷ [])
  part_has part t n =
      ap (λ l. has l t n) (sym (append-nil (pairs_of_part part))) ∙ sym (pairs_law (part ∷ []) (t ∷ n ∷ [])) ∙ or_none (set_of_part part (t ∷ n ∷ []))

  answer_set : (run : Run) (view digest : Set) (agent : View) (asked : Members) (delta : List Part) → IsOfRun run agent → IsSameSet (pairs_of agent) (as_members view)
      → IsSameSet asked (as_members digest) → IsAnswerTo agent asked delta → IsAnswerSet run view digest (pairs_of_parts delta)
  answer_set run view digest agent asked delta of_run mine theirs answer = record {
    parts = delta;
    of_run = answer.of_run run of_run;
    pairs = refl;
    lacking = λ t n v d. sym (pairs_law delta (t ∷ n ∷ [])) ∙ answer.lacking (t ∷ n ∷ []) (mine (t ∷ n ∷ []) ∙ v) (theirs (t ∷ n ∷ []) ∙ d);
    within = λ t n v. sym (mine (t ∷ n ∷ [])) ∙ answer.within (t ∷ n ∷ []) (pairs_law delta (t ∷ n ∷ []) ∙ v);
    none_spare = All-weaker (λ part. IsNews asked (set_of_part part)) (IsNewTo digest)
        (λ part news. (
          news.thread,
          news.number,
          part_has part news.thread news.number ∙ news.told,
          sym (theirs (news.thread ∷ news.number ∷ [])) ∙ news.lacking,
        )) delta answer.none_spare;
  }

  module _ (old new : Parts) (c place : ℕ) (mine : IsPlace old c place) (agent : Agent) (there : slice_get old.agents.items c ≡ Some agent) (kernel : new.kernel ≡ old.kernel)
      (agents : new.agents.items ≡ old.agents.items) (wire : KeptWire) (sent : sent_by wire ≡ deltas_of old) where
    -- what is shown after an answer was sent
    module _ (asked : Members) (said : IsAnswered Keeps agent.view asked (Ok tt) wire new.wire) (w : PlainWorld) (h : ShowsWorld old w) where
      abbrev gained : Set
      gained = pairs_of_parts said.delta

      grown : deltas_of new ≡ deltas_of old ++ said.delta ∷ []
      grown = said.sent.1 ∙ ap (λ l. l ++ said.delta ∷ []) sent

      shows_sent : ShowsWorld new (world.sending w gained)
      shows_sent =
          let same = unchanged old (record new { wire = old.wire }) w kernel agents refl h in record {
            kernel = same.kernel;
            agents = same.agents;
            sent = subst (AreSent (kinds w.kernel) (w.sent ++ gained ∷ [])) (sym grown)
                (sent_more (kinds w.kernel) w.sent (deltas_of old) gained said.delta h.sent record { of_run = said.answers.of_run (kinds w.kernel) (h.agents c agent there).view.of_run; told = pairs_law said.delta });
          }

      is_answered : (index : ℕ) → index ≡ length (deltas_of old) → (set : Set) → IsSameSet asked (as_members set) → IsAnsweredTo set w c (replies.Answered index) (world.sending w gained)
      is_answered index at_end set theirs =
          let was = h.agents c agent there in record {
            set = gained;
            answers = answer_set (kinds w.kernel) (w.agents c).known set agent.view asked said.delta was.view.of_run was.view.known theirs said.answers;
            tells = ap replies.Answered (at_end ∙ sent_length (kinds w.kernel) w.sent (deltas_of old) h.sent);
            after = refl;
          }

      -- it tells nothing that the agent does not know
      is_sent_late : IsSentLate w c (world.sending w gained)
      is_sent_late =
          let known = (h.agents c agent there).view.known in record {
            set = gained;
            within = λ t n v. sym (known (t ∷ n ∷ [])) ∙ said.answers.within (t ∷ n ∷ []) (pairs_law said.delta (t ∷ n ∷ []) ∙ v);
            after = refl;
          }

    same_when_ran_out : (asked : Members) → IsAnswered Keeps agent.view asked (Err sending.OutOfMemory) wire new.wire → deltas_of new ≡ deltas_of old
    same_when_ran_out asked said = elim said [
      | inl e ↦ ap sent_by e ∙ sent
      | inr handed ↦ handed.sent.1 ∙ sent
    ]

    pub shows_when_ran_out : (asked : Members) → IsAnswered Keeps agent.view asked (Err sending.OutOfMemory) wire new.wire → ShowsTheSame old new
    shows_when_ran_out asked said w h = unchanged old new w kernel agents (same_when_ran_out asked said) h

    cpu_there : (w : PlainWorld) → ShowsWorld old w → is_cpu (shown w.kernel) c ≡ true
    cpu_there w h = plain_cpu old.kernel w.kernel c true h.kernel mine.there

    pub digest_answered : (digest : Members) (index : ℕ) → index ≡ length (deltas_of old) → IsAnswered Keeps agent.view digest (Ok tt) wire new.wire → AnswersDigest digest c old new (replies.Answered index)
    digest_answered digest index at_end said set theirs w h =
        let w' : PlainWorld = world.sending w (gained digest said w h) in (
          w',
          match_true (is_cpu (shown w.kernel) c) (IsAnsweredTo set w c (replies.Answered index) w') (IsBadCpu w (replies.Answered index) w') (cpu_there w h) (is_answered digest said w h index at_end set theirs),
          shows_sent digest said w h,
        )

    pub keeps_when_sent : (digest : Members) → IsAnswered Keeps agent.view digest (Ok tt) wire new.wire → KeepsSent old new
    keeps_when_sent digest said = (said.delta ∷ [], said.sent.1 ∙ ap (λ l. l ++ said.delta ∷ []) sent)

    pub reached_when_sent : (laws : KernelLaws) (digest : Members) → IsAnswered Keeps agent.view digest (Ok tt) wire new.wire → IsReached old → IsReached new
    reached_when_sent laws digest said h =
        reached_late laws c old new h (world.sending h.plain (gained digest said h.plain h.shows)) (cpu_there h.plain h.shows) (is_sent_late digest said h.plain h.shows) (shows_sent digest said h.plain h.shows)

    pub reached_when_ran_out : (laws : KernelLaws) (digest : Members) → IsAnswered Keeps agent.view digest (Err sending.OutOfMemory) wire new.wire → IsReached old → IsReached new
    reached_when_ran_out laws digest said = reached_same laws old new kernel (shows_when_ran_out digest said)

    module _ (asker other : ℕ) (theirs : IsPlace old asker other) (others : Agent) (asking : slice_get old.agents.items asker ≡ Some others) where
      cpus : (w : PlainWorld) → ShowsWorld old w → are_cpus w c asker ≡ true
      cpus w h = both (is_cpu (shown w.kernel) c) (is_cpu (shown w.kernel) asker) (cpu_there w h) (plain_cpu old.kernel w.kernel asker true h.kernel theirs.there)

      pub answer_done : (index : ℕ) → index ≡ length (deltas_of old) → IsAnswered Keeps agent.view (pairs_of others.view) (Ok tt) wire new.wire → Handles (event.Answer c asker) (Ok (replies.Answered index)) old new
      answer_done index at_end said w h =
          let w' : PlainWorld = world.sending w (gained (pairs_of others.view) said w h) in (
            w',
            match_true (are_cpus w c asker) (steps.IsAnswered w c asker (replies.Answered index) w') (IsBadCpu w (replies.Answered index) w') (cpus w h)
                (is_answered (pairs_of others.view) said w h index at_end (w.agents asker).known (h.agents asker others asking).view.known),
            shows_sent (pairs_of others.view) said w h,
            keeps_when_sent (pairs_of others.view) said,
          )

      pub answer_ran_out : (fault : NoMemory) → IsAnswered Keeps agent.view (pairs_of others.view) (Err sending.OutOfMemory) wire new.wire → Handles (event.Answer c asker) (Err fault) old new
      answer_ran_out fault said w h =
          (w, (cpus w h, refl), shows_when_ran_out (pairs_of others.view) said w h, kept_same old new (same_when_ran_out (pairs_of others.view) said))
