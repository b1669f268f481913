-- What a world shows after a call of the kernel.
use Rattle.std.proofs.Common.{◌≡◌, Option, Some, None, Ok, Err, MatchOption, slice_get, refl, sym, ◌∙◌, ap, subst}
use Rattle.pc_calls.specs.declared.call.Call.{Call}
use Rattle.pc_calls.specs.declared.call.Answer.{Answer}
use Rattle.pc_calls.specs.declared.event.Event.{Event}
use Rattle.pc_calls.specs.declared.event.Reply.{Reply}
use Rattle.pc_calls.specs.declared.event.Reply.TheVariants as replies
use Rattle.pc_calls.specs.declared.refusal.Refusal.{Refusal}
use Rattle.pc_calls.specs.declared.refusal.CallFault.TheVariants.{Refused, OutOfMemory}
use Rattle.pc_calls.specs.Events.{call_of, reply_to, told_of}
use Rattle.pc_kernel.specs.Answers.{Shows, RepliesInMemory, StepsInMemory, itself}
use Rattle.pc_kernel.specs.PlainKernel.{PlainKernel, kinds}
use Rattle.pc_kernel.specs.Reads.{shown}
use Rattle.pc_kernel.specs.Rows.{KernelRows}
use Rattle.pc_kernel.specs.Steps.{accepted, after, after_of, changed, refused, reply_of}
use Rattle.pc_join.specs.declared.join.OutOfMemory.{OutOfMemory as NoMemory}
use Rattle.pc_world.specs.declared.parts.Parts.{Parts}
use Rattle.pc_world.specs.PlainWorld.{PlainWorld}
use Rattle.pc_world.specs.Shows.{AreSent, ShowsWorld, deltas_of}
use Rattle.pc_world.specs.RanOut.{RanOutInCall, RanOutInOwn}
use Rattle.pc_world.specs.Steps.{IsCalled, IsOwnStep}
use Rattle.pc_world.specs.Inner.Handling.{Handles, Outcome}
use Rattle.pc_world.specs.Inner.Laws.{RunsGoOn}
use Rattle.pc_world.proofs.Places.{kept_same, sent_goes_on, unchanged}

-- an event that is a call, done
outcome_of_call : (w : PlainWorld) (event : Event) (c : Call) (told : Reply) (new : PlainWorld) → call_of event ≡ Some c → IsCalled w c told new → Outcome w event (Ok told) new
outcome_of_call w event c told new is called = subst (λ o. MatchOption o (IsOwnStep w event told new) (λ d. IsCalled w d told new)) (sym is) called

goes_after : (goes : RunsGoOn) (old new : Parts) (w : PlainWorld) (c : Call) → new.agents.items ≡ old.agents.items → deltas_of new ≡ deltas_of old → ShowsWorld old w → Shows new.kernel (after w.kernel c)
    → ShowsWorld new (record w { kernel = after w.kernel c })
goes_after goes old new w c agents sent h kernel = record {
  kernel = kernel;
  agents = λ d a e. goes.agents (kinds (after w.kernel c)) (kinds w.kernel) (w.agents d) a (goes.calls w.kernel c) (h.agents d a (ap (λ l. slice_get l d) (sym agents) ∙ e));
  sent = subst (AreSent (kinds (after w.kernel c)) w.sent) (sym sent) (sent_goes_on goes (kinds (after w.kernel c)) (kinds w.kernel) w.sent (deltas_of old) (goes.calls w.kernel c) h.sent);
}

accepted_call : (P Q : PlainKernel) (c : Call) (o : Option Refusal) (a answer : Answer) (old new : KernelRows) → RepliesInMemory itself (Ok answer) old new (reply_of o a) (after_of o Q P)
    → (reply_to c answer ≡ told_of c (reply_of o a)) × Shows new (after_of o Q P)
accepted_call P Q c None a answer old new h = (ap (reply_to c) h.0, h.1)
accepted_call P Q c (Some why) a answer old new h = absurd h

refused_call : (P Q : PlainKernel) (c : Call) (o : Option Refusal) (a : Answer) (refusal : Refusal) (old new : KernelRows) → RepliesInMemory itself (Err (Refused refusal)) old new (reply_of o a) (after_of o Q P) → Shows old P
    → (replies.Refused refusal ≡ told_of c (reply_of o a)) × Shows new (after_of o Q P)
refused_call P Q c None a refusal old new h shows = absurd h
refused_call P Q c (Some why) a refusal old new h shows = (ap replies.Refused h.0, subst (λ k. Shows k P) (sym h.1) shows)

ran_out_call : (P Q : PlainKernel) (o : Option Refusal) (a : Answer) (old new : KernelRows) → RepliesInMemory itself (Err OutOfMemory) old new (reply_of o a) Q → (o ≡ None) × (new ≡ old)
ran_out_call P Q None a old new h = (refl, h)
ran_out_call P Q (Some why) a old new h = absurd h

module _ (goes : RunsGoOn) (old new : Parts) (event : Event) (c : Call) (is : call_of event ≡ Some c) (agents : new.agents.items ≡ old.agents.items) (sent : deltas_of new ≡ deltas_of old) where
  pub call_done : (answer : Answer) (told : Reply) → told ≡ reply_to c answer → StepsInMemory itself c (Ok answer) old.kernel new.kernel → Handles event (Ok told) old new
  call_done answer told tells steps w h =
      let P = w.kernel in
      let did = accepted_call P (changed P c) c (refused (shown P) c) (accepted P c) answer old.kernel new.kernel (steps P h.kernel) in (
        record w { kernel = after P c },
        outcome_of_call w event c told _ is (record { tells = tells ∙ did.0; after = refl }),
        goes_after goes old new w c agents sent h did.1,
        kept_same old new sent,
      )

  pub call_refused : (refusal : Refusal) → StepsInMemory itself c (Err (Refused refusal)) old.kernel new.kernel → Handles event (Ok (replies.Refused refusal)) old new
  call_refused refusal steps w h =
      let P = w.kernel in
      let did = refused_call P (changed P c) c (refused (shown P) c) (accepted P c) refusal old.kernel new.kernel (steps P h.kernel) h.kernel in (
        record w { kernel = after P c },
        outcome_of_call w event c (replies.Refused refusal) _ is (record { tells = did.0; after = refl }),
        goes_after goes old new w c agents sent h did.1,
        kept_same old new sent,
      )

  pub call_ran_out : (fault : NoMemory) → ((w : PlainWorld) → refused (shown w.kernel) c ≡ None → RanOutInCall w c) → StepsInMemory itself c (Err OutOfMemory) old.kernel new.kernel → Handles event (Err fault) old new
  call_ran_out fault takes steps w h =
      let P = w.kernel in
      let did = ran_out_call P (after P c) (refused (shown P) c) (accepted P c) old.kernel new.kernel (steps P h.kernel) in (
        w,
        subst (λ o. MatchOption o (RanOutInOwn w event w) (λ d. RanOutInCall w d × (w ≡ w))) (sym is) (takes w did.0, refl),
        unchanged old new w did.1 agents sent h,
        kept_same old new sent,
      )
