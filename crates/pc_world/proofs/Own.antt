-- What a world shows after an event of one agent.
use Rattle.std.proofs.Common.{◌≡◌, ℕ, Bool, true, false, List, [], ◌∷◌, ◌++◌, length, Option, Some, None, Result, Ok, Err, MatchBool, is_some, slice_get, get_or, set, refl, sym, ◌∙◌, ap, subst, inl, inr}
use Rattle.std.proofs.lemmas.Bool.Decides.{eqb_tells}
use Rattle.pc_messages.specs.Items.{pairs_in}
use Rattle.pc_messages.specs.Run.{Run, Extends}
use Rattle.pc_calls.specs.AgentCalls.{commits, rouses}
use Rattle.pc_calls.specs.declared.call.Answer.TheVariants.{Done}
use Rattle.pc_calls.specs.declared.call.Call.TheVariants as call
use Rattle.pc_calls.specs.declared.event.Event.TheVariants as event
use Rattle.pc_calls.specs.declared.event.Reply.{Reply}
use Rattle.pc_calls.specs.declared.event.Reply.TheVariants as replies
use Rattle.pc_calls.specs.declared.refusal.Refusal.{Refusal}
use Rattle.pc_calls.specs.declared.refusal.Refusal.TheVariants as refusals
use Rattle.pc_calls.specs.declared.refusal.CallFault.TheVariants as faults
use Rattle.pc_join.specs.declared.join.OutOfMemory.{OutOfMemory as NoMemory}
use Rattle.pc_kernel.specs.Answers.{Replies, Shows, Steps, done}
use Rattle.pc_kernel.specs.PlainKernel.{PlainKernel, kinds, content}
use Rattle.pc_kernel.specs.Reads.{shown, is_cpu, on}
use Rattle.pc_kernel.specs.Rows.{KernelRows}
use Rattle.pc_kernel.specs.Steps.{after, after_of, at, changed, refused, reply_of}
use Rattle.pc_delta.specs.declared.part.Part.{Part}
use Rattle.pc_delta.specs.Parts.{parts_in}
use Rattle.pc_agent.specs.declared.agent.Agent.{Agent}
use Rattle.pc_agent.specs.declared.kept_wire.KeptWire.{KeptWire}
use Rattle.pc_agent.specs.declared.wire.SendFault.TheVariants as sending
use Rattle.pc_agent.specs.Exchanging.{Delivers}
use Rattle.pc_agent.specs.PlainAgent.{PlainAgent, copied, fresh, taking_in}
use Rattle.pc_agent.specs.Publishing.{IsConsumed, IsPublished, WhateverShown, sent_after}
use Rattle.pc_agent.specs.Running.{FindsFirst, IsPicked, IsTakenOver, Steals, TriesFirst, left_by, takes_over, take_refused}
use Rattle.pc_agent.specs.Shows.{ShowsAgent, ShowsView, cpu_of, rules_in}
use Rattle.pc_agent.specs.Wires.{Keeps, sent_by}
use Rattle.pc_world.specs.declared.parts.Parts.{Parts}
use Rattle.pc_world.specs.PlainWorld.{PlainWorld, copied_all, published, with_agent}
use Rattle.pc_world.specs.Shows.{AreSent, KeepsSent, ShowsWorld, deltas_of}
use Rattle.pc_world.specs.RanOut.{RanOutInPublish, IsWidened}
use Rattle.pc_world.specs.Steps as steps
use Rattle.pc_world.specs.Steps.{stealable}
use Rattle.pc_world.specs.Inner.Handling.{Handles}
use Rattle.pc_world.specs.Inner.Laws.{RunsGoOn}
use Rattle.pc_world.specs.Inner.Places.{IsPlace}
use Rattle.pc_world.proofs.Places.{agent_at, agent_cpu, kept_same, match_true, plain_cpu, put_back, same_run, sent_goes_on, unchanged, world_after}
use Rattle.pc_world.proofs.Sent.{sent_at, sent_length, sent_more, sent_none}

-- a function with its own value put in is the same function
at_itself : {X : Type 0} (f : ℕ → X) (n m : ℕ) → at f n (f n) m ≡ f m
at_itself f n m = elim (eqb_tells m n) [ inl e ↦ rw e.0 (ap f (sym e.1)) | inr e ↦ rw e.0 refl ]

-- a call that the kernel did not refuse
was_done : (P : PlainKernel) (o : Option Refusal) (old new : KernelRows) (Q R : PlainKernel) → Replies done (Ok tt) old new (reply_of o Done) (after_of o Q R) → (o ≡ None) × Shows new (after_of o Q R)
was_done P None old new Q R h = (refl, h.1)
was_done P (Some why) old new Q R h = absurd h

-- a part of what the queue holds was taken in, whether the wire refuses or not
in_part : (w : PlainWorld) (c : ℕ) (fails : Bool) (new : PlainWorld) → IsWidened w c (pairs_in (content w.kernel c)) new → RanOutInPublish w c fails new
in_part w c false new part = inl part
in_part w c true new part = part

module _ (goes : RunsGoOn) (old new : Parts) (c place : ℕ) (agent more : Agent) (where_is : IsPlace old c place) (read : agent ≡ get_or old.agents.items place agent) (agents : new.agents.items ≡ set old.agents.items place more) where
  there : slice_get old.agents.items c ≡ Some agent
  there = agent_at old c place agent agent where_is read

  is_own : cpu_of agent ≡ c
  is_own = agent_cpu old c agent there

  on_cpu : (w : PlainWorld) (told : Reply) (w' : PlainWorld) (Holds : Type 0) → ShowsWorld old w → Holds → steps.OnCpu w c told w' Holds
  on_cpu w told w' Holds h holds = match_true (is_cpu (shown w.kernel) c) Holds (steps.IsBadCpu w told w') (plain_cpu old.kernel w.kernel c true h.kernel where_is.there) holds

  -- of the world's own plain kernel and plain agent
  of_world : (Says : PlainKernel → Run → PlainAgent → Type 0) → WhateverShown old.kernel agent Says → (w : PlainWorld) → ShowsWorld old w → Says w.kernel (kinds w.kernel) (w.agents c)
  of_world Says says w h = says w.kernel (kinds w.kernel) (w.agents c) h.kernel (same_run (kinds w.kernel)) (h.agents c agent there)

  same_agents : more ≡ agent → new.agents.items ≡ old.agents.items
  same_agents e = agents ∙ ap (set old.agents.items place) (e ∙ read) ∙ put_back old.agents.items place agent where_is.low

  -- another kernel, and another agent, who sent nothing
  after_call : (w : PlainWorld) (Q : PlainKernel) (p : PlainAgent) → ShowsWorld old w → Shows new.kernel Q → Extends (kinds Q) (kinds w.kernel) → ShowsAgent (kinds w.kernel) p more → deltas_of new ≡ deltas_of old
      → ShowsWorld new (record (with_agent w c p) { kernel = Q })
  after_call w Q p h kernel extends here sent =
      world_after goes old new w c place more Q p w.sent h where_is agents kernel extends (goes.agents (kinds Q) (kinds w.kernel) p more extends here)
      (subst (AreSent (kinds Q) w.sent) (sym sent) (sent_goes_on goes (kinds Q) (kinds w.kernel) w.sent (deltas_of old) extends h.sent))

  after_own : (w : PlainWorld) (p : PlainAgent) → ShowsWorld old w → new.kernel ≡ old.kernel → ShowsAgent (kinds w.kernel) p more → deltas_of new ≡ deltas_of old → ShowsWorld new (with_agent w c p)
  after_own w p h kernel here sent = after_call w w.kernel p h (subst (λ k. Shows k w.kernel) (sym kernel) h.kernel) (same_run (kinds w.kernel)) here sent

  -- an agent of whom nothing that shows has changed
  after_none : (w : PlainWorld) → ShowsWorld old w → new.kernel ≡ old.kernel → ShowsAgent (kinds w.kernel) (w.agents c) more → deltas_of new ≡ deltas_of old → ShowsWorld new w
  after_none w h kernel here sent = subst (λ f. ShowsWorld new (record w { agents = f })) (λ i m. at_itself w.agents c m i) (after_own w (w.agents c) h kernel here sent)

  pub consume_done : (items : ℕ) → WhateverShown old.kernel agent (λ P run p. IsConsumed P run p (Ok items) (cpu_of agent) more new.kernel) → deltas_of new ≡ deltas_of old
      → Handles (event.Consume c) (Ok (replies.Consumed items)) old new
  consume_done items says sent w h =
      let p = w.agents c in
      let P = w.kernel in
      let said = subst (λ n. IsConsumed P (kinds P) p (Ok items) n more new.kernel) is_own (of_world _ says w h) in
      let w' : PlainWorld = record (with_agent w c (record p { sent_items = 0 })) { kernel = after P (call.Consume c p.sent_items) } in (
        w',
        on_cpu w (replies.Consumed items) w' _ h (subst (λ r. steps.IsConsumed w c r (replies.Consumed items) w') (sym said.1) (ap replies.Consumed said.0, refl)),
        after_call w (after P (call.Consume c p.sent_items)) (record p { sent_items = 0 }) h said.2 (goes.calls P (call.Consume c p.sent_items)) said.3 sent,
        kept_same old new sent,
      )

  pub consume_refused : (refusal : Refusal) → WhateverShown old.kernel agent (λ P run p. IsConsumed P run p (Err refusal) (cpu_of agent) more new.kernel) → more ≡ agent → new.kernel ≡ old.kernel → deltas_of new ≡ deltas_of old
      → Handles (event.Consume c) (Ok (replies.Refused refusal)) old new
  consume_refused refusal says same kernel sent w h =
      let p = w.agents c in
      let said = subst (λ n. IsConsumed w.kernel (kinds w.kernel) p (Err refusal) n more new.kernel) is_own (of_world _ says w h) in (
        w,
        on_cpu w (replies.Refused refusal) w _ h (subst (λ r. steps.IsConsumed w c r (replies.Refused refusal) w) (sym said) (record { refused = refl; same = refl })),
        unchanged old new w kernel (same_agents same) sent h,
        kept_same old new sent,
      )

  module _ (fails : Bool) (wire : KeptWire) (sent : sent_by wire ≡ deltas_of old) (refuses : wire.refuses ≡ fails) (kernel : new.kernel ≡ old.kernel) where
    abbrev publishes : Result ℕ sending.the_data → PlainWorld → Type 0
    publishes result w = IsPublished Keeps (content w.kernel c) (kinds w.kernel) (w.agents c) result c more wire new.wire

    said_here : (result : Result ℕ sending.the_data) → WhateverShown old.kernel agent (λ P run p. IsPublished Keeps (content P (cpu_of agent)) run p result (cpu_of agent) more wire new.wire)
        → (w : PlainWorld) → ShowsWorld old w → publishes result w
    said_here result says w h =
        subst (λ n. IsPublished Keeps (content w.kernel n) (kinds w.kernel) (w.agents c) result n more wire new.wire) is_own (of_world _ says w h)

    pub publish_done : (index items : ℕ) → index ≡ length (deltas_of old) → WhateverShown old.kernel agent (λ P run p. IsPublished Keeps (content P (cpu_of agent)) run p (Ok items) (cpu_of agent) more wire new.wire)
        → Handles (event.Publish c fails) (Ok (replies.Published index items)) old new
    publish_done index items at_end says w h =
        let said = said_here (Ok items) says w h in
        let delta : List Part = parts_in (content w.kernel c) in
        let goes_out : fails ≡ false = sym refuses ∙ said.1.sent.0 in
        let grown : deltas_of new ≡ deltas_of old ++ delta ∷ [] = said.1.sent.1 ∙ ap (λ l. l ++ delta ∷ []) sent in
        let number : index ≡ length w.sent = at_end ∙ sent_length (kinds w.kernel) w.sent (deltas_of old) h.sent in (
          published w c,
          on_cpu w (replies.Published index items) (published w c) _ h
              (subst (λ b. steps.IsPublished w c b (replies.Published index items) (published w c)) (sym goes_out) ((λ i. replies.Published (number i) (said.0 i)), refl)),
          world_after goes old new w c place more w.kernel (sent_after (kinds w.kernel) c (content w.kernel c) (w.agents c)) (w.sent ++ pairs_in (content w.kernel c) ∷ []) h where_is agents
              (subst (λ k. Shows k w.kernel) (sym kernel) h.kernel) (same_run (kinds w.kernel)) said.2
              (subst (AreSent (kinds w.kernel) (w.sent ++ pairs_in (content w.kernel c) ∷ [])) (sym grown) (sent_more (kinds w.kernel) w.sent (deltas_of old) (pairs_in (content w.kernel c)) delta h.sent said.1.shows)),
          (delta ∷ [], grown),
        )

    pub publish_refused : WhateverShown old.kernel agent (λ P run p. IsPublished Keeps (content P (cpu_of agent)) run p (Err sending.WireFault) (cpu_of agent) more wire new.wire)
        → Handles (event.Publish c fails) (Ok (replies.Refused refusals.WireFault)) old new
    publish_refused says w h =
        let said = said_here (Err sending.WireFault) says w h in
        let stays_in : fails ≡ true = sym refuses ∙ said.0.sent.0 in
        let same : deltas_of new ≡ deltas_of old = said.0.sent.1 ∙ sent in (
          copied_all w c,
          on_cpu w (replies.Refused refusals.WireFault) (copied_all w c) _ h (subst (λ b. steps.IsPublished w c b (replies.Refused refusals.WireFault) (copied_all w c)) (sym stays_in) (refl, refl)),
          after_own w (copied (kinds w.kernel) c (content w.kernel c) (w.agents c)) h kernel said.1 same,
          kept_same old new same,
        )

    pub publish_ran_out : (fault : NoMemory) → WhateverShown old.kernel agent (λ P run p. IsPublished Keeps (content P (cpu_of agent)) run p (Err sending.OutOfMemory) (cpu_of agent) more wire new.wire)
        → Handles (event.Publish c fails) (Err fault) old new
    publish_ran_out fault says w h = elim (said_here (Err sending.OutOfMemory) says w h) [
      | inl part ↦
          let same : deltas_of new ≡ deltas_of old = ap sent_by part.1 ∙ sent in
          let some = part.0 in (
            with_agent w c (record (w.agents c) { known = some.0 }),
            (plain_cpu old.kernel w.kernel c true h.kernel where_is.there, in_part w c fails _ (record { set = some.0; between = some.1; after = refl })),
            after_own w (record (w.agents c) { known = some.0 }) h kernel some.2 same,
            kept_same old new same,
          )
      | inr whole ↦
          let goes_out : fails ≡ false = sym refuses ∙ whole.0.sent.0 in
          let same : deltas_of new ≡ deltas_of old = whole.0.sent.1 ∙ sent in (
            copied_all w c,
            (plain_cpu old.kernel w.kernel c true h.kernel where_is.there, subst (λ b. RanOutInPublish w c b (copied_all w c)) (sym goes_out) (inr refl)),
            after_own w (copied (kinds w.kernel) c (content w.kernel c) (w.agents c)) h kernel whole.1 same,
            kept_same old new same,
          )
    ]

  module _ (k : ℕ) (delta : List Part) (asked : slice_get (deltas_of old) k ≡ Some delta) (kernel : new.kernel ≡ old.kernel) (sent : deltas_of new ≡ deltas_of old) where
    pub deliver_done : Delivers delta (Ok tt) agent more → Handles (event.Deliver c k) (Ok replies.Done) old new
    deliver_done says w h =
        let told = sent_at (kinds w.kernel) w.sent (deltas_of old) k delta h.sent asked in
        let here = says (kinds w.kernel) (w.agents c) told.0 told.2 (h.agents c agent there) in
        let w' : PlainWorld = with_agent w c (taking_in told.0 (w.agents c)) in (
          w',
          on_cpu w replies.Done w' _ h (subst (λ o. steps.IsDelivered w c o replies.Done w') (sym told.1) (refl, refl)),
          after_own w (taking_in told.0 (w.agents c)) h kernel here sent,
          kept_same old new sent,
        )

    pub deliver_ran_out : (fault : NoMemory) → Delivers delta (Err fault) agent more → Handles (event.Deliver c k) (Err fault) old new
    deliver_ran_out fault says w h =
        let told = sent_at (kinds w.kernel) w.sent (deltas_of old) k delta h.sent asked in
        let some = says (kinds w.kernel) (w.agents c) told.0 told.2 (h.agents c agent there) in (
          with_agent w c (record (w.agents c) { known = some.0 }),
          (plain_cpu old.kernel w.kernel c true h.kernel where_is.there, told.0, told.1, record { set = some.0; between = some.1; after = refl }),
          after_own w (record (w.agents c) { known = some.0 }) h kernel some.2 sent,
          kept_same old new sent,
        )

  pub pick_done : (n t : ℕ) → WhateverShown old.kernel agent (λ P run p. IsPicked n P run p (Ok t) (cpu_of agent) more new.kernel) → deltas_of new ≡ deltas_of old
      → Handles (event.Pick c n) (Ok (replies.Committed c t)) old new
  pick_done n t says sent w h =
      let p = w.agents c in
      let P = w.kernel in
      let said = subst (λ m. IsPicked n P (kinds P) p (Ok t) m more new.kernel) is_own (of_world _ says w h) in
      let w' : PlainWorld = record (with_agent w c (record p { list = said.1.rest })) { kernel = after P (commits c t n) } in (
        w',
        on_cpu w (replies.Committed c t) w' _ h
            (subst (λ o. steps.IsPicked w c n o (replies.Committed c t) w') (sym said.0) (subst (λ l. steps.IsCommitted w c n l (replies.Committed c t) w') (sym said.1.first) (refl, refl))),
        after_call w (after P (commits c t n)) (record p { list = said.1.rest }) h said.1.after (goes.calls P (commits c t n)) said.1.agent sent,
        kept_same old new sent,
      )

  pub pick_refused_by : (n : ℕ) (refusal : Refusal) → WhateverShown old.kernel agent (λ P run p. IsPicked n P run p (Err refusal) (cpu_of agent) more new.kernel) → new.kernel ≡ old.kernel → deltas_of new ≡ deltas_of old
      → Handles (event.Pick c n) (Ok (replies.Refused refusal)) old new
  pick_refused_by n refusal says kernel sent w h =
      let p = w.agents c in
      let said = subst (λ m. IsPicked n w.kernel (kinds w.kernel) p (Err refusal) m more new.kernel) is_own (of_world _ says w h) in
      let w' : PlainWorld = with_agent w c (record p { list = left_by refusal p.list }) in (
        w',
        on_cpu w (replies.Refused refusal) w' _ h (subst (λ o. steps.IsPicked w c n o (replies.Refused refusal) w') (sym said.0) (refl, refl)),
        after_own w (record p { list = left_by refusal p.list }) h kernel said.1 sent,
        kept_same old new sent,
      )

  -- what a steal for an idle CPU did
  abbrev is_stolen : PlainWorld → Result ℕ faults.the_data → Type 0
  is_stolen w result =
      TriesFirst (shown w.kernel) (stealable w c) (takes_over c (w.agents c)) (λ t. IsTakenOver w.kernel (kinds w.kernel) (w.agents c) c t more new.kernel) result

  said_stolen : (result : Result ℕ faults.the_data) → WhateverShown old.kernel agent (λ P run p. Steals P run p result (cpu_of agent) more new.kernel) → (w : PlainWorld) → ShowsWorld old w
      → Steals w.kernel (kinds w.kernel) (w.agents c) result c more new.kernel
  said_stolen result says w h = subst (λ n. Steals w.kernel (kinds w.kernel) (w.agents c) result n more new.kernel) is_own (of_world _ says w h)

  pub steal_done : (t : ℕ) → WhateverShown old.kernel agent (λ P run p. Steals P run p (Ok t) (cpu_of agent) more new.kernel) → deltas_of new ≡ deltas_of old
      → Handles (event.Steal c) (Ok (replies.Associated c t)) old new
  steal_done t says sent w h = by_test (is_some (on (shown w.kernel) c)) refl (said_stolen (Ok t) says w h)
    where
      w' : PlainWorld
      w' = record (with_agent w c (record (w.agents c) { list = (w.agents c).list ++ t ∷ [] })) { kernel = after w.kernel (takes_over c (w.agents c) t) }

      by_test : (b : Bool) → is_some (on (shown w.kernel) c) ≡ b → MatchBool b (◌≡◌ {A = Result ℕ faults.the_data} (Ok t) (Err (faults.Refused refusals.Busy))) (is_stolen w (Ok t))
          → (w'' : PlainWorld) × steps.IsStealing c w (replies.Associated c t) w'' × ShowsWorld new w'' × KeepsSent old new
      by_test true e said = absurd (let none : ⊥ = cc in none)
      by_test false e said = (
        w',
        on_cpu w (replies.Associated c t) w' _ h
            (subst (λ b. steps.IsStolen w c b (replies.Associated c t) w') (sym e)
            (Some t, said.0, subst (λ o. steps.IsTakenOver w c t o (replies.Associated c t) w') (sym said.1) (refl, refl))),
        after_call w (after w.kernel (takes_over c (w.agents c) t)) (record (w.agents c) { list = (w.agents c).list ++ t ∷ [] }) h said.2.after (goes.calls w.kernel (takes_over c (w.agents c) t)) said.2.agent sent,
        kept_same old new sent,
      )

  pub steal_refused : (refusal : Refusal) → WhateverShown old.kernel agent (λ P run p. Steals P run p (Err (faults.Refused refusal)) (cpu_of agent) more new.kernel) → new.kernel ≡ old.kernel → deltas_of new ≡ deltas_of old
      → more.view ≡ agent.view → more.list ≡ agent.list → more.sent_items ≡ agent.sent_items → rules_in more ≡ rules_in agent
      → Handles (event.Steal c) (Ok (replies.Refused refusal)) old new
  steal_refused refusal says kernel sent view list count ranks w h = by_test (is_some (on (shown w.kernel) c)) refl (said_stolen (Err (faults.Refused refusal)) says w h)
    where
      same_agent : ShowsAgent (kinds w.kernel) (w.agents c) more
      same_agent = let was = h.agents c agent there in record { view = subst (λ v. ShowsView (kinds w.kernel) (w.agents c).known v) (sym view) was.view; list = list ∙ was.list; sent_items = count ∙ was.sent_items; rules = ranks ∙ was.rules }

      rest : ShowsWorld new w × KeepsSent old new
      rest = (after_none w h kernel same_agent sent, kept_same old new sent)

      tried : (o : Option ℕ) → take_refused (shown w.kernel) (takes_over c (w.agents c)) o ≡ Some refusal → steps.IsTried w c o (replies.Refused refusal) w
      tried None e = record { refused = ap replies.Refused (let is : refusal ≡ refusals.NothingToSteal = cc in is); same = refl }
      tried (Some t) e = subst (λ o. steps.IsTakenOver w c t o (replies.Refused refusal) w) (sym e) (record { refused = refl; same = refl })

      by_test : (b : Bool) → is_some (on (shown w.kernel) c) ≡ b → MatchBool b (◌≡◌ {A = Result ℕ faults.the_data} (Err (faults.Refused refusal)) (Err (faults.Refused refusals.Busy))) (is_stolen w (Err (faults.Refused refusal)))
          → (w'' : PlainWorld) × steps.IsStealing c w (replies.Refused refusal) w'' × ShowsWorld new w'' × KeepsSent old new
      by_test true e said = (
        w,
        on_cpu w (replies.Refused refusal) w _ h (subst (λ b. steps.IsStolen w c b (replies.Refused refusal) w) (sym e) (record { refused = ap replies.Refused (let is : refusal ≡ refusals.Busy = cc in is); same = refl })),
        rest.0,
        rest.1,
      )
      by_test false e said = (
        w,
        on_cpu w (replies.Refused refusal) w _ h (subst (λ b. steps.IsStolen w c b (replies.Refused refusal) w) (sym e) (said.0, said.1, tried said.0 said.2)),
        rest.0,
        rest.1,
      )

  pub steal_ran_out : (fault : NoMemory) → WhateverShown old.kernel agent (λ P run p. Steals P run p (Err faults.OutOfMemory) (cpu_of agent) more new.kernel) → new.kernel ≡ old.kernel → deltas_of new ≡ deltas_of old
      → more.view ≡ agent.view → more.list ≡ agent.list → more.sent_items ≡ agent.sent_items → rules_in more ≡ rules_in agent → Handles (event.Steal c) (Err fault) old new
  steal_ran_out fault says kernel sent view list count ranks w h = by_test (is_some (on (shown w.kernel) c)) refl (said_stolen (Err faults.OutOfMemory) says w h)
    where
      same_agent : ShowsAgent (kinds w.kernel) (w.agents c) more
      same_agent = let was = h.agents c agent there in record { view = subst (λ v. ShowsView (kinds w.kernel) (w.agents c).known v) (sym view) was.view; list = list ∙ was.list; sent_items = count ∙ was.sent_items; rules = ranks ∙ was.rules }

      by_test : (b : Bool) → is_some (on (shown w.kernel) c) ≡ b → MatchBool b (◌≡◌ {A = Result ℕ faults.the_data} (Err faults.OutOfMemory) (Err (faults.Refused refusals.Busy))) (is_stolen w (Err faults.OutOfMemory))
          → (w'' : PlainWorld)
          × ((is_cpu (shown w.kernel) c ≡ true) × (is_some (on (shown w.kernel) c) ≡ false) × (t : ℕ) × FindsFirst (stealable w c) (Some t) × (w'' ≡ w)) × ShowsWorld new w'' × KeepsSent old new
      by_test true e said = absurd (let none : ⊥ = cc in none)
      by_test false e said =
          (w, (plain_cpu old.kernel w.kernel c true h.kernel where_is.there, e, said.0, said.1, refl), after_none w h kernel same_agent sent, kept_same old new sent)

  pub crash_done : Steps done (rouses c) (Ok tt) old.kernel new.kernel → ((run : Run) → ShowsAgent run (fresh (rules_in agent)) more) → deltas_of new ≡ deltas_of old → Handles (event.Crash c) (Ok replies.Done) old new
  crash_done roused starts sent w h =
      let P = w.kernel in
      let did = was_done P (refused (shown P) (rouses c)) old.kernel new.kernel (changed P (rouses c)) P (roused P h.kernel) in
      let w' : PlainWorld = record (with_agent w c (fresh (w.agents c).rules)) { kernel = after P (rouses c) } in (
        w',
        on_cpu w replies.Done w' _ h (refl, refl),
        after_call w (after P (rouses c)) (fresh (w.agents c).rules) h did.1 (goes.calls P (rouses c))
            (subst (λ ranks. ShowsAgent (kinds P) (fresh ranks) more) (h.agents c agent there).rules (starts (kinds P))) sent,
        kept_same old new sent,
      )

-- a delta that was not sent
pub deliver_none : (old new : Parts) (c place : ℕ) → IsPlace old c place → (k : ℕ) → slice_get (deltas_of old) k ≡ None → new.kernel ≡ old.kernel → new.agents.items ≡ old.agents.items → deltas_of new ≡ deltas_of old
    → Handles (event.Deliver c k) (Ok (replies.Refused refusals.NoDelta)) old new
deliver_none old new c place where_is k none kernel agents sent w h = (
  w,
  match_true (is_cpu (shown w.kernel) c) _ (steps.IsBadCpu w (replies.Refused refusals.NoDelta) w) (plain_cpu old.kernel w.kernel c true h.kernel where_is.there)
      (subst (λ o. steps.IsDelivered w c o (replies.Refused refusals.NoDelta) w) (sym (sent_none (kinds w.kernel) w.sent (deltas_of old) k h.sent none)) (record { refused = refl; same = refl })),
  unchanged old new w kernel agents sent h,
  kept_same old new sent,
)
