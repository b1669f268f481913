use Rattle.std.proofs.Common.{◌≡◌, Err, [], ◌∷◌, ◌++◌, ap, sym, ◌∙◌, subst, length, append_assoc, rules}
use Rattle.std.specs.Vec.Iter.{into_iter_items}
use Rattle.pc_load.proofs.Threads.{SoFar, turn, stopped}
use Rattle.pc_load.proofs.load.threads.threads_of.Goals as goal

pub returns-in_err-thread-clause-answers : goal.returns-in_err-thread-clause-answers
returns-in_err-thread-clause-answers c =
    let fault = c.in_err-thread.field-0.0 in
    let is : c.from_residual.result ≡ Err fault = search rules in
    let next : into_iter_items c.loop-draft.draft-iterator ≡ c.in-Some.draft ∷ into_iter_items c.next.new.self = search rules in
    let split : c.loop-draft.yielded ++ c.in-Some.draft ∷ into_iter_items c.next.new.self ≡ c.args.drafts.items =
    ap (λ xs. c.loop-draft.yielded ++ xs) (sym next) ∙ c.loop-draft.invariant.1 in
    let at : c.len.result ≡ length c.loop-draft.threads.items = search rules in
    rw is (stopped c.args.cpus c.loop-draft.yielded c.loop-draft.before c.loop-draft.threads.items c.in-Some.draft
    (into_iter_items c.next.new.self) c.args.drafts.items fault c.len.result c.loop-draft.invariant.0 split at c.in_err-thread.ensures.answers)

pub loop-draft-preserved : goal.loop-draft-preserved
loop-draft-preserved c =
    let next : into_iter_items c.loop-draft.draft-iterator ≡ c.in-Some.draft ∷ into_iter_items c.next.new.self = search rules in
    let split : c.loop-draft.yielded ++ c.in-Some.draft ∷ into_iter_items c.next.new.self ≡ c.args.drafts.items =
    ap (λ xs. c.loop-draft.yielded ++ xs) (sym next) ∙ c.loop-draft.invariant.1 in
    let so_far = turn c.args.cpus c.loop-draft.yielded c.loop-draft.before c.loop-draft.threads.items c.in-Some.draft c.in_ok-thread.thread
    c.loop-draft.invariant.0 c.in_ok-thread.ensures.keeps c.in_ok-thread.ensures.there c.in_ok-thread.ensures.loaded in (
      subst (SoFar c.args.cpus (c.loop-draft.yielded ++ c.in-Some.draft ∷ []) c.in_ok-thread.thread.start) (sym c.in_ok-push.ensures.items) so_far,
      append_assoc c.loop-draft.yielded (c.in-Some.draft ∷ []) (into_iter_items c.next.new.self) ∙ split,
    )
