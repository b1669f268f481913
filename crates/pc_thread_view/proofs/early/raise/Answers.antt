use Rattle.pc_thread_view.proofs.Slots.{raised_last}
use Rattle.std.proofs.Common.{ap, ◌∙◌, ◌≡◌, ◌+◌, ◌-◌, set, length, refl, arith}
use Rattle.std.specs.List.{copy_within}
use Rattle.pc_thread_view.proofs.early.raise.Goals as goal

pub returns-clause-raised : goal.returns-clause-raised
returns-clause-raised c others last e =
    let inside = c.requires in
    let all : c.args.place + (length c.args.slots.now - 1 - c.args.place) ≡ length c.args.slots.now - 1 = omega arith in
    ap (λ xs. set xs c.args.place c.index-slots-behind.result) (c.move_up.ensures ∙ ap (λ n. copy_within c.args.slots.now c.args.place n (c.args.place + 1)) all)
    ∙ raised_last c.args.place (length c.args.slots.now - 1) c.args.slots.now others last c.index-slots-behind.result e refl c.requires c.index-slots-behind.is
