use Rattle.pc_protocol.proofs.Seated.{seat_at, stage_is_set}
use Rattle.pc_protocol.proofs.seats.set_stage.Goals as goal

pub returns-clause-sets : goal.returns-clause-sets
returns-clause-sets c =
    let seat = c.index_mut.result.now in
    stage_is_set c.args.seats.now.items c.args.place seat c.requires (seat_at c.args.seats.now.items c.args.place seat seat c.requires c.index_mut.ensures.value) c.args.stage
