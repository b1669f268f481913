use Rattle.pc_world.proofs.Showing.{reported}
use Rattle.pc_world.proofs.laws.what_a_steal_took_is_reported.Goals as goal

pub returns : goal.returns
returns c limits w new cpu t kernel view reached are step =
    let exact = c.steals_are_exact.ensures limits w new cpu t reached step in
    reported c.reads_are_plain.ensures w cpu t kernel view are c.views_tell_what_their_sets_tell.ensures.reported exact.state
