use Rattle.pc_world.proofs.Showing.{whole}
use Rattle.pc_world.proofs.laws.who_has_all_is_complete.Goals as goal

pub returns : goal.returns
returns c limits w cpu t kernel view reached are has known =
    whole c.reads_are_plain.ensures w cpu t kernel view are c.views_tell_what_their_sets_tell.ensures.upto
    (c.nothing_is_lost.ensures.complete limits w (w.agents cpu).known t reached has) known
