use Rattle.pc_world.proofs.laws.kernel_laws.Goals as goal

pub returns : goal.returns
returns c = record {
  home = c.messages_stay_home.ensures;
  placed = c.threads_are_placed.ensures;
  rested = c.sleepers_had_no_post.ensures;
  begun = c.runs_are_begun.ensures.begun;
  dense = c.runs_are_begun.ensures.dense;
  extend = c.calls_extend_the_run.ensures;
  reads = c.reads_are_plain.ensures;
  associates = c.accepted_associates_are_exact.ensures;
  commits = c.accepted_commits_are_exact.ensures;
  posted = c.messages_are_posted.ensures.posted;
  posts = c.messages_are_posted.ensures.of_the_run;
  items = c.queues_go_on.ensures.items;
  eaten = c.queues_go_on.ensures.eaten;
  few = c.queues_lose_only_what_was_posted.ensures;
  homes = c.homes_are_there.ensures;
}
