use Rattle.pc_agent.proofs.laws.agents_stay_as_the_run_goes_on.Goals as goal

pub returns : goal.returns
returns c longer shorter p agent extends h = record {
  view = record { of_run = c.views_stay_as_the_run_goes_on.ensures longer shorter agent.view extends h.view.of_run; known = h.view.known };
  list = h.list;
  sent_items = h.sent_items;
  rules = h.rules;
}
