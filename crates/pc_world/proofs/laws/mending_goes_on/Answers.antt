use Rattle.std.proofs.Common.{List, [], ◌∷◌, ◌++◌, subst}
use Rattle.pc_calls.specs.declared.event.Event.{Event}
use Rattle.pc_world.specs.PlainWorld.{PlainWorld, opened_by}
use Rattle.pc_world.specs.Reached.{Leads}
use Rattle.pc_world.proofs.laws.mending_goes_on.Goals as goal

leads_append : (w v u : PlainWorld) (before rest : List Event) → Leads w before v → Leads v rest u → Leads w (before ++ rest) u
leads_append w v u [] rest led leads = subst (λ x. Leads x rest u) led leads
leads_append w v u (e ∷ before) rest led leads = (led.0, led.1, leads_append led.0 v u before rest led.2 leads)

pub returns : goal.returns
returns c limits w later events cpu t reached leads =
    c.a_waiting_thread_can_be_run.ensures limits later cpu t
    record { rules = reached.rules; events = reached.events ++ events; leads = leads_append (opened_by reached.rules limits) w later reached.events events reached.leads leads }
