use Rattle.std.proofs.Common.{sym, subst}
use Rattle.pc_run_queue.specs.Runs.{StandsAsNoted, runs_in}
use Rattle.pc_agent.specs.Inner.Wanted.{IsNoneWantedBelow}
use Rattle.pc_agent.proofs.Pushed.{none_wanted}
use Rattle.pc_agent.proofs.shortcuts.Shortcuts.put_last.Goals as goal

pub returns-then-not-is_empty : goal.returns-then-not-is_empty
returns-then-not-is_empty c = λ ranks view cpu before put h. record {
  settled = λ noted.
      subst (λ rows. StandsAsNoted ranks view cpu rows c.args.list.now) (sym (c.note_last-self.ensures.noted noted))
      (put.noted c.args.self.now.noted.items (c.note_last-self.ensures.up_to noted) (h.settled c.if-self.true));
  runnable = h.runnable;
  passed =
      subst (IsNoneWantedBelow c.args.self.now.passed (runs_in view cpu)) (sym put.last)
      (none_wanted c.args.self.now.passed (runs_in view cpu) before c.args.thread h.passed);
}
