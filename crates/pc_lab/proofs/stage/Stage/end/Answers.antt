use Rattle.std.proofs.Common.{◌≤◌, ◌∙◌, ℕ, Option, IfSome, ap, subst}
use Rattle.pc_kernel.specs.Reads.{Reads, seen, shown}
use Rattle.pc_lab.proofs.Accounting.{same_account, same_stall}
use Rattle.pc_lab.proofs.Readiness.{unended_told}
use Rattle.pc_lab.specs.Waiting.{unended_waits}
use Rattle.pc_lab.proofs.stage.Stage.end.Goals as goal

pub returns : goal.returns
returns g c =
    let run = c.self.invariant.0 c.if-self.false in
    let shows = c.kernel-3.ensures run.plain run.shows in
    record {
      each = run.each;
      same = run.same;
      moments = run.moments;
      plain = run.plain;
      leads = run.leads;
      in_time = subst (λ (told : Option ℕ). IfSome told (λ tick. tick ≤ c.self.inside.tick)) run.last c.self.invariant.1;
      written = run.written;
      answers_none = run.answers_none;
      commits_none = run.commits_none;
      created = run.created;
      told = run.holds;
      events = run.number;
      counts = run.counts;
      waits = run.ended;
      ended = run.are_told;
      unended = c.in_ok-unended.ensures.waits
          ∙ unended_told g.K.Setting.load run.moments c.self.inside.waits.waiters.items (seen c.kernel.result.now) c.self.inside.tick run.behind c.in_ok-unended.ensures.known
          ∙ ap (λ (kernel : Reads). unended_waits g.K.Setting.load run.moments kernel c.self.inside.tick) (c.kernel.ensures run.plain run.shows).reads;
      cpus = c.in_ok-times.ensures.many ∙ c.self.invariant.3;
      times = c.in_ok-times.ensures.whole;
      adds_up = λ is. same_account c.args.load.now g.K.Setting.load c.args.keep g.K.Setting.keep (seen c.kernel-3.result.now) (shown run.plain.kernel) _ c.requires.load
          c.requires.keep shows.reads (c.in_ok-check_account.ensures.done is);
      stalled = λ t is. same_stall c.args.load.now g.K.Setting.load (seen c.kernel-3.result.now) (shown run.plain.kernel) t c.requires.load shows.reads
          (c.in_ok-check_account.ensures.stalled t is);
    }
