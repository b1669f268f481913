use Rattle.std.proofs.Common.{ℕ, ◌+◌, ◌∙◌, subst, arith, if◌then◌else◌}
use Rattle.pc_agent.specs.Shows.{cpu_of}
use Rattle.pc_threads.specs.Inner.Turns.{ListsUnder, commits_of}
use Rattle.pc_threads.proofs.Turns.{more_under, same_under}
use Rattle.pc_threads.proofs.runner.tallied.Tallied.act.Goals as goal

-- what was consumed, then what was tried, then the sleep
pub returns : goal.returns
returns g c =
    let cpu = cpu_of c.args.worker.now.agent in
    let aseq = c.args.aseq in
    let commits = commits_of c.in_ok-tried.tried in
    let sleeps : ℕ = if c.in_ok-asleep.asleep then 1 else 0 in
    let second : ListsUnder cpu aseq commits 0 c.consume.new.self.book.calls c.commit.new.self.book.calls =
    subst (λ (own : ℕ). ListsUnder own aseq commits 0 c.consume.new.self.book.calls c.commit.new.self.book.calls) c.in_ok-consume.ensures.cpu c.in_ok-tried.ensures.under in
    let third : ListsUnder cpu aseq 0 sleeps c.commit.new.self.book.calls c.sleep.new.self.book.calls =
    subst (λ (own : ℕ). ListsUnder own aseq 0 sleeps c.commit.new.self.book.calls c.sleep.new.self.book.calls)
    (c.cpu.ensures ∙ c.in_ok-tried.ensures.cpu ∙ c.in_ok-consume.ensures.cpu) c.in_ok-asleep.ensures in
    let both = more_under cpu aseq 0 commits 0 0 c.args.self.now.book.calls c.consume.new.self.book.calls c.commit.new.self.book.calls (c.in_ok-consume.ensures.under aseq) second in
    let all = more_under cpu aseq (0 + commits) 0 (0 + 0) sleeps c.args.self.now.book.calls c.commit.new.self.book.calls c.sleep.new.self.book.calls both third in
    record { under = same_under cpu aseq (0 + commits + 0) _ (0 + 0 + sleeps) _ c.args.self.now.book.calls c.sleep.new.self.book.calls (omega (arith, c.has_committed.ensures)) (omega arith) all }
