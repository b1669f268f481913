use Rattle.pc_threads.specs.Pages.{calls_of}
use Rattle.pc_threads.proofs.Running.{balanced}
use Rattle.pc_threads.proofs.book.Book.facts_hold.Goals as goal

pub returns-clause-home : goal.returns-clause-home
returns-clause-home c t = c.messages_stay_home.ensures c.args.self.now.kernel.limits (calls_of c.args.self.now.calls) t

pub returns-clause-placed : goal.returns-clause-placed
returns-clause-placed c cpu t = c.threads_are_placed.ensures c.args.self.now.kernel.limits (calls_of c.args.self.now.calls) cpu t

pub returns-clause-rested : goal.returns-clause-rested
returns-clause-rested c cpu = c.sleepers_had_no_post.ensures c.args.self.now.kernel.limits (calls_of c.args.self.now.calls) cpu

pub returns-clause-balanced : goal.returns-clause-balanced
returns-clause-balanced c = balanced c.args.self.now c.is_replay.ensures
