use Rattle.std.proofs.Common.{IsTrue, sym, subst}
use Rattle.pc_kernel.specs.Reads.{is_known}
use Rattle.pc_example.proofs.knows_all.Goals as goal

pub returns-in-Some : goal.returns-in-Some
returns-in-Some c = record {
  complete = λ limits w reached shows there has known.
      let kernel = c.kernel.ensures w shows in
      c.complete.ensures.exact.1 (c.who_has_all_is_complete.ensures limits w c.args.cpu c.args.thread c.kernel.result.now c.in-Some.view.now reached
      (record { of_kernel = kernel; of_agent = (c.in-Some.ensures w shows).1 }) has (subst (λ r. IsTrue (is_known r c.args.thread)) (sym kernel.reads) known));
}
