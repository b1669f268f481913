use Rattle.pc_kernel.specs.Reads.{seen, kinds_read}
use Rattle.pc_threads.proofs.Settled.{SetLaws, settled_all, settled_short}
use Rattle.pc_threads.proofs.book.settling.settle_with.Goals as goal

pub returns-in-Some-first_short : goal.returns-in-Some-first_short
returns-in-Some-first_short c =
    let laws : SetLaws = record { within = c.sets_are_those_of_the_run.ensures.within; prefix = c.sets_are_those_of_the_run.ensures.prefix; next = c.sets_are_those_of_the_run.ensures.next } in (
      c.in_default.ensures,
      settled_short laws (seen c.args.kernel.now) c.args.views.now c.in-Ok.merged c.in-Ok.ensures.union c.in_default.ensures
          (c.in-Ok.ensures.of_run (kinds_read (seen c.args.kernel.now)) c.in_default.ensures) c.in-Some-first_short.thread c.in-Some-first_short.ensures,
    )

pub returns-in-None : goal.returns-in-None
returns-in-None c =
    let laws : SetLaws = record { within = c.sets_are_those_of_the_run.ensures.within; prefix = c.sets_are_those_of_the_run.ensures.prefix; next = c.sets_are_those_of_the_run.ensures.next } in
    settled_all laws (seen c.args.kernel.now) c.args.views.now c.in-Ok.merged c.in-Ok.ensures.union c.in_default.ensures
    (c.in-Ok.ensures.of_run (kinds_read (seen c.args.kernel.now)) c.in_default.ensures) c.in-None.ensures
