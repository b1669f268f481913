use Rattle.std.proofs.Common.{◌<◌, sym, subst, arith, ◌∙◌, ap}
use Rattle.pc_script.specs.declared.response.Response.TheVariants.{Truth}
use Rattle.pc_session.specs.Reads.{IsAsleep}
use Rattle.pc_session.proofs.Looking.{asleep_told}
use Rattle.pc_session.proofs.reads.put_asleep.Goals as goal

pub returns-then-index-cpus : goal.returns-then-index-cpus
returns-then-index-cpus c = λ w h.
    let low : c.args.cpu < c.kernel-kernel.result.now.limits.cpus = omega (arith, c.index.ensures, c.cpus.ensures.count, c.if-index-cpus.true) in
    subst (IsAsleep w c.args.cpu) (sym (c.put_truth.ensures ∙ ap Truth c.is_asleep.ensures))
    (asleep_told c.kernel-kernel.result.now c.args.cpu low w (c.kernel-kernel.ensures w h))
