use Rattle.std.proofs.Common.{◌∙◌, ap}
use Rattle.pc_calls.specs.Limits.{bad_field}
use Rattle.pc_calls.specs.declared.limits.Profile.TheVariants.{One}
use Rattle.pc_threads.proofs.Reported.{no_bad, no_bad_limit, sound_cpus}
use Rattle.pc_threads.proofs.book.Book.of_run.Goals as goal

pub unreachable-requires : goal.unreachable-requires
unreachable-requires c =
    let range = sound_cpus c.args.config.now c.cpus.result c.cpus.ensures c.is_sound.ensures in
    no_bad c.new.result c.in-Err-BadLimits.field-0 c.in-Err-BadLimits.field-0-0 (bad_field One c.limits_of.result) c.new.ensures.refused c.in-Err-BadLimits.is c.in-Err-BadLimits.field-0-is
    (ap (bad_field One) c.limits_of.ensures ∙ no_bad_limit c.cpus.result range.0 range.1)
