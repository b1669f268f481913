use Rattle.std.proofs.Common.{◌≡◌, ap, Err}
use Rattle.pc_calls.specs.declared.limits.LimitsFault.TheVariants.{BadLimits}
use Rattle.pc_threads.proofs.book.Book.new.Goals as goal

pub returns-in-Err-clause-refused : goal.returns-in-Err-clause-refused
returns-in-Err-clause-refused c field = (
  λ e. let same : c.in-Err.fault ≡ BadLimits field = cc in (c.in-Err.ensures.refused field).0 (ap Err same),
  λ bad. let e = (c.in-Err.ensures.refused field).1 bad in let same : c.in-Err.fault ≡ BadLimits field = cc in ap Err same,
)
