use Rattle.std.proofs.Common.{◌<◌, subst, sym}
use Rattle.pc_thread_view.specs.Told.{Told, told_by_prefix}
use Rattle.pc_thread_view.specs.Inner.Prefix.{Folded}
use Rattle.pc_thread_view.specs.Inner.Held.{told}
use Rattle.pc_thread_view.specs.Inner.Taking.{IsLoose, IsSettled}
use Rattle.pc_thread_view.proofs.Settling.{advance_loose, advance_source}
use Rattle.pc_thread_view.proofs.held.take_prefix.Goals as goal

-- what is told with another prefix
abbrev with_prefix : Told → Folded → Told
with_prefix v p = record { upto = p.upto; state = p.state; early = v.early }

pub settle-requires : goal.settle-requires
settle-requires c =
    let greater = subst (λ n. n < c.args.upto) c.upto.ensures c.if-upto.false in
    subst (λ p. IsLoose (with_prefix (told c.args.held.now) p)) (sym c.of-held.ensures) (advance_loose (told c.args.held.now) (told_by_prefix c.args.upto c.args.reported) c.requires.sound c.requires.prefix greater)

pub returns-clause-of_source : goal.returns-clause-of_source
returns-clause-of_source c = advance_source (told c.args.held.now) (told_by_prefix c.args.upto c.args.reported) (told c.settle.new.held) (subst (λ p. IsSettled (with_prefix (told c.args.held.now) p) (told c.settle.new.held)) c.of-held.ensures c.settle.ensures)
